-- W3: what has a dependant stays; after any list of calls the listing shows the objects of the session that term 3 speaks of, each once, dependants first; and a DELETE of
-- each in turn meets no ERR_INCOMPATIBLE.
use Prim.Native.Nat.{ℕ, ◌<◌}
use mathlib.Core.Path.{◌≡◌, refl, sym, ap, ◌∙◌, subst}
use mathlib.Core.Bool.{Bool, true, false, cond, true≢false}
use mathlib.Core.List.{List, [], ◌∷◌}
use native.Mathlib.Omega.{arith}
use borrow.Author.Tests.{lt-ltb, le-ltb}
use lib.ListN.{length}
use Rattle.codec.proofs.bytes.Laws.{put_fits, put_nothing}
use Rattle.codec.specs.declared.refusals.Refusal.TheVariants.{OutputTooShort}
use Rattle.codec.specs.declared.submessages.ObjectKind.{ObjectKind}
use Rattle.codec.specs.declared.submessages.StatusCode.TheVariants.{ErrIncompatible}
use Rattle.isolation.proofs.Simulation.{none_some}
use Rattle.hours.specs.Windows.{Window}
use Rattle.sessions.specs.Table.{is_free}
use Rattle.sessions.specs.SessionObjects.{objects_named}
use Rattle.sessions.specs.View.{Tables, Entry, Local, session_shown, table_part, find_in, drop_in, Distinct, object_numbers}
use Rattle.sessions.specs.Calls.{SoundStream, SoundTables}
use Rattle.sessions.specs.Dependants.{has_dependant}
use Rattle.sessions.specs.ObjectList.{rank_of, in_order}
use Rattle.sessions.specs.TakeDown.{Alone, TakenDown}
use Rattle.sessions.proofs.SoundStreams.{stream_lasts}
use Rattle.sessions.proofs.Steps.{objects_named_lem}
use Rattle.sessions.proofs.session_objects.Laws.{list_is}
use Rattle.sessions.proofs.Ordered.{ordered, dependants_first}
use Rattle.sessions.proofs.TakeDown.{each_once, taken_down}
use Rattle.agent.specs.Local.{entry_handle, handle_at}
use Rattle.agent.specs.RulesObjects.{says, drops, create_unless, on_create, delete_found, on_delete}
use Rattle.agent.specs.TakeDown.{Stays, TakesDown, numbers_shown, Shows, Right}
use Rattle.agent.specs.Whole.{Hosted, session_in, set_up_with}
use Rattle.agent.specs.declared.state.Agent.{Agent}
use Rattle.agent.proofs.Promised.{state_after, inv_after}
use Rattle.agent.proofs.OwnRank.{own_rank}
use Rattle.std.specs.Prelude.{Err, Ok, Option, None, Some}

-- ---- what has a dependant stays

pub stays : Stays
stays stream number l e = by (find_in l.objects number) refl e
  where
    by : (x : Option Entry) → find_in l.objects number ≡ x → has_dependant l.objects x ≡ true
        → (on_delete stream number l ≡ says stream number ErrIncompatible l) × ((kind : ObjectKind) (parent : ℕ) (body : List ℕ) → on_create kind stream number parent body l ≡ says stream number ErrIncompatible l)
    by None q e = absurd (true≢false (sym e))
    by (Some x) q e = (
      ap (λ (o : Option Entry). delete_found stream number o l) q ∙ ap (λ (b : Bool). cond b (says stream number ErrIncompatible l) (drops stream number x.handle l)) e,
      λ kind parent body. rw q (ap (λ (b : Bool). create_unless b kind stream number parent body l) e),
    )

-- ---- a session is taken down

delete_alone : (stream n : ℕ) (l : Local) → Alone l.objects n → on_delete stream n l ≡ drops stream n (handle_at n l) l
delete_alone stream n l a =
    ap (λ (o : Option Entry). delete_found stream n o l) a.held
    ∙ ap (λ (b : Bool). cond b (says stream n ErrIncompatible l) (drops stream n a.entry.handle l)) a.alone
    ∙ ap (λ (h : Option ℕ). drops stream n h l) (sym (ap entry_handle a.held))

takes_along : (stream : ℕ) (ns : List ℕ) (es : List Entry) → TakenDown es ns → TakesDown stream es ns
unfolding TakenDown TakesDown
takes_along stream [] es d = d
takes_along stream (n ∷ ns) es d = (λ l e. delete_alone stream n l (subst (λ (xs : List Entry). Alone xs n) (sym e) d.0), takes_along stream ns (drop_in es n) d.1)

right : (l : Local) → Distinct (object_numbers l.objects) → ((n : ℕ) (e : Entry) → find_in l.objects n ≡ Some e → rank_of e.kind ≡ e.kind) → Right l
right l d own =
    let es = l.objects in
    record { once = each_once es d; ordered = ordered es d; own_rank = own; dependants_first = dependants_first es d; takes_down = λ stream. takes_along stream (in_order es) es (taken_down es d) }

-- ---- what the listing shows

module _ {most : ℕ} (t : Tables) (sound : SoundTables SoundStream most t) (id : ℕ) (id< : id < 256) where
  -- the answer of a session, or of None
  shows : (out : List ℕ) → Shows t id out (numbers_shown (session_in t id))
  shows out = rw (lt-ltb id 256 id<) (by (is_free t.sessions id) refl)
    where
      named : (b : Bool) → is_free t.sessions id ≡ b → objects_named t.sessions (length t.objects) id ≡ cond b (Ok false) (Ok true)
      named b e = objects_named_lem SoundStream stream_lasts most t sound id id< ∙ ap (λ (b : Bool). cond b (Ok false) (Ok true)) e

      by : (b : Bool) → is_free t.sessions id ≡ b → Shows t id out (numbers_shown (cond b None (Some (session_shown id (table_part t id)))))
      by true e =
          let p = list_is t.sessions t.objects id out (Ok false) (named true e) in
          record {
            answers = sym p.0 ∙ sym (ap (λ (b : Bool). cond b (Err OutputTooShort) (Ok 0)) (le-ltb (length out) 0 (omega arith)));
            output = sym p.1 ∙ sym (sym (put_fits out 0 [] (omega arith)).1 ∙ put_nothing out 0);
          }
      by false e = let p = list_is t.sessions t.objects id out (Ok true) (named false e) in record { answers = sym p.0; output = sym p.1 }

  -- a live session's objects have different numbers
  differ : (l : Local) → session_in t id ≡ Some l → Distinct (object_numbers l.objects)
  differ l = rw (lt-ltb id 256 id<) (by (is_free t.sessions id))
    where
      by : (b : Bool) → cond b None (Some (session_shown id (table_part t id))) ≡ Some l → Distinct (object_numbers l.objects)
      by true e = absurd (none_some e)
      by false e = subst (λ (x : Option Local). DistinctIn x) e (sound.each id id<).objects_differ
        where
          DistinctIn : Option Local → Type 0
          DistinctIn None = Unit {0}
          DistinctIn (Some m) = Distinct (object_numbers m.objects)

-- whatever stood in the tables that set-up accepts
module _ (t : Tables) (hours : List ℕ) (ws : List Window) (max timeout : ℕ) (a : Agent) (made : set_up_with t hours ws max timeout ≡ Ok a) (H : List Hosted) where
  abbrev now : Tables
  now = (state_after t hours ws max timeout a made H).tables

  -- after any list of calls the listing of an id shows the session that term 3 speaks of
  pub listing_shows : (id : ℕ) → id < 256 → (out : List ℕ) → Shows now id out (numbers_shown (session_in now id))
  listing_shows id id< out = shows now (inv_after t hours ws max timeout a made H).sound id id< out

  -- with each of its objects once, dependants first
  pub listing_right : (id : ℕ) → id < 256 → (l : Local) → session_in now id ≡ Some l → Right l
  listing_right id id< l e = right l (differ now (inv_after t hours ws max timeout a made H).sound id id< l e) (own_rank t hours ws max timeout a made H id l e)
