-- W1: a writer or reader is made with the handles of the two objects that its parent number names, and exactly where both are held so.
use Rattle.std.specs.Prelude.{Option, None, Some}
use Prim.Native.Nat.{ℕ}
use mathlib.Core.Path.{◌≡◌, refl, ap, ◌∙◌}
use mathlib.Core.Bool.{Bool, true, false, cond}
use mathlib.Core.List.{List}
use borrow.Author.Tests.{eq-eqb, eqb-true}
use lib.Dec.{eqb}
use Rattle.codec.specs.Submessages.{kind_byte}
use Rattle.codec.specs.declared.submessages.ObjectKind.{ObjectKind}
use Rattle.codec.specs.declared.submessages.ObjectKind.TheVariants.{Participant, Topic, DataWriter, DataReader}
use Rattle.codec.specs.declared.submessages.StatusCode.TheVariants.{ErrInvalidData, ErrResources}
use Rattle.isolation.proofs.Simulation.{none_some}
use Rattle.sessions.specs.View.{Entry, Local, find_in}
use Rattle.sessions.specs.Dependants.{has_dependant}
use Rattle.moves.specs.Calls.{Call, create_writer, create_reader, creating}
use Rattle.agent.specs.Local.{entry_handle}
use Rattle.agent.specs.Parents.{of_kind, both_handles, handles_above, handles_named}
use Rattle.agent.specs.RulesObjects.{Move, says, asks, if_handles, create_with, create_for, create_unless, on_create}
use Rattle.agent.specs.Follows.{Follows, MadeBy, FollowsExactly}

-- ---- one object held with its kind

record Held (kind : ObjectKind) (x : Option Entry) (h : ℕ) : Type 0 where
  entry : Entry
  named : x ≡ Some entry
  kind_is : entry.kind ≡ kind_byte kind
  handle_is : entry.handle ≡ Some h

held_from : (kind : ObjectKind) (x : Option Entry) (h : ℕ) → entry_handle (of_kind kind x) ≡ Some h → Held kind x h
held_from kind None h e = absurd (none_some e)
held_from kind (Some a) h e = by (eqb a.kind (kind_byte kind)) refl e
  where
    by : (b : Bool) → eqb a.kind (kind_byte kind) ≡ b → entry_handle (cond b (Some a) None) ≡ Some h → Held kind (Some a) h
    by true k e = record { entry = a; named = refl; kind_is = eqb-true a.kind (kind_byte kind) k; handle_is = e }
    by false k e = absurd (none_some e)

of_kind_lem : (kind : ObjectKind) (x : Option Entry) (a : Entry) → x ≡ Some a → a.kind ≡ kind_byte kind → of_kind kind x ≡ Some a
of_kind_lem kind x a e k = ap (of_kind kind) e ∙ ap (λ (b : Bool). cond b (Some a) None) (eq-eqb a.kind (kind_byte kind) k)

-- ---- both

abbrev first : Option (ℕ × ℕ) → Option ℕ
first None = None
first (Some x) = Some x.0

abbrev second : Option (ℕ × ℕ) → Option ℕ
second None = None
second (Some x) = Some x.1

both_from : (x y : Option ℕ) (p t : ℕ) → both_handles x y ≡ Some (p, t) → (x ≡ Some p) × (y ≡ Some t)
both_from None y p t e = absurd (none_some e)
both_from (Some a) None p t e = absurd (none_some e)
both_from (Some a) (Some b) p t e = (ap first e, ap second e)

module _ (es : List Entry) (parent p t : ℕ) where
  objects : (x : Option Entry) → find_in es parent ≡ x → handles_above es (of_kind Topic x) ≡ Some (p, t) → Follows es parent p t
  objects None q e = absurd (none_some e)
  objects (Some a) q e = by (eqb a.kind (kind_byte Topic)) refl e
    where
      by : (b : Bool) → eqb a.kind (kind_byte Topic) ≡ b → handles_above es (cond b (Some a) None) ≡ Some (p, t) → Follows es parent p t
      by true k e =
          let hs = both_from (entry_handle (of_kind Participant (find_in es a.parent))) a.handle p t e in
          let u = held_from Participant (find_in es a.parent) p hs.0 in
          record {
            topic = a;
            topic_named = q;
            topic_kind = eqb-true a.kind (kind_byte Topic) k;
            topic_handle = hs.1;
            participant = u.entry;
            participant_named = u.named;
            participant_kind = u.kind_is;
            participant_handle = u.handle_is;
          }
      by false k e = absurd (none_some e)

  pub follows : handles_named es parent ≡ Some (p, t) → Follows es parent p t
  follows e = objects (find_in es parent) refl e

  pub handles : Follows es parent p t → handles_named es parent ≡ Some (p, t)
  handles f =
      let above = of_kind_lem Participant (find_in es f.topic.parent) f.participant f.participant_named f.participant_kind in
      ap (handles_above es) (of_kind_lem Topic (find_in es parent) f.topic f.topic_named f.topic_kind)
      ∙ (λ i. both_handles ((ap entry_handle above ∙ f.participant_handle) i) (f.topic_handle i))

-- ---- the rule

module _ (kind : ObjectKind) (stream number parent : ℕ) (call : ℕ → ℕ → Call) (l : Local) where
  abbrev made : Option (ℕ × ℕ) → Move
  made x = if_handles x (λ p t. asks stream number (creating (kind_byte kind) parent) (call p t) l) (says stream number ErrInvalidData l)

  called : (p t : ℕ) → Follows l.objects parent p t → made (handles_named l.objects parent) ≡ made (Some (p, t))
  called p t f = ap made (handles l.objects parent p t f)

  uncalled : ((p t : ℕ) → Follows l.objects parent p t → ⊥) → made (handles_named l.objects parent) ≡ made None
  uncalled never = by (handles_named l.objects parent) refl
    where
      by : (x : Option (ℕ × ℕ)) → handles_named l.objects parent ≡ x → made x ≡ made None
      by None e = refl
      by (Some x) e = absurd (never x.0 x.1 (follows l.objects parent x.0 x.1 e))

-- of a kind whose rule is this one
exactly : (kind : ObjectKind) (call : ℕ → ℕ → Call)
    → ((stream number parent : ℕ) (body : List ℕ) (l : Local) → create_for kind stream number parent body l ≡ create_with kind stream number parent call l)
    → MadeBy kind call
exactly kind call is stream number parent body l e u =
    (λ p t f. within ∙ called kind stream number parent call l p t f, λ never. within ∙ uncalled kind stream number parent call l never)
  where
    within : on_create kind stream number parent body l ≡ create_with kind stream number parent call l
    within =
        ap (λ (b : Bool). cond b (says stream number ErrResources l) (create_unless (has_dependant l.objects (find_in l.objects number)) kind stream number parent body l)) e
        ∙ ap (λ (b : Bool). create_unless b kind stream number parent body l) u
        ∙ is stream number parent body l

pub follows_exactly : FollowsExactly
follows_exactly =
    (exactly DataWriter create_writer (λ stream number parent body l. refl), exactly DataReader create_reader (λ stream number parent body l. refl))
