-- W6 over the rules of one session: nothing but a FRAGMENT within the limits changes the store, and a payload's fragments rebuild it.
use Rattle.std.specs.Prelude.{Option, None, Some}
use Prim.Native.Nat.{ℕ, zero, suc, ◌+◌, ◌-◌, ◌*◌, ◌/◌, ◌<◌, ◌≤◌}
use mathlib.Core.Path.{◌≡◌, refl, sym, ap, ◌∙◌}
use mathlib.Core.Logic.{◌≢◌, ◌⊎◌, inl, inr, ⊎_elim}
use mathlib.Core.Bool.{Bool, true, false, cond, or-true, or-false}
use mathlib.Core.List.{List, [], ◌∷◌, ◌++◌}
use native.Mathlib.Nat.{div-lt_iff_lt-mul}
use native.Mathlib.Omega.{arith}
use borrow.Author.Tests.{le-leb, lt-ltb, eqb-true, eqb-false, eq-eqb, ne_eqb}
use lib.Dec.{eqb}
use lib.ListN.{get_or, length, set, replicate}
use Rattle.codec.specs.Cutting.{bodies, joined}
use Rattle.codec.specs.Grammar.{Said}
use Rattle.codec.specs.Inserts.{Slot, free, holds, came, AllCame}
use Rattle.codec.specs.Rebuilt.{rebuilt_reading}
use Rattle.codec.specs.declared.submessages.FragmentPayload.{FragmentPayload}
use Rattle.codec.specs.declared.submessages.Submessage.{Submessage}
use Rattle.codec.specs.declared.submessages.Submessage.TheVariants.{CreateClient, Create, Delete, Status, WriteData, ReadData, Data, Heartbeat, Acknack, Fragment}
use Rattle.codec.proofs.cutting.Laws.{length_bodies, joined_bodies}
use Rattle.codec.proofs.cutting.Theorems.{cut_keeps}
use Rattle.codec.proofs.reassembly.Numbers.{came_more}
use Rattle.codec.proofs.rebuilt.Laws.{reading_refused}
use Rattle.isolation.specs.Rules.{Bytes, done, calls}
use Rattle.sessions.specs.FragmentStore.{FragmentStore, empty_store, allowed, slots_for, slots_with, whole_of, store_behind, gathered_store, gathered_bytes}
use Rattle.sessions.specs.View.{Local}
use Rattle.moves.specs.Calls as moves
use Rattle.moves.specs.Calls.{Answer}
use Rattle.agent.specs.Local.{touched, with_store}
use Rattle.agent.specs.Brings.{In, in_of}
use Rattle.agent.specs.RulesObjects.{Move}
use Rattle.agent.specs.RulesAnswers.{on_answer}
use Rattle.agent.specs.RulesFragments.{Pending, Working, plain, behind, onto, rebuilt_from, brought_by, handle_by, handle, resumed}
use Rattle.agent.specs.Fragments.{Within, Fresh, fragment_of, feeds, leaves, Missing, Completes, Fed, begins, other, answer, fragment, slots_from, kept_after, RebuildsRight, RebuildsBodies, RebuildsCut}
use Rattle.agent.specs.declared.state.Moment.{Moment}
use Rattle.agent.proofs.MoveCases.{submessage_cases, answer_cases}

-- ---- what leaves the store as it is

-- a submessage as it stands, and an answer
pub plain_store : (l : Local) (i : In) → (leaves (plain l i)).store ≡ l.store
plain_store l i =
    submessage_cases (λ m. (leaves m).store ≡ l.store) (λ l'. l'.store ≡ l.store) i.moment.is_open i.fields i.stream (touched i.moment.time l) refl (λ es. refl) refl (λ l' q. q)
    (λ l' n code q. q) (λ l' n task call q r. q) (λ first last. refl) (λ p e. refl) i.body

pub answer_store : (l : Local) (p : moves.Pending) (a : Answer) → (leaves (on_answer l p a)).store ≡ l.store
answer_store l p a = answer_cases (λ m. (leaves m).store ≡ l.store) p.stream p.number l (λ rs. refl) (λ es rs. refl) (λ ks rs. refl) p.task a

-- rebuilt submessages
behind_leaves : (rs : List Bytes) (w : Working) → leaves (behind rs w) ≡ leaves w
behind_leaves rs (done l more) = refl
behind_leaves rs (calls l more c p) = refl

pub onto_store : (is : List In) (m : Move) → (leaves (onto is m)).store ≡ (leaves m).store
unfolding onto
onto_store [] (done l rs) = refl
onto_store [] (calls l rs c p) = refl
onto_store (i ∷ is) (done l rs) = ap (λ (l : Local). l.store) (behind_leaves rs (onto is (plain l i))) ∙ onto_store is (plain l i) ∙ plain_store l i
onto_store (i ∷ is) (calls l rs c p) = refl

-- a submessage that doesn't feed it, and an answer with rebuilt submessages behind it
pub other_store : (l : Local) (i : In) → feeds i.fields i.body ≡ false → (leaves (handle l i)).store ≡ l.store
other_store l i = by i.fields
  where
    as_it_stands : (leaves (onto [] (plain l i))).store ≡ l.store
    as_it_stands = onto_store [] (plain l i) ∙ plain_store l i

    by : (m : Submessage) → feeds m i.body ≡ false → (leaves (handle_by m i l)).store ≡ l.store
    by (Fragment p) e =
        let nr = p.fragment_nr in
        let total = p.total_fragments in
        let slots = slots_with l.store nr total i.body in
        onto_store _ _ ∙ ap (λ (b : Bool). cond b (store_behind total slots (whole_of slots)) l.store) e
    by (CreateClient p) e = as_it_stands
    by (Create p) e = as_it_stands
    by (Delete p) e = as_it_stands
    by (Status p) e = as_it_stands
    by (WriteData p) e = as_it_stands
    by (ReadData p) e = as_it_stands
    by (Data p) e = as_it_stands
    by (Heartbeat p) e = as_it_stands
    by (Acknack p) e = as_it_stands

-- "with total 0, a total over 64, a number not below its total or a longer body it changes nothing but the touch"
pub only_touched : (l : Local) (moment : Moment) (stream : ℕ) (p : FragmentPayload) (body : List ℕ) → feeds (Fragment p) body ≡ false
    → handle l (in_of moment stream (Fragment p) body) ≡ done (touched moment.time l) []
unfolding onto
only_touched l moment stream p body e =
    let i = in_of moment stream (Fragment p) body in
    let slots = slots_with l.store p.fragment_nr p.total_fragments body in
    ap (λ (b : Bool). onto (brought_by i (cond b (whole_of slots) None)) (done (with_store (touched moment.time l) (cond b (store_behind p.total_fragments slots (whole_of slots)) l.store)) [])) e

pub resumed_store : (l : Local) (p : Pending) (a : Answer) → (leaves (resumed l p a)).store ≡ l.store
resumed_store l p a = onto_store p.left (on_answer l p.asked a) ∙ answer_store l p.asked a

-- ---- the slots behind one number more

came_now : (k : ℕ) (nrs : List ℕ) → came k (nrs ++ (k ∷ [])) ≡ true
came_now k nrs = came_more k nrs k ∙ rw (eq-eqb k k refl) (or-true (came k nrs))

came_else : (j k : ℕ) (nrs : List ℕ) → k ≢ j → came j (nrs ++ (k ∷ [])) ≡ came j nrs
came_else j k nrs h = came_more j nrs k ∙ rw (ne_eqb k j h) (or-false (came j nrs))

-- none came yet
slots_none : (n : ℕ) (bs : List (List ℕ)) → replicate (length bs) free ≡ slots_from n bs []
unfolding came
slots_none n [] = refl
slots_none n (b ∷ bs) = ap {B = List Slot} (λ more. free ∷ more) (slots_none (suc n) bs)

-- a number before these slots
slots_behind : (n m : ℕ) (bs : List (List ℕ)) (nrs : List ℕ) → m < n → slots_from n bs nrs ≡ slots_from n bs (nrs ++ (m ∷ []))
slots_behind n m [] nrs h = refl
slots_behind n m (b ∷ bs) nrs h = rw (came_else n m nrs (λ e. omega arith), slots_behind (suc n) m bs nrs (omega arith))

-- "A repeated fragment replaces the body held": with its own, which is the same
slots_set : (n k : ℕ) (bs : List (List ℕ)) (nrs : List ℕ) (at : ℕ) → n + k ≡ at → k < length bs → set (slots_from n bs nrs) k (holds (get_or bs k [])) ≡ slots_from n bs (nrs ++ (at ∷ []))
slots_set n zero [] nrs at e h = absurd (omega arith)
slots_set n zero (b ∷ bs) nrs at e h =
    let z : at ≡ n = omega arith in rw (z, came_now n nrs, slots_behind (suc n) n bs nrs (omega arith))
slots_set n (suc k) [] nrs at e h = absurd (omega arith)
slots_set n (suc k) (b ∷ bs) nrs at e h = rw (came_else n at nrs (λ z. omega arith), slots_set (suc n) k bs nrs at (omega arith) (omega arith))

-- ---- the whole

-- every number has come
whole_all : (n : ℕ) (bs : List (List ℕ)) (nrs : List ℕ) → ((k : ℕ) → n ≤ k → k < n + length bs → came k nrs ≡ true) → whole_of (slots_from n bs nrs) ≡ Some (joined bs)
unfolding joined
whole_all n [] nrs all = refl
whole_all n (b ∷ bs) nrs all = rw (all n (omega arith) (omega arith), whole_all (suc n) bs nrs (λ k h h'. all k (omega arith) (omega arith)))

-- one hasn't
none_behind : (b : Bool) (body : List ℕ) (more : List Slot) → whole_of more ≡ None → whole_of (cond b (holds body) free ∷ more) ≡ None
none_behind true body more e = rw e
none_behind false body more e = refl

whole_missing : (n k : ℕ) (bs : List (List ℕ)) (nrs : List ℕ) (at : ℕ) → n + k ≡ at → k < length bs → came at nrs ≡ false → whole_of (slots_from n bs nrs) ≡ None
whole_missing n zero [] nrs at e h gone = absurd (omega arith)
whole_missing n zero (b ∷ bs) nrs at e h gone = let z : at ≡ n = omega arith in rw (rw z at gone)
whole_missing n (suc k) [] nrs at e h gone = absurd (omega arith)
whole_missing n (suc k) (b ∷ bs) nrs at e h gone = none_behind (came n nrs) b (slots_from (suc n) bs nrs) (whole_missing (suc n) k bs nrs at (omega arith) (omega arith) gone)

-- one or the other
missing_or_all : (n : ℕ) (nrs : List ℕ) → Missing n nrs ⊎ AllCame n nrs
missing_or_all zero nrs = inr (λ k h. absurd (omega arith))
missing_or_all (suc n) nrs = by (came n nrs) refl (missing_or_all n nrs)
  where
    last : came n nrs ≡ true → AllCame n nrs → AllCame (suc n) nrs
    last e all k h = here (eqb k n) refl
      where
        here : (b : Bool) → eqb k n ≡ b → came k nrs ≡ true
        here true q = rw (eqb-true k n q) e
        here false q = all k (let d = eqb-false k n q in omega arith)

    by : (b : Bool) → came n nrs ≡ b → Missing n nrs ⊎ AllCame n nrs → Missing (suc n) nrs ⊎ AllCame (suc n) nrs
    by false e x = inl (n, omega arith, e)
    by true e (inl m) = inl (m.0, (let h = m.1 in omega arith), m.2)
    by true e (inr all) = inr (last e all)

-- ---- a fragment of the payload

-- refused bytes bring nothing
none_brought : (moment : Moment) (stream : ℕ) (xs : List Said) (l : Local) → xs ≡ [] → onto (rebuilt_from moment stream xs) (done l []) ≡ done l []
unfolding onto
none_brought moment stream xs l e = rw e

module _ (bs : List (List ℕ)) (w : Within bs) (st : FragmentStore) (fresh : Fresh bs st) where
  another : Fresh bs st → st.total ≡ length bs → ⊥
  another (inl e) z = let h = w.some in omega (arith, ap (λ (s : FragmentStore). s.total) e)
  another (inr h) z = h z

  -- the slots that it finds
  slots_found : (nrs : List ℕ) → slots_for (kept_after bs st nrs) (length bs) ≡ slots_from 0 bs nrs
  slots_found [] = rw (ne_eqb st.total (length bs) (another fresh)) (slots_none 0 bs)
  slots_found (nr ∷ nrs) = rw (eq-eqb (length bs) (length bs) refl)

  kept_more : (nrs : List ℕ) (k : ℕ) → kept_after bs st (nrs ++ (k ∷ [])) ≡ record { total = length bs; slots = slots_from 0 bs (nrs ++ (k ∷ [])) }
  kept_more [] k = refl
  kept_more (nr ∷ nrs) k = refl

  module _ (nrs : List ℕ) (k : ℕ) (below : k < length bs) where
    abbrev now : List ℕ
    now = nrs ++ (k ∷ [])

    lets : allowed k (length bs) (length (get_or bs k [])) ≡ true
    lets =
        rw (ne_eqb (length bs) 0 (λ z. let h = w.some in omega arith), le-leb (length bs) 64 w.few, lt-ltb k (length bs) below)
        (le-leb (length (get_or bs k [])) 512 (w.short k below))

    slots_now : slots_with (kept_after bs st nrs) k (length bs) (get_or bs k []) ≡ slots_from 0 bs now
    slots_now = rw (slots_found nrs) (slots_set 0 k bs nrs k (omega arith) below)

    store_now : gathered_store (kept_after bs st nrs) k (length bs) (get_or bs k []) ≡ store_behind (length bs) (slots_from 0 bs now) (whole_of (slots_from 0 bs now))
    store_now = rw (lets, slots_now)

    bytes_now : gathered_bytes (kept_after bs st nrs) k (length bs) (get_or bs k []) ≡ whole_of (slots_from 0 bs now)
    bytes_now = rw (lets, slots_now)

    module _ (l : Local) (e : l.store ≡ kept_after bs st nrs) (moment : Moment) (stream : ℕ) where
      abbrev comes_to : Option (List ℕ) → FragmentStore → Working
      comes_to bytes s = onto (brought_by (fragment_of bs k moment stream) bytes) (done (with_store (touched moment.time l) s) [])

      abbrev Comes : Option (List ℕ) → Type 0
      Comes bytes = handle l (fragment_of bs k moment stream) ≡ comes_to bytes (store_behind (length bs) (slots_from 0 bs now) bytes)

      comes_now : Comes (whole_of (slots_from 0 bs now))
      comes_now =
          ap (λ (s : FragmentStore). comes_to (gathered_bytes s k (length bs) (get_or bs k [])) (gathered_store s k (length bs) (get_or bs k []))) e
          ∙ (λ j. comes_to (bytes_now j) (store_now j))

      waits_now : Missing (length bs) now → handle l (fragment_of bs k moment stream) ≡ done (with_store (touched moment.time l) (kept_after bs st now)) []
      unfolding onto
      waits_now m =
          let c : Comes None = rw (whole_missing 0 m.0 bs now m.0 (omega arith) m.1 m.2) at comes_now in
          c ∙ ap (λ (s : FragmentStore). done (with_store (touched moment.time l) s) []) (sym (kept_more nrs k))

      takes_now : AllCame (length bs) now → Comes (Some (joined bs))
      takes_now all = rw (whole_all 0 bs now (λ j h h'. all j (omega arith))) at comes_now

  -- with what a session's store is, all of the promise
  right_of : (nrs : List ℕ) (l : Local) → l.store ≡ kept_after bs st nrs → RebuildsRight bs (joined bs) st nrs l
  right_of nrs l e =
      record {
        kept = e;
        either = λ k h. ⊎_elim (λ m. inl (h, m)) (λ all. inr (h, all)) (missing_or_all (length bs) (nrs ++ (k ∷ [])));
        waits = λ k moment stream p. waits_now nrs k p.0 l e moment stream p.1;
        takes_effect = takes;
        emptied = λ k moment stream p. ap (λ (x : Working). (leaves x).store) (takes k moment stream p) ∙ onto_store _ _;
        refused = λ k moment stream p r f. takes k moment stream p ∙ none_brought moment stream (rebuilt_reading (joined bs)) _ (reading_refused (joined bs) r f);
      }
    where
      takes : (k : ℕ) (moment : Moment) (stream : ℕ) → Completes bs nrs k
          → handle l (fragment_of bs k moment stream) ≡ onto (rebuilt_from moment stream (rebuilt_reading (joined bs))) (done (with_store (touched moment.time l) empty_store) [])
      takes k moment stream p = takes_now nrs k p.0 l e moment stream p.1

-- ---- the life of a session

module _ (bs : List (List ℕ)) (l : Local) (w : Within bs) (fresh : Fresh bs l.store) where
  fed_store : (nrs : List ℕ) (l' : Local) → Fed bs l nrs l' → l'.store ≡ kept_after bs l.store nrs
  fed_store nrs l' begins = refl
  fed_store nrs l' (other nrs₀ l₀ i f e) = other_store l₀ i e ∙ fed_store nrs₀ l₀ f
  fed_store nrs l' (answer nrs₀ l₀ p a f) = resumed_store l₀ p a ∙ fed_store nrs₀ l₀ f
  fed_store nrs l' (fragment nrs₀ l₀ k moment stream f p) =
      ap (λ (x : Working). (leaves x).store) (waits_now bs w l.store fresh nrs₀ k p.0 l₀ (fed_store nrs₀ l₀ f) moment stream p.1)

-- "Term 2's sentence on fragments here holds"
pub rebuilds_right : RebuildsBodies
rebuilds_right bs l l' nrs w fresh f = right_of bs w l.store fresh nrs l' (fed_store bs l w fresh nrs l' f)

-- what is cut is what is read
pub rebuilds_cut : RebuildsCut
rebuilds_cut size payload l l' nrs sized w fresh f = rw (joined_bodies size sized payload) at (rebuilds_right (bodies size payload) l l' nrs w fresh f)

-- a cut within the limits: bodies of up to 512 bytes, and no more than 64 of them
pub cut_within : (size : ℕ) (payload : List ℕ) → 0 < size → size ≤ 512 → 0 < length payload → length payload ≤ 64 * size → Within (bodies size payload)
cut_within size payload sized short bytes few =
    let c = cut_keeps size payload sized bytes in
    let n = length_bodies size sized payload bytes in
    let q : (length payload - 1) / size < 64 = (div-lt_iff_lt-mul sized).1 (omega arith) in
    record {
      some = c.some;
      few = omega arith;
      short = λ k h. by k h (eqb (suc k) (length (bodies size payload))) refl;
    }
  where
    by : (k : ℕ) → k < length (bodies size payload) → (b : Bool) → eqb (suc k) (length (bodies size payload)) ≡ b → length (get_or (bodies size payload) k []) ≤ 512
    by k h true q = omega (arith, ((cut_keeps size payload sized bytes).last k (eqb-true (suc k) (length (bodies size payload)) q)).1)
    by k h false q =
        let d = eqb-false (suc k) (length (bodies size payload)) q in
        omega (arith, (cut_keeps size payload sized bytes).full k (omega arith))
