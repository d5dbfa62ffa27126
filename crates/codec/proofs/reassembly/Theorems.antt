-- What is promised of a fragment store, for every list of inserts.
use Prim.Native.Nat.{ℕ, ◌*◌, ◌≤◌, ◌<◌, min}
use mathlib.Core.Path.{◌≡◌, refl, sym, ap, ◌∙◌}
use mathlib.Core.Bool.{Bool, true, false, cond, ◌||◌, or-true, or-false}
use mathlib.Core.List.{List, [], ◌∷◌, ◌++◌, map}
use native.Mathlib.Decide.{dec_le}
use native.Mathlib.Nat.{zero-mul, lt_of_not-le, min-le_left, min-le_right}
use native.Mathlib.Omega.{arith}
use borrow.Author.Tests.{lt-ltb, le-ltb, eqb-true, eqb-false}
use lib.Dec.{eqb}
use lib.ListN.{get_or, length, take, drop, set, length-set, length-map, get_or-map, get_or-eq_default, length-take, length-drop}
use lib.Seq.{ext_get_or, length-take-le, get_or-take, get_or-set_same, get_or-set_other}
use Rattle.codec.specs.Answers.{gives, refused_as, made_answer, inserted_answer}
use Rattle.codec.specs.Bytes.{put_of, put_bytes}
use Rattle.codec.specs.Cutting.{bodies, joined}
use Rattle.codec.specs.Reassembly.{new_of, new_lengths, store_over, under_need, grown, insert_check_of, insert_of, inserted_if, any_of, has_fragment, bodies_held, payload_of, assemble_check, assemble_of, assemble_out, over_limit}
use Rattle.codec.specs.Inserts.{Store, Piece, insert_into, inserts, free, holds, slots_in, last_of, came, different, pieces, store_after, AllCame, Rebuilds, Tells, Rebuild}
use Rattle.codec.specs.declared.reassembly.ReassemblyBuffer.{ReassemblyBuffer}
use Rattle.codec.specs.declared.refusals.Refusal.{Refusal}
use Rattle.codec.proofs.cutting.Laws.{body_at, joined_bodies}
use Rattle.codec.proofs.reassembly.Laws.{insert_refused, insert_held}
use Rattle.codec.proofs.reassembly.View.{held_set, body_in, bodies_of_slots, is_held, held_entry}
use Rattle.codec.proofs.reassembly.Inserts.{made, view, Good, length_view, check_good, run, new_good, new_free}
use Rattle.codec.proofs.reassembly.Held.{new_tells, sound_tells}
use Rattle.codec.proofs.reassembly.Numbers.{came_more, different_all, different_less, held_different, arrives}
use Rattle.std.specs.Prelude.{Err, Ok, Result}

-- An insert that is refused changes nothing, whatever the store.
refused_check : (c : Result (Unit {0}) Refusal) (b : ReassemblyBuffer) (all : Bool) (number byte : ℕ) → inserted_answer (inserted_if c (Ok (b, all))) ≡ refused_as number byte
    → (why : Refusal) × (c ≡ Err why)
refused_check (Err why) b all number byte e = (why, refl)
refused_check (Ok tt) b all number byte e = let z : ◌≡◌ {A = ℕ} 0 1 = cc in absurd (omega arith)

pub refused_keeps : (st : Store) (p : Piece) (number byte : ℕ)
    → inserted_answer (insert_of st.buffer st.slots st.lengths p.nr p.body) ≡ refused_as number byte → insert_into st p ≡ st
unfolding insert_into insert_of
refused_keeps st p number byte e =
    let c = refused_check (insert_check_of st.buffer st.slots st.lengths p.nr p.body) _ _ number byte e in
    let q = insert_refused st.buffer st.slots st.lengths p.nr p.body c.0 c.1 in
    rw (← q.0, ← q.1.0, ← q.1.1)

module _ (total width : ℕ) (slots lengths : List ℕ) (buffer : ReassemblyBuffer) (new : made_answer (new_of total width slots lengths) ≡ gives buffer) where
  -- A repeated fragment replaces the body held: after any inserts into a new store, slot k holds the body of the last with that number.
  pub last_held : (ps : List Piece) (k : ℕ) → k < total
      → get_or (slots_in (inserts (record { buffer = buffer; slots = slots; lengths = new_lengths total width slots lengths }) ps)) k free ≡ last_of width k ps free
  last_held ps k h =
      let t = new_tells total width slots lengths buffer new in
      let r = run total width 0 slots (new_lengths total width slots lengths) (new_good total width slots lengths t.0) ps in
      rw (← t.1, r.is) (r.last k h ∙ ap (last_of width k ps) (new_free total width slots lengths t.0 k))

-- A store for 0 fragments is complete from the start and assembles to nothing.
pub none_asked : (width : ℕ) (slots lengths : List ℕ) → made_answer (new_of 0 width slots lengths) ≡ gives (made 0 width 0 slots lengths).buffer
unfolding new_of under_need
none_asked width slots lengths = rw (zero-mul width, le-ltb (length slots) 0 (omega arith), le-ltb (length lengths) 0 (omega arith))

pub none_joined : (width : ℕ) (slots lengths out : List ℕ)
    → (assemble_of (made 0 width 0 slots lengths).buffer slots lengths out ≡ put_of out 0 [])
    × (assemble_out (made 0 width 0 slots lengths).buffer slots lengths out ≡ put_bytes out 0 [])
unfolding assemble_of assemble_out assemble_check over_limit store_over under_need any_of payload_of bodies_held joined
none_joined width slots lengths out = rw (zero-mul width, le-ltb (length slots) 0 (omega arith), le-ltb (length lengths) 0 (omega arith)) (refl, refl)

-- Fragments of one cut: a store within its limits whose slot k holds body k where that number has come, and is free where it hasn't.
module _ (bs : List (List ℕ)) (payload : List ℕ) (width : ℕ) (joins : joined bs ≡ payload) (fits : (k : ℕ) → length (get_or bs k []) ≤ width)
    (nrs : List ℕ) (received : ℕ) (slots lengths : List ℕ) (good : Good (length bs) width received slots lengths)
    (so : (k : ℕ) → k < length bs → get_or (view (length bs) width slots lengths) k free ≡ cond (came k nrs) (holds (get_or bs k [])) free) where
  count : received ≡ different (length bs) nrs
  count =
      let l = length_view (length bs) width good in
      good.counted ∙ rw l at (held_different bs (view (length bs) width slots lengths) nrs (λ k h. so k (omega arith)))

  held_if : (b : List ℕ) (t : Bool) → is_held (cond t (holds b) free) ≡ t
  unfolding is_held
  held_if b true = refl
  held_if b false = refl

  has : (k : ℕ) → k < length bs → has_fragment (made (length bs) width received slots lengths).buffer lengths k ≡ came k nrs
  unfolding has_fragment
  has k below =
      let n = length-take-le (length bs) lengths good.entries in
      rw (lt-ltb k (length bs) below, ← get_or-take (length bs) lengths k 0 below, ← held_entry width slots (take (length bs) lengths) k (omega arith), so k below)
      (held_if (get_or bs k []) (came k nrs))

  tells : Tells (made (length bs) width received slots lengths)
  tells = sound_tells (made (length bs) width received slots lengths) good

  -- every number has come
  module _ (all : AllCame (length bs) nrs) where
    full : received ≡ length bs
    full = count ∙ different_all (length bs) nrs all

    bodies_are : bodies_held width slots (take (length bs) lengths) ≡ bs
    unfolding body_in
    bodies_are =
        let v = view (length bs) width slots lengths in
        let m : length (map body_in v) ≡ length bs = length-map v body_in ∙ length_view (length bs) width good in
        bodies_of_slots width slots (take (length bs) lengths)
        ∙ ext_get_or [] (map body_in v) bs m
        (λ k h. let below : k < length bs = omega arith in get_or-map body_in v k free ∙ rw (so k below, all k below))

    assembles : (out : List ℕ)
        → (assemble_of (made (length bs) width received slots lengths).buffer slots lengths out ≡ put_of out 0 payload)
        × (assemble_out (made (length bs) width received slots lengths).buffer slots lengths out ≡ put_bytes out 0 payload)
    unfolding payload_of
    assembles out = rw (bodies_are, joins) at (tells.whole (λ k h. has k h ∙ all k h) out)

  -- a number is missing
  module _ (k : ℕ) (below : k < length bs) (gone : came k nrs ≡ false) where
    lacks : received < length bs
    lacks = rw count (different_less (length bs) nrs k below gone)

  -- one fragment more
  module _ (k : ℕ) (below : k < length bs) where
    more_by : (j : ℕ) → j < length bs → (t : Bool) → eqb k j ≡ t
        → get_or (set (view (length bs) width slots lengths) k (holds (get_or bs k []))) j free ≡ cond (came j nrs || t) (holds (get_or bs j [])) free
    more_by j h true e =
        let z : k ≡ j = eqb-true k j e in
        let l = length_view (length bs) width good in
        rw (z, or-true (came j nrs)) (get_or-set_same (view (length bs) width slots lengths) j (holds (get_or bs j [])) free (omega arith))
    more_by j h false e =
        rw (or-false (came j nrs), get_or-set_other (view (length bs) width slots lengths) k j (holds (get_or bs k [])) free (λ z. eqb-false k j e (sym z))) (so j h)

    more_at : (j : ℕ) → j < length bs
        → get_or (set (view (length bs) width slots lengths) k (holds (get_or bs k []))) j free ≡ cond (came j (nrs ++ (k ∷ []))) (holds (get_or bs j [])) free
    more_at j h = rw (came_more j nrs k) (more_by j h (eqb k j) refl)

    grown_is : grown received (get_or lengths k 0) ≡ different (length bs) (nrs ++ (k ∷ []))
    grown_is =
        let v = view (length bs) width slots lengths in
        let n = length-take-le (length bs) lengths good.entries in
        let l : length (set v k (holds (get_or bs k []))) ≡ length bs = length-set v k (holds (get_or bs k [])) ∙ length_view (length bs) width good in
        let after = held_different bs (set v k (holds (get_or bs k []))) (nrs ++ (k ∷ [])) (λ j h. more_at j (omega arith)) in
        rw (good.counted, ← get_or-take (length bs) lengths k 0 below, ← held_set width (get_or bs k []) slots (take (length bs) lengths) k (omega arith)) (after ∙ rw l)

    answers : (after : ReassemblyBuffer)
        × (inserted_answer (insert_of (made (length bs) width received slots lengths).buffer slots lengths k (get_or bs k []))
        ≡ gives (after, eqb (different (length bs) (nrs ++ (k ∷ []))) (length bs)))
    answers =
        let e : insert_check_of (made (length bs) width received slots lengths).buffer slots lengths k (get_or bs k []) ≡ (Ok tt) =
        check_good (length bs) width good k (get_or bs k []) true (lt-ltb k (length bs) below) ∙ rw (le-ltb width (length (get_or bs k [])) (fits k)) in
        let q = insert_held (made (length bs) width received slots lengths).buffer slots lengths k (get_or bs k []) e in
        ((made (length bs) width (grown received (get_or lengths k 0)) slots lengths).buffer, ap inserted_answer (sym q.0) ∙ rw grown_is)

  rebuilds : Rebuilds bs payload (made (length bs) width received slots lengths) nrs
  rebuilds = record { total = refl; count = count; has = has; complete = full; incomplete = lacks; whole = assembles; missing = λ k below gone. tells.missing k below (has k below ∙ gone); answers = answers }

-- a number past the last body has none, which fits too
bodies_fit : (bs : List (List ℕ)) (width : ℕ) → ((k : ℕ) → k < length bs → length (get_or bs k []) ≤ width) → (k : ℕ) → length (get_or bs k []) ≤ width
bodies_fit bs width fits k =
    elim (dec_le (length bs) k) [
      | yes h ↦ rw (get_or-eq_default bs [] h) (omega arith)
      | no h ↦ fits k (lt_of_not-le h)
    ]

pub rebuild : Rebuild
unfolding store_after
rebuild size payload width slots lengths buffer nrs some small new =
    let bs = bodies size payload in
    let fits = bodies_fit bs width small in
    let t = new_tells (length bs) width slots lengths buffer new in
    let r = run (length bs) width 0 slots (new_lengths (length bs) width slots lengths) (new_good (length bs) width slots lengths t.0) (pieces bs nrs) in
    rw (← t.1, r.is)
    (rebuilds bs payload width (joined_bodies size some payload) fits nrs r.count r.bytes r.sizes r.good
    (λ k h. r.last k h ∙ ap (last_of width k (pieces bs nrs)) (new_free (length bs) width slots lengths t.0 k) ∙ arrives width bs k (fits k) nrs))

-- bodies fit where the size does, and where the whole payload does
pub size_fits : (size : ℕ) (payload : List ℕ) (width : ℕ) → 0 < size → min size (length payload) ≤ width
    → (k : ℕ) → length (get_or (bodies size payload) k []) ≤ width
size_fits size payload width some wide k =
    let d = length-drop (k * size) payload in
    let t = length-take size (drop (k * size) payload) in
    rw (body_at size some payload k) (omega (arith, min-le_left size (length (drop (k * size) payload)), min-le_right size (length (drop (k * size) payload))))
