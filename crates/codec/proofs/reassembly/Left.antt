-- What each call leaves of lent lists: any store's are as long as they were, and a sound store's inserts and assemblies come to what is said here.
use Prim.Native.Nat.{ℕ, ◌+◌, ◌*◌, ◌<◌, ◌≤◌}
use mathlib.Core.Path.{◌≡◌, refl, sym, ap, ◌∙◌, subst}
use mathlib.Core.Bool.{Bool, true, false}
use mathlib.Core.List.{List, [], ◌∷◌, map}
use native.Mathlib.Nat.{suc-mul}
use native.Mathlib.Omega.{arith}
use borrow.Author.Tests.{ltb-true, ltb-false, lt-ltb, le-ltb}
use lib.Dec.{eqb, ltb}
use lib.ListN.{get_or, length, take, drop, replicate, length-set, length-append, length-replicate, length-drop}
use lib.Seq.{length-take-le}
use Rattle.codec.specs.Bytes.{put_at}
use Rattle.codec.specs.Cutting.{joined}
use Rattle.codec.specs.Reassembly.{under_need, new_lengths, is_past, any_of, grown, recounted, bytes_held, insert_check_of, inserted_if, insert_of, insert_slots, insert_lengths, payload_of, assemble_check, assemble_of, assemble_out}
use Rattle.codec.specs.Inserts.{Store, slots_in, Sound}
use Rattle.codec.specs.declared.reassembly.ReassemblyBuffer.{ReassemblyBuffer}
use Rattle.codec.proofs.bytes.Laws.{length_put}
use Rattle.codec.proofs.reassembly.Laws.{neither, slot_ends, need_fits, new_refused, new_made, insert_fits, insert_refused, insert_held, assemble_whole, assemble_refused, assemble_short, assemble_written, length_payload, assemble_passes}
use Rattle.codec.proofs.reassembly.View.{drop_put, body_in, bodies_of_slots, all_held}
use Rattle.codec.proofs.reassembly.Inserts.{made, Good, check_good}
use Rattle.std.specs.Prelude.{Err, Ok, Result}
use Rattle.codec.specs.declared.refusals.Refusal.{Refusal}

-- ---- any store

-- an insert leaves slots and lengths as long as they were
pub insert_length : (b : ReassemblyBuffer) (slots lengths : List ℕ) (nr : ℕ) (body : List ℕ)
    → (length (insert_slots b slots lengths nr body) ≡ length slots) × (length (insert_lengths b slots lengths nr body) ≡ length lengths)
unfolding insert_check_of
insert_length b slots lengths nr body = by (insert_check_of b slots lengths nr body) refl
  where
    by : (c : Result (Unit {0}) Refusal) → insert_check_of b slots lengths nr body ≡ c
        → (length (insert_slots b slots lengths nr body) ≡ length slots) × (length (insert_lengths b slots lengths nr body) ≡ length lengths)
    by (Err why) e =
        let q = insert_refused b slots lengths nr body why e in
        (sym (ap length q.1.0), sym (ap length q.1.1))
    by (Ok tt) e =
        let q = insert_held b slots lengths nr body e in
        let f = insert_fits b (length slots) (length lengths) (get_or lengths nr 0) nr (length body) e in
        let ends = slot_ends nr b.total_fragments b.width f.below in (
          sym (ap length q.1.0) ∙ length_put slots (nr * b.width) body (omega (arith, f.there, f.body)),
          sym (ap length q.1.1) ∙ length-set lengths nr (length body + 1),
        )

-- and a buffer of the same total and width
abbrev pub SameStore : ReassemblyBuffer → Result (ReassemblyBuffer × Bool) Refusal → Type 0
SameStore b (Ok (after, all)) = (after.total_fragments ≡ b.total_fragments) × (after.width ≡ b.width)
SameStore b (Err why) = Unit {0}

pub insert_same : (b : ReassemblyBuffer) (slots lengths : List ℕ) (nr : ℕ) (body : List ℕ) → SameStore b (insert_of b slots lengths nr body)
unfolding insert_of
insert_same b slots lengths nr body = by (insert_check_of b slots lengths nr body)
  where
    by : (c : Result (Unit {0}) Refusal) → SameStore b (inserted_if c (Ok ((recounted b (get_or lengths nr 0)), (eqb (grown b.received_count (get_or lengths nr 0)) b.total_fragments))))
    by (Err why) = Prim.tt
    by (Ok tt) = (refl, refl)

-- a new store's lengths are as many as there were
pub new_length : (total width : ℕ) (slots lengths : List ℕ) → length (new_lengths total width slots lengths) ≡ length lengths
new_length total width slots lengths = by (under_need total width (length slots) (length lengths)) refl
  where
    by : (t : Bool) → under_need total width (length slots) (length lengths) ≡ t → length (new_lengths total width slots lengths) ≡ length lengths
    by true e = sym (ap length (new_refused total width slots lengths e).1)
    by false e =
        let n = need_fits total width (length slots) (length lengths) e in
        sym (ap length (new_made total width slots lengths e).1)
        ∙ rw (length-append (replicate total 0) (drop total lengths), length-replicate {A = ℕ} total 0, length-drop total lengths) (omega (arith, n.1))

-- as many bytes as the slots may have
bytes_short : (width : ℕ) (es : List ℕ) → any_of (is_past width) es ≡ false → bytes_held es ≤ length es * width
unfolding bytes_held any_of
bytes_short width [] e = omega arith
bytes_short width (held ∷ more) e =
    let t = neither (is_past width held) (any_of (is_past width) more) e in
    let h = ltb-false (width + 1) held t.0 in
    let m = suc-mul (length more) width in
    let r = bytes_short width more t.1 in
    omega arith

-- an output that is as long as it was, and the same from byte `n` on
abbrev pub Keeps : ℕ → List ℕ → List ℕ → Type 0
Keeps n out after = (length after ≡ length out) × (drop n after ≡ drop n out)

module _ (b : ReassemblyBuffer) (slots lengths : List ℕ) where
  payload_short : assemble_check b (length slots) lengths ≡ (Ok tt) → length (payload_of b slots lengths) ≤ b.total_fragments * b.width
  payload_short e =
      let w = assemble_whole b (length slots) lengths e in
      let l = length-take-le b.total_fragments lengths w.entries in
      let s : bytes_held (take b.total_fragments lengths) ≤ b.total_fragments * b.width = rw l at (bytes_short b.width (take b.total_fragments lengths) w.within) in
      let n = length_payload b slots lengths [] e in
      omega (arith, s, n)

  -- an assembly keeps it so behind as many bytes as the slots may have
  pub assemble_keeps : (out : List ℕ) (n : ℕ) → b.total_fragments * b.width ≤ n → Keeps n out (assemble_out b slots lengths out)
  assemble_keeps out n h = by (assemble_check b (length slots) lengths) refl
    where
      go : assemble_check b (length slots) lengths ≡ (Ok tt) → (t : Bool) → ltb (length out) (bytes_held (take b.total_fragments lengths)) ≡ t → Keeps n out (assemble_out b slots lengths out)
      go e true q = subst (Keeps n out) (assemble_short b slots lengths out e (ltb-true _ _ q)).1 (refl, refl)
      go e false q =
          let r = ltb-false (length out) (bytes_held (take b.total_fragments lengths)) q in
          let l = length_payload b slots lengths out e in
          let s = payload_short e in
          subst (Keeps n out) (assemble_written b slots lengths out e r).1
          (length_put out 0 (payload_of b slots lengths) (omega (arith, l, r)), drop_put out (payload_of b slots lengths) n (omega (arith, s, h)))

      by : (c : Result (Unit {0}) Refusal) → assemble_check b (length slots) lengths ≡ c → Keeps n out (assemble_out b slots lengths out)
      by (Err why) e = subst (Keeps n out) (assemble_refused b slots lengths out why e).1 (refl, refl)
      by (Ok tt) e = go e (ltb (length out) (bytes_held (take b.total_fragments lengths))) refl

-- ---- a sound store

-- a fragment below the total whose body fits is held
pub insert_good : (total width received : ℕ) (slots lengths : List ℕ) → Good total width received slots lengths → (nr : ℕ) (body : List ℕ) → nr < total → length body ≤ width
    → Ok ((made total width (grown received (get_or lengths nr 0)) slots lengths).buffer, (eqb (grown received (get_or lengths nr 0)) total)) ≡ insert_of (made total width received slots lengths).buffer slots lengths nr body
insert_good total width received slots lengths good nr body below small =
    (insert_held (made total width received slots lengths).buffer slots lengths nr body
    (check_good total width good nr body true (lt-ltb nr total below) ∙ rw (le-ltb width (length body) small))).0

-- one whose count is its total gives its slots' bodies, as many bytes as its slots may have at the most
module _ (st : Store) (sound : Sound st) (full : st.buffer.received_count ≡ st.buffer.total_fragments) where
  abbrev total : ℕ
  total = st.buffer.total_fragments

  judged : assemble_check st.buffer (length st.slots) st.lengths ≡ (Ok tt)
  unfolding under_need
  judged =
      let none = all_held st.buffer.width st.slots (take total st.lengths) (sym sound.counted ∙ full ∙ sym (length-take-le total st.lengths sound.entries)) in
      sym (assemble_passes st.buffer (length st.slots) st.lengths
      (rw (le-ltb (length st.slots) (total * st.buffer.width) sound.there, le-ltb (length st.lengths) total sound.entries))
      (omega (arith, full)) sound.within (omega (arith, full)) none)

  pub payload_joined : payload_of st.buffer st.slots st.lengths ≡ joined (map body_in (slots_in st))
  unfolding payload_of
  payload_joined = ap joined (bodies_of_slots st.buffer.width st.slots (take total st.lengths))

  pub payload_most : length (payload_of st.buffer st.slots st.lengths) ≤ total * st.buffer.width
  payload_most = payload_short st.buffer st.slots st.lengths judged

  pub assemble_good : (out : List ℕ) → length (payload_of st.buffer st.slots st.lengths) ≤ length out
      → (Ok (length (payload_of st.buffer st.slots st.lengths)) ≡ assemble_of st.buffer st.slots st.lengths out)
      × (put_at out 0 (payload_of st.buffer st.slots st.lengths) ≡ assemble_out st.buffer st.slots st.lengths out)
  assemble_good out h =
      let l = length_payload st.buffer st.slots st.lengths out judged in
      let w = assemble_written st.buffer st.slots st.lengths out judged (omega (arith, l, h)) in
      (ap Ok l ∙ w.0, w.1)
