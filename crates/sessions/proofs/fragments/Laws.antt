-- Laws of a session's fragments over the lent stores: where their part stands, and what each call comes to step by step.
use Prim.Native.Nat.{ℕ, suc, ◌+◌, ◌-◌, ◌*◌, ◌<◌, ◌≤◌}
use mathlib.Core.Path.{◌≡◌, refl, sym, ap, ◌∙◌}
use mathlib.Core.Bool.{Bool, true, false, cond}
use mathlib.Core.Logic.{◌≢◌}
use mathlib.Core.List.{List, ◌++◌}
use native.Mathlib.Nat.{mul-suc, mul-le-mul, mul-le-mul_left}
use native.Mathlib.Numerals.{add-one}
use native.Mathlib.Omega.{arith}
use borrow.Author.Tests.{le-leb, lt-leb, leb-true, eq-eqb, ne_eqb, ltb-true, ltb-false}
use lib.Dec.{leb, ltb}
use lib.ListN.{length, take, drop}
use lib.Seq.{length-take-le, take_at, drop_at}
use Rattle.codec.specs.Bytes.{put_at}
use Rattle.codec.specs.Reassembly.{new_of, new_lengths, insert_of, insert_slots, insert_lengths, assemble_of, assemble_out}
use Rattle.codec.specs.declared.reassembly.ReassemblyBuffer.{ReassemblyBuffer}
use Rattle.codec.specs.declared.refusals.Refusal.TheVariants.{OverLimit}
use Rattle.streams.proofs.Slots.{read_before, read_behind}
use Rattle.sessions.specs.FragmentStore.{allowed}
use Rattle.sessions.specs.Fragments.{slot_stretch, parts_stretch, lengths_stretch, buffer_with, store_for, lengths_for, assembled_as, gathered_by, rebuilt_by, gathered_with, parts_with, lengths_with, rebuilt_with, gathered_in, parts_after, lengths_after, rebuilt_after, gathered_session, is_live, takes, gathered, gathered_rows, gathered_parts, gathered_lengths, gathered_rebuilt}
use Rattle.sessions.specs.Sending.{room_of, buffer_in, with_buffer}
use Rattle.sessions.specs.Table.{session_at, keep_session, named_of}
use Rattle.sessions.specs.declared.fragments.Gathered.{Gathered}
use Rattle.sessions.specs.declared.fragments.Gathered.TheVariants.{Nothing}
use Rattle.sessions.specs.declared.sending.Stretch.{Stretch}
use Rattle.sessions.specs.declared.table.ClientSession.{ClientSession}
use Rattle.sessions.proofs.Buffers.{with_put}
use Rattle.std.specs.Prelude.{Err, Ok, Result}
use Rattle.codec.specs.declared.refusals.Refusal.{Refusal}

-- ---- where the part of a slot stands

module _ (width slot store : ℕ) where
  -- the part of a slot, from its first entry to behind its last, and within the store
  abbrev pub Stands : Stretch → Type 0
  Stands b = (b ≡ slot_stretch width slot store) × (b.start ≤ b.end) × (b.end ≤ store) × (b.end - b.start ≤ width)

  pub has_slot_lem : slot ≤ 255 → width * (slot + 1) ≤ store → slot_stretch width slot store ≡ record { start = width * slot; end = width * suc slot }
  has_slot_lem l h = rw (le-leb slot 255 l, le-leb (width * suc slot) store (rw (add-one slot) at h))

  -- it lies within the store
  pub stretch_stands : Stands (slot_stretch width slot store)
  stretch_stands = by (leb slot 255) (leb (width * suc slot) store) refl refl
    where
      next : width * suc slot ≡ width * slot + width
      next = mul-suc width slot

      by : (x y : Bool) → leb slot 255 ≡ x → leb (width * suc slot) store ≡ y
          → let b : Stretch = cond (cond x y false) (record { start = width * slot; end = width * suc slot }) (record { start = 0; end = 0 }) in
          (b ≡ slot_stretch width slot store) × (b.start ≤ b.end) × (b.end ≤ store) × (b.end - b.start ≤ width)
      by true true e f = (rw (e, f), omega (arith, next), leb-true (width * suc slot) store f, omega (arith, next))
      by true false e f = (rw (e, f), omega arith, omega arith, omega arith)
      by false y e f = (rw e, omega arith, omega arith, omega arith)

-- ---- another part in its place

module _ (store : List ℕ) (a : Stretch) (low : a.start ≤ a.end) (within : a.end ≤ length store) (part : List ℕ) (long : length part ≡ room_of a) where
  pub part_here : buffer_in (with_buffer store a part) a ≡ part
  unfolding buffer_in with_buffer
  part_here =
      let rest = drop (room_of a) (drop a.start store) in
      ap (take (room_of a)) (drop_at (take a.start store) (part ++ rest) a.start (length-take-le a.start store (omega arith))) ∙ take_at part rest (room_of a) long

  -- what stands before or behind it stays
  module _ (b : Stretch) where
    put : buffer_in (with_buffer store a part) b ≡ take (room_of b) (drop b.start (put_at store a.start part))
    unfolding buffer_in
    put = ap (λ (l : List ℕ). take (room_of b) (drop b.start l)) (with_put store part a long)

    part_behind : a.end ≤ b.start → buffer_in (with_buffer store a part) b ≡ buffer_in store b
    unfolding buffer_in
    part_behind h = put ∙ ap (take (room_of b)) (read_behind store a.start part (omega (arith, long)) b.start (omega (arith, long)))

    part_before : b.start ≤ b.end → b.end ≤ a.start → buffer_in (with_buffer store a part) b ≡ buffer_in store b
    unfolding buffer_in
    part_before l h = put ∙ read_before store a.start part (omega (arith, long)) b.start (room_of b) (omega arith)

-- the part of another slot stays
pub slot_apart : (width i j : ℕ) → i ≢ j → (store part : List ℕ) → length part ≡ room_of (slot_stretch width i (length store))
    → buffer_in (with_buffer store (slot_stretch width i (length store)) part) (slot_stretch width j (length store)) ≡ buffer_in store (slot_stretch width j (length store))
slot_apart width i j n store part =
    by (cond (leb i 255) (leb (width * suc i) (length store)) false) (cond (leb j 255) (leb (width * suc j) (length store)) false) (stretch_stands width i (length store)).2
  where
    stretch : Bool → ℕ → Stretch
    stretch x k = cond x (record { start = width * k; end = width * suc k }) (record { start = 0; end = 0 })

    ordered : (k : ℕ) → width * k ≤ width * suc k
    ordered k = let e = mul-suc width k in omega (arith, e)

    apart : (k l : ℕ) → k < l → width * suc k ≤ width * l
    apart k l h = mul-le-mul_left width h

    by : (x y : Bool) → (stretch x i).end ≤ length store → length part ≡ room_of (stretch x i) → buffer_in (with_buffer store (stretch x i) part) (stretch y j) ≡ buffer_in store (stretch y j)
    by false y h e = part_behind store (stretch false i) (omega arith) h part e (stretch y j) (omega arith)
    by true false h e = part_before store (stretch true i) (ordered i) h part e (stretch false j) (omega arith) (omega arith)
    by true true h e = go (ltb i j) refl
      where
        go : (z : Bool) → ltb i j ≡ z → buffer_in (with_buffer store (stretch true i) part) (stretch true j) ≡ buffer_in store (stretch true j)
        go true q = part_behind store (stretch true i) (ordered i) h part e (stretch true j) (apart i j (ltb-true i j q))
        go false q = part_before store (stretch true i) (ordered i) h part e (stretch true j) (ordered j) (apart j i (omega (arith, ltb-false i j q, n)))

-- ---- the store that a fragment goes into

module _ (s : ClientSession) (total : ℕ) (parts lengths : List ℕ) where
  abbrev pub Chosen : Result ReassemblyBuffer Refusal → List ℕ → Type 0
  Chosen m ls = (m ≡ store_for s total parts lengths) × (ls ≡ lengths_for s total parts lengths)

  pub kept_chosen : s.total ≡ total → s.received ≤ 64 → Chosen (Ok (buffer_with total s.received)) lengths
  unfolding store_for lengths_for
  kept_chosen e h = rw (eq-eqb s.total total e, le-leb s.received 64 h) (refl, refl)

  pub new_chosen : (s.total ≡ total → ⊥) → Chosen (new_of total 512 parts lengths) (new_lengths total 512 parts lengths)
  unfolding store_for lengths_for
  new_chosen n = rw (ne_eqb s.total total n) (refl, refl)

  -- what a fragment comes to with it
  pub gather_by : (rebuilt : List ℕ) (nr : ℕ) (body : List ℕ) (m : Result ReassemblyBuffer Refusal) (ls : List ℕ) → Chosen m ls
      → (gathered_with m parts ls rebuilt nr body ≡ gathered_in s parts lengths rebuilt nr total body)
      × (parts_with m parts ls nr body ≡ parts_after s parts lengths nr total body)
      × (lengths_with m parts ls nr body ≡ lengths_after s parts lengths nr total body)
      × (rebuilt_with m parts ls rebuilt nr body ≡ rebuilt_after s parts lengths rebuilt nr total body)
  unfolding gathered_in parts_after lengths_after rebuilt_after
  gather_by rebuilt nr body m ls e = (
    λ i. gathered_with (e.0 i) parts (e.1 i) rebuilt nr body,
    λ i. parts_with (e.0 i) parts (e.1 i) nr body,
    λ i. lengths_with (e.0 i) parts (e.1 i) nr body,
    λ i. rebuilt_with (e.0 i) parts (e.1 i) rebuilt nr body,
  )

-- ---- a fragment of a session

module _ (sessions : List (List ℕ)) (parts lengths rebuilt : List ℕ) (id nr total : ℕ) (body : List ℕ) where
  -- the answer and the stores behind it
  abbrev pub Comes : Gathered → List (List ℕ) → List ℕ → List ℕ → List ℕ → Type 0
  Comes g rows ps ls out =
      (g ≡ gathered sessions parts lengths rebuilt id nr total body)
      × (rows ≡ gathered_rows sessions parts lengths rebuilt id nr total body)
      × (ps ≡ gathered_parts sessions parts lengths id nr total body)
      × (ls ≡ gathered_lengths sessions parts lengths id nr total body)
      × (out ≡ gathered_rebuilt sessions parts lengths rebuilt id nr total body)

  pub not_taken : takes sessions id nr total (length body) ≡ false → Comes Nothing sessions parts lengths rebuilt
  unfolding gathered gathered_rows gathered_parts gathered_lengths gathered_rebuilt
  not_taken e = rw e (refl, refl, refl, refl, refl)

  -- one that is taken, step by step
  module _ (so : takes sessions id nr total (length body) ≡ true) (s : ClientSession) (its : s ≡ session_at sessions id)
      (a b : Stretch) (ea : a ≡ parts_stretch (session_at sessions id) (length parts)) (eb : b ≡ lengths_stretch (session_at sessions id) (length lengths)) where
    pub taken_is : Comes (gathered_in s (buffer_in parts a) (buffer_in lengths b) rebuilt nr total body)
        (keep_session sessions id (gathered_session s (gathered_in s (buffer_in parts a) (buffer_in lengths b) rebuilt nr total body)))
        (with_buffer parts a (parts_after s (buffer_in parts a) (buffer_in lengths b) nr total body))
        (with_buffer lengths b (lengths_after s (buffer_in parts a) (buffer_in lengths b) nr total body))
        (rebuilt_after s (buffer_in parts a) (buffer_in lengths b) rebuilt nr total body)
    unfolding gathered gathered_rows gathered_parts gathered_lengths gathered_rebuilt
    taken_is = rw so (
      λ i. gathered_in (its i) (buffer_in parts (ea i)) (buffer_in lengths (eb i)) rebuilt nr total body,
      λ i. keep_session sessions id (gathered_session (its i) (gathered_in (its i) (buffer_in parts (ea i)) (buffer_in lengths (eb i)) rebuilt nr total body)),
      λ i. with_buffer parts (ea i) (parts_after (its i) (buffer_in parts (ea i)) (buffer_in lengths (eb i)) nr total body),
      λ i. with_buffer lengths (eb i) (lengths_after (its i) (buffer_in parts (ea i)) (buffer_in lengths (eb i)) nr total body),
      λ i. rebuilt_after (its i) (buffer_in parts (ea i)) (buffer_in lengths (eb i)) rebuilt nr total body,
    )
