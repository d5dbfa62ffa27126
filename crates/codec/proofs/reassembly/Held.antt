-- What a sound store tells: 11 exactly if a number below the total isn't held, and "all there" exactly if every one is.
use Prim.Native.Nat.{ℕ, ◌+◌, ◌<◌}
use mathlib.Core.Path.{◌≡◌, refl, sym, ap, ◌∙◌}
use mathlib.Core.Bool.{Bool, true, false, cond, or-true, true≢false}
use mathlib.Core.List.{List, [], ◌∷◌}
use native.Mathlib.Omega.{arith}
use borrow.Author.Tests.{lt-ltb, le-ltb, eqb-true, eq-eqb, not-false}
use lib.Dec.{eqb, ltb}
use lib.ListN.{get_or, length, take}
use lib.Seq.{length-take-le}
use Rattle.codec.specs.Answers.{gives, refused_as, written_answer, made_answer, inserted_answer}
use Rattle.codec.specs.Bytes.{put_of, put_bytes}
use Rattle.codec.specs.Reassembly.{under_need, new_of, insert_check_of, insert_of, inserted_if, has_fragment, is_free, any_of, payload_of, assemble_check, assemble_of, assemble_out, over_limit}
use Rattle.codec.specs.Inserts.{Store, Piece, insert_into, inserts, Sound, NewSound, InsertsSound, holds_number, AllHeld, SoundTells}
use Rattle.codec.specs.declared.reassembly.ReassemblyBuffer.{ReassemblyBuffer}
use Rattle.codec.specs.declared.refusals.Refusal.TheVariants.{MissingFragments, OutputTooShort, OverLimit}
use Rattle.codec.proofs.reassembly.Laws.{none_at, any_at, assemble_refused}
use Rattle.codec.proofs.reassembly.View.{all_held, none_free}
use Rattle.codec.proofs.reassembly.Inserts.{made, store_good, step, new_good}
use Rattle.std.specs.Prelude.{Err, Ok, Result}
use Rattle.codec.specs.declared.refusals.Refusal.{Refusal}

-- ---- the calls make and keep sound stores

new_picks : (t : Bool) (a b : ReassemblyBuffer) → made_answer (cond t (Err OverLimit) (Ok a)) ≡ gives b
    → (t ≡ false) × (a ≡ b)
new_picks false a b e = (refl, cc)
new_picks true a b e = let z : ◌≡◌ {A = ℕ} 0 1 = cc in absurd (omega arith)

-- what `new` tells of the store that it made
pub new_tells : (total width : ℕ) (slots lengths : List ℕ) (buffer : ReassemblyBuffer) → made_answer (new_of total width slots lengths) ≡ gives buffer
    → (under_need total width (length slots) (length lengths) ≡ false) × ((made total width 0 slots lengths).buffer ≡ buffer)
unfolding new_of
new_tells total width slots lengths buffer new =
    new_picks (under_need total width (length slots) (length lengths)) (made total width 0 slots lengths).buffer buffer new

pub new_sound : NewSound
new_sound total width slots lengths buffer new =
    let t = new_tells total width slots lengths buffer new in
    rw (← t.1) (new_good total width slots lengths t.0)

insert_sound : (st : Store) (p : Piece) → Sound st → Sound (insert_into st p)
insert_sound st p sound =
    let a = step st.buffer.total_fragments st.buffer.width sound p in
    rw a.is a.good

pub inserts_sound : InsertsSound
unfolding inserts
inserts_sound st [] sound = sound
inserts_sound st (p ∷ more) sound = inserts_sound (insert_into st p) more (insert_sound st p sound)

module _ (st : Store) (sound : Sound st) where
  -- whether a slot of the store is free
  abbrev lacking : Bool
  lacking = any_of is_free (take st.buffer.total_fragments st.lengths)

  -- ---- its count is the total exactly if no slot is free

  size : length (take st.buffer.total_fragments st.lengths) ≡ st.buffer.total_fragments
  size = length-take-le st.buffer.total_fragments st.lengths sound.entries

  counts_all : lacking ≡ false → st.buffer.received_count ≡ st.buffer.total_fragments
  counts_all e = sound.counted ∙ none_free st.buffer.width st.slots (take st.buffer.total_fragments st.lengths) e ∙ size

  none_lacking : st.buffer.received_count ≡ st.buffer.total_fragments → lacking ≡ false
  none_lacking e = all_held st.buffer.width st.slots (take st.buffer.total_fragments st.lengths) (sym sound.counted ∙ e ∙ sym size)

  -- ---- no slot is free exactly if every number is held

  free_slot_lem : (k : ℕ) → k < st.buffer.total_fragments → holds_number st k ≡ false → is_free (get_or st.lengths k 0) ≡ true
  unfolding has_fragment
  free_slot_lem k below e = not-false (is_free (get_or st.lengths k 0)) (rw (lt-ltb k st.buffer.total_fragments below) at e)

  held_slot : (k : ℕ) → k < st.buffer.total_fragments → is_free (get_or st.lengths k 0) ≡ false → holds_number st k ≡ true
  unfolding has_fragment
  held_slot k below e = rw (lt-ltb k st.buffer.total_fragments below, e)

  gone_slot : (k : ℕ) → k < st.buffer.total_fragments → is_free (get_or st.lengths k 0) ≡ true → holds_number st k ≡ false
  unfolding has_fragment
  gone_slot k below e = rw (lt-ltb k st.buffer.total_fragments below, e)

  all_slots : lacking ≡ false → AllHeld st
  all_slots e k below = held_slot k below (none_at is_free st.lengths st.buffer.total_fragments k e below sound.entries)

  one_gone : lacking ≡ true → (k : ℕ) × (k < st.buffer.total_fragments) × (holds_number st k ≡ false)
  one_gone e =
      let f = any_at is_free st.lengths st.buffer.total_fragments e sound.entries in
      (f.0, f.1, gone_slot f.0 f.1 f.2)

  pub held_none_lacking : (t : Bool) → lacking ≡ t → AllHeld st → t ≡ false
  held_none_lacking true e all = let f = one_gone e in absurd (true≢false (sym (all f.0 f.1) ∙ f.2))
  held_none_lacking false e all = refl

  gone_lacking : (k : ℕ) → k < st.buffer.total_fragments → holds_number st k ≡ false → (t : Bool) → lacking ≡ t → t ≡ true
  gone_lacking k below gone true e = refl
  gone_lacking k below gone false e = absurd (true≢false (sym (all_slots e k below) ∙ gone))

  -- ---- what an assembly is checked for

  judged : (t : Bool) → lacking ≡ t → assemble_check st.buffer (length st.slots) st.lengths ≡ cond t (Err MissingFragments) (Ok tt)
  unfolding assemble_check over_limit
  judged true e =
      rw (store_good st.buffer.total_fragments st.buffer.width sound, sound.within, e, or-true (ltb st.buffer.received_count st.buffer.total_fragments))
  judged false e =
      let all = counts_all e in
      rw (store_good st.buffer.total_fragments st.buffer.width sound, sound.within, le-ltb st.buffer.received_count st.buffer.total_fragments (omega arith), e)

  missing : (k : ℕ) → k < st.buffer.total_fragments → holds_number st k ≡ false → (out : List ℕ)
      → (written_answer (assemble_of st.buffer st.slots st.lengths out) ≡ refused_as 11 0)
      × (assemble_out st.buffer st.slots st.lengths out ≡ out)
  missing k below gone out =
      let q = assemble_refused st.buffer st.slots st.lengths out MissingFragments (judged true (gone_lacking k below gone lacking refl)) in
      (ap written_answer (sym q.0), sym q.1)

  passes : lacking ≡ false → (out : List ℕ)
      → (assemble_of st.buffer st.slots st.lengths out ≡ put_of out 0 (payload_of st.buffer st.slots st.lengths))
      × (assemble_out st.buffer st.slots st.lengths out ≡ put_bytes out 0 (payload_of st.buffer st.slots st.lengths))
  unfolding assemble_of assemble_out
  passes e out = rw (judged false e) (refl, refl)

  -- what is written where nothing is missing isn't refused as 11
  put_not_missing : (t : Bool) (n : ℕ) → written_answer (cond t (Err OutputTooShort) (Ok n)) ≡ refused_as 11 0 → ⊥
  put_not_missing true n e = let z : ◌≡◌ {A = ℕ} 13 11 = cc in omega arith
  put_not_missing false n e = let z : ◌≡◌ {A = ℕ} 0 1 = cc in omega arith

  never_missing : (out bytes : List ℕ) → written_answer (put_of out 0 bytes) ≡ refused_as 11 0 → ⊥
  unfolding put_of
  never_missing out bytes e = put_not_missing (ltb (length out) (0 + length bytes)) (length bytes) e

  not_early : (out : List ℕ) → written_answer (assemble_of st.buffer st.slots st.lengths out) ≡ refused_as 11 0 → (t : Bool) → lacking ≡ t
      → (k : ℕ) × (k < st.buffer.total_fragments) × (holds_number st k ≡ false)
  not_early out e true t = one_gone t
  not_early out e false t = absurd (never_missing out (payload_of st.buffer st.slots st.lengths) (ap written_answer (sym (passes t out).0) ∙ e))

-- ---- what an insert answers

held_is : (i : Result (ReassemblyBuffer × Bool) Refusal) (after : ReassemblyBuffer) (all : Bool) → inserted_answer i ≡ gives (after, all) → i ≡ Ok (after, all)
held_is (Ok (b, t)) after all e =
    let both : ◌≡◌ {A = ReassemblyBuffer × Bool} (b, t) (after, all) = cc in
    ap (λ (x : ReassemblyBuffer × Bool). Ok (x.0, x.1)) both
held_is (Err why) after all e = let z : ◌≡◌ {A = ℕ} 0 1 = cc in absurd (omega arith)

held_picks : (c : Result (Unit {0}) Refusal) (b after : ReassemblyBuffer) (all : Bool)
    → inserted_if c (Ok (b, (eqb b.received_count b.total_fragments))) ≡ Ok (after, all)
    → all ≡ eqb after.received_count after.total_fragments
held_picks (Err why) b after all e = let z : ◌≡◌ {A = ℕ} 0 1 = cc in absurd (omega arith)
held_picks (Ok tt) b after all e =
    let both : ◌≡◌ {A = ReassemblyBuffer × Bool} (b, eqb b.received_count b.total_fragments) (after, all) = cc in
    let same : b ≡ after = ap (λ (x : ReassemblyBuffer × Bool). x.0) both in
    let told : eqb b.received_count b.total_fragments ≡ all = ap (λ (x : ReassemblyBuffer × Bool). x.1) both in
    rw (← same) (sym told)

-- "all there" is said where the count that it leaves is the total
held_tells : (b : ReassemblyBuffer) (slots lengths : List ℕ) (nr : ℕ) (body : List ℕ) (after : ReassemblyBuffer) (all : Bool)
    → insert_of b slots lengths nr body ≡ Ok (after, all) → all ≡ eqb after.received_count after.total_fragments
unfolding insert_of
held_tells b slots lengths nr body after all e = held_picks (insert_check_of b slots lengths nr body) _ after all e

all_there : (st : Store) → Sound st → (p : Piece) (after : ReassemblyBuffer) (all : Bool)
    → inserted_answer (insert_of st.buffer st.slots st.lengths p.nr p.body) ≡ gives (after, all)
    → (all ≡ true → AllHeld (insert_into st p)) × (AllHeld (insert_into st p) → all ≡ true)
unfolding insert_into
all_there st sound p after all e =
    let s = insert_sound st p sound in
    let is = held_is (insert_of st.buffer st.slots st.lengths p.nr p.body) after all e in
    let says : all ≡ eqb after.received_count after.total_fragments = held_tells st.buffer st.slots st.lengths p.nr p.body after all is in
    let b : (insert_into st p).buffer ≡ after = rw is in (
      λ so. all_slots (insert_into st p) s (none_lacking (insert_into st p) s (rw b (eqb-true _ _ (sym says ∙ so)))),
      λ held. says ∙ eq-eqb _ _ (rw b at (counts_all (insert_into st p) s (held_none_lacking (insert_into st p) s (lacking (insert_into st p) s) refl held))),
    )

pub sound_tells : SoundTells
sound_tells st sound = record {
  missing = missing st sound;
  not_early = λ out e. not_early st sound out e (lacking st sound) refl;
  whole = λ all. passes st sound (held_none_lacking st sound (lacking st sound) refl all);
  all_there = all_there st sound;
}
