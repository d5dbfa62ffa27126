-- Laws of held messages: what an answer that isn't a refusal says of its numbers.
use Rattle.std.proofs.Common.{ap, ◌≡◌, ℕ, ◌+◌, ◌-◌, ◌*◌, ◌<◌, ◌≤◌, Bool, true, false, cond, not, eqb, ltb, leb, List, length, get_or, sym, refl, ◌∙◌, arith, ltb-false, leb-false}
use borrow.Author.Tests.{eqb-false}
use Rattle.codec.specs.Bytes.{put_bytes}
use Rattle.codec.proofs.bytes.Laws.{put_fits}
use Rattle.codec.specs.declared.refusals.Refusal.{Refusal}
use Rattle.codec.specs.declared.refusals.Refusal.TheVariants.{OverLimit, StoreFull}
use Rattle.streams.specs.declared.state.StreamState.{StreamState}
use Rattle.streams.specs.Places.{place_of, holds_at, in_limits, place_for}
use Rattle.streams.specs.Sent.{slot_for, held_of, need, with_message, record_of, record_at, record_bytes, bytes_at, held_bytes}
use Rattle.streams.proofs.places.Held.{holds_nonzero, held_there}
use Rattle.std.proofs.lemmas.Bool.{not-false}
use Rattle.std.proofs.lemmas.Option.{none-some}
use Rattle.std.specs.Prelude.{Err, None, Ok, Option, Result, Some, []}
use Rattle.std.specs.Result.{result_unwrap_or}

-- a choice between a refusal and the rest that comes to a place is the rest
past_slot : (p : ℕ) (t : Bool) (r : Refusal) (x : Result (Option ℕ) Refusal) → cond t (Err r) x ≡ Ok (Some p) → (t ≡ false) × (x ≡ Ok (Some p))
past_slot p true r x e = absurd (let z : ◌≡◌ {A = ℕ} 0 1 = cc in omega arith)
past_slot p false r x e = (refl, e)

past_held : (p k : ℕ) (t : Bool) (y x : Result (Option (ℕ × ℕ)) Refusal) → (y ≡ Ok (Some (p, k)) → ⊥) → cond t y x ≡ Ok (Some (p, k)) → (t ≡ false) × (x ≡ Ok (Some (p, k)))
past_held p k true y x n e = absurd (n e)
past_held p k false y x n e = (refl, e)

reliable : (p : ℕ) (t : Bool) (x : Result (Option ℕ) Refusal) → cond t (Ok None) x ≡ Ok (Some p) → (t ≡ false) × (x ≡ Ok (Some p))
reliable p true x e = absurd (let z : ◌≡◌ {A = ℕ} 0 1 = cc in omega arith)
reliable p false x e = (refl, e)

-- a message is recorded at a place below 16, is at most 1,024 bytes long, and the buffer has room for all places
pub record SlotAt (s : StreamState) (n len room p : ℕ) : Type 0 where
  pub other : s.stream_id ≡ 0 → ⊥
  pub room_for : need ≤ room
  pub limits : in_limits s ≡ true
  pub short : len ≤ 1024
  pub low : p < 16
  pub place : place_for s n ≡ p

pub slot_at : (s : StreamState) (n len room p : ℕ) → slot_for s n len room ≡ Ok (Some p) → SlotAt s n len room p
unfolding slot_for
slot_at s n len room p e =
    let a = reliable p (eqb s.stream_id 0) _ e in
    let b = past_slot p (ltb room need) OverLimit _ a.1 in
    let c = past_slot p (not (in_limits s)) OverLimit _ b.1 in
    let d = past_slot p (ltb 1024 len) StoreFull _ c.1 in
    let f = past_slot p (leb 16 (place_for s n)) StoreFull _ d.1 in
    let same : place_for s n ≡ p = cc in
    record {
      other = eqb-false s.stream_id 0 a.0;
      room_for = ltb-false room need b.0;
      limits = not-false (in_limits s) c.0;
      short = ltb-false 1024 len d.0;
      low = rw (← same) (leb-false 16 (place_for s n) f.0);
      place = same;
    }

-- a number that is held has a length that isn't 0
pub held_length : (s : StreamState) (n : ℕ) → place_of s n < 16 → 1 ≤ get_or s.lengths (place_of s n) 0
unfolding holds_at
held_length s n h = holds_nonzero (get_or s.numbers (place_of s n) 0) (get_or s.lengths (place_of s n) 0) n (held_there s n h)

-- what `find_held` finds lies within the buffer
pub record HeldAt (s : StreamState) (n room p k : ℕ) : Type 0 where
  pub room_for : need ≤ room
  pub low : p < 16
  pub short : k ≤ 1024
  pub place : place_of s n ≡ p
  pub size : get_or s.lengths p 0 ≡ k + 1

-- what `Ok` holds of one answer, another holds
ok_is : {A : Type 0} {a b : A} → ◌≡◌ {A = Result A Refusal} (Ok a) (Ok b) → a ≡ b
ok_is e = cc

pub held_at : (s : StreamState) (n room p k : ℕ) → held_of s n room ≡ Ok (Some (p, k)) → HeldAt s n room p k
unfolding held_of
held_at s n room p k e =
    let refused : ◌≡◌ {A = Result (Option (ℕ × ℕ)) Refusal} (Err OverLimit) (Ok (Some (p, k))) → ⊥ = λ x. let z : ◌≡◌ {A = ℕ} 0 1 = cc in omega arith in
    let nothing : ◌≡◌ {A = Result (Option (ℕ × ℕ)) Refusal} (Ok None) (Ok (Some (p, k))) → ⊥ = λ x. none-some _ (ok_is x) in
    let a = past_held p k (ltb room need) (Err OverLimit) _ refused e in
    let b = past_held p k (leb 16 (place_of s n)) (Ok None) _ nothing a.1 in
    let c = past_held p k (ltb 1025 (get_or s.lengths (place_of s n) 0)) (Err OverLimit) _ refused b.1 in
    let both : ◌≡◌ {A = ℕ × ℕ} (place_of s n, get_or s.lengths (place_of s n) 0 - 1) (p, k) = cc in
    let same : place_of s n ≡ p = ap (λ (x : ℕ × ℕ). x.0) both in
    let long : get_or s.lengths (place_of s n) 0 - 1 ≡ k = ap (λ (x : ℕ × ℕ). x.1) both in
    let l : place_of s n < 16 = leb-false 16 (place_of s n) b.0 in
    let size : get_or s.lengths (place_of s n) 0 ≡ k + 1 = omega (arith, held_length s n l) in
    record {
      room_for = ltb-false room need a.0;
      low = rw (← same) l;
      short = omega (arith, ltb-false 1025 (get_or s.lengths (place_of s n) 0) c.0);
      place = same;
      size = rw (← same) size;
    }

-- what each answer of `slot_for` makes of the state and of the buffer
module _ (s : StreamState) (n : ℕ) (message buffer : List ℕ) where
  pub record_at_lem : (p : ℕ) → slot_for s n (length message) (length buffer) ≡ Ok (Some p)
      → (record { slot = Ok (Some p); state = with_message s p n (length message) } ≡ record_of s n (length message) (length buffer))
      × (put_bytes buffer (p * 1024) message ≡ record_bytes s n message buffer)
  unfolding record_of record_at record_bytes bytes_at
  record_at_lem p e =
      let k = slot_at s n (length message) (length buffer) p e in
      (rw e, sym (put_fits buffer (p * 1024) message (omega (arith, k.low, k.short, k.room_for))).1 ∙ rw e)

  -- a refusal, or best effort
  pub record_nowhere : (x : Result (Option ℕ) Refusal) → slot_for s n (length message) (length buffer) ≡ x → result_unwrap_or x None ≡ None
      → (record { slot = x; state = s } ≡ record_of s n (length message) (length buffer)) × (buffer ≡ record_bytes s n message buffer)
  unfolding record_of record_at record_bytes bytes_at
  record_nowhere (Ok None) e h = (rw e, rw e)
  record_nowhere (Ok (Some p)) e h = absurd (none-some p (sym h))
  record_nowhere (Err r) e h = (rw e, rw e)

-- what an answer gives, if anything
pub given : {A : Type 0} (x : Result (Option A) Refusal) (y : A) → result_unwrap_or x None ≡ Some y → x ≡ Ok (Some y)
given (Ok z) y e = ap Ok e
given (Err r) y e = absurd (none-some y e)

pub nothing_held : (x : Result (Option (ℕ × ℕ)) Refusal) (buffer : List ℕ) → result_unwrap_or x None ≡ None → [] ≡ held_bytes x buffer
unfolding held_bytes
nothing_held (Ok None) buffer e = refl
nothing_held (Ok (Some (p, k))) buffer e = absurd (none-some _ (sym e))
nothing_held (Err r) buffer e = refl
