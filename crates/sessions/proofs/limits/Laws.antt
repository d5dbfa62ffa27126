-- Stores, counts, slot, fragments and lengths within their limits.
use Prim.Native.Nat.{ℕ, zero, suc, ◌+◌, ◌-◌, ◌*◌, ◌<◌, ◌≤◌}
use mathlib.Core.Path.{◌≡◌, refl, sym, ◌∙◌}
use mathlib.Core.Bool.{Bool, true, false, cond, not, ◌||◌}
use mathlib.Core.List.{List, [], ◌∷◌}
use native.Mathlib.Omega.{arith}
use borrow.Author.Tests.{leb-true, lt-leb, le-leb, le-ltb, eq-eqb, eqb-true}
use lib.Dec.{eqb, leb}
use lib.ListN.{length, get_or, take, drop}
use lib.Seq.{length-take-le}
use Rattle.codec.specs.Reassembly.{under_need}
use Rattle.codec.specs.Inserts as codec
use Rattle.codec.proofs.reassembly.Laws.{over_past}
use Rattle.codec.proofs.reassembly.View.{held_most, length_slots}
use Rattle.codec.specs.declared.refusals.Refusal.TheVariants.{OverLimit}
use Rattle.streams.specs.Places.{first_from, first_place, within, length_at, place_between, in_limits}
use Rattle.streams.specs.State.{new_stream}
use Rattle.streams.specs.declared.state.StreamState.{StreamState}
use Rattle.sessions.specs.Need.{most_fragments, most_body, stores_fit}
use Rattle.sessions.specs.Sending.{room_of, buffer_in}
use Rattle.sessions.specs.Fragments.{buffer_with, fragments_over}
use Rattle.sessions.specs.declared.sending.Stretch.{Stretch}
use Rattle.sessions.specs.Table.{session_at}
use Rattle.sessions.specs.Limits.{over_long, slot_kept, lengths_short, lengths_kept, counts_kept, fragments_kept, store_kept, rows_kept, limits_from, limits_of}
use Rattle.sessions.specs.declared.objects.Object.{Object}
use Rattle.sessions.specs.declared.table.ClientSession.{ClientSession}
use Rattle.sessions.proofs.setup.Laws.{Long, accepts, both}
use Rattle.std.specs.Prelude.{Err, Ok, Result}
use Rattle.codec.specs.declared.refusals.Refusal.{Refusal}

-- within them exactly where a test holds
within_by : (b : Bool) (x : Result (Unit {0}) Refusal) → cond b x (Err OverLimit) ≡ (Ok tt) → (b ≡ true) × (x ≡ (Ok tt))
within_by true x e = (refl, e)
within_by false x e = let z : ◌≡◌ {A = ℕ} 0 1 = cc in absurd (omega arith)

-- ---- the sixteen lengths of a stream, by a test that says which are past the limit

abbrev pub long_at : List ℕ → ℕ → Bool
long_at lengths i = over_long (get_or lengths i 0)

module _ (long : ℕ → Bool) where
  -- whether those from i on are within it, and none before them is over
  abbrev pub within_from : Bool → ℕ → Bool
  within_from over i = cond over false (leb 16 (first_from long (16 - i) i))

  pub within_step : (over : Bool) (i : ℕ) → i < 16 → within_from (over || long i) (i + 1) ≡ within_from over i
  unfolding first_from
  within_step over i h = go (16 - i) (16 - (i + 1)) (i + 1) (omega arith) (omega arith)
    where
      by : (a b : Bool) (m : ℕ) → cond (a || b) false (leb 16 m) ≡ cond a false (leb 16 (cond b i m))
      by true b m = refl
      by false true m = rw (lt-leb 16 i h) refl
      by false false m = refl

      go : (m n k : ℕ) → m ≡ suc n → k ≡ suc i → cond (over || long i) false (leb 16 (first_from long n k)) ≡ cond over false (leb 16 (first_from long m i))
      go m n k e f = rw (e, f) (by over (long i) (first_from long n (suc i)))

  pub within_end : (over : Bool) (i : ℕ) → 16 ≤ i → not over ≡ within_from over i
  unfolding first_from
  within_end over i h = go (16 - i) (omega arith)
    where
      by : (a : Bool) → not a ≡ cond a false true
      by true = refl
      by false = refl

      go : (m : ℕ) → m ≡ 0 → not over ≡ cond over false (leb 16 (first_from long m i))
      go m e = rw e (rw (le-leb 16 i h) (by over))

pub lengths_in : (s : StreamState) → lengths_short s.lengths ≡ in_limits s
unfolding in_limits place_between length_at
lengths_in s = refl

-- a new stream holds nothing
pub new_in : true ≡ in_limits (new_stream 0)
unfolding in_limits place_between length_at first_place first_from within
new_in = refl

-- ---- the fragments of a session

-- a part has at most the bytes of its stretch
part_most : (held : List ℕ) (b : Stretch) → length (buffer_in held b) ≤ room_of b
unfolding buffer_in
part_most held b = most (room_of b) (drop b.start held)
  where
    most : (n : ℕ) (l : List ℕ) → length (take n l) ≤ n
    most zero l = omega arith
    most (suc n) [] = omega arith
    most (suc n) (x ∷ l) = let h = most n l in omega arith

-- within their limits where codec's soundness holds
module _ (s : ClientSession) (parts : List ℕ) (b : Stretch) (lengths : List ℕ) (few : s.total ≤ most_fragments)
    (sound : codec.Sound (record { buffer = buffer_with s.total s.received; slots = buffer_in parts b; lengths = lengths })) where
  few_received : s.received ≤ s.total
  few_received =
      let v = codec.slots_of most_body (buffer_in parts b) (take s.total lengths) in
      let most = held_most v in
      let all = length_slots most_body (buffer_in parts b) (take s.total lengths) in
      let long = length-take-le s.total lengths sound.entries in
      omega (arith, sound.counted, most, all, long)

  enough : under_need s.total most_body (room_of b) (length lengths) ≡ false
  unfolding under_need
  enough =
      let h : s.total * 512 ≤ room_of b = let a = part_most parts b in let t = sound.there in omega arith in
      rw (le-ltb (room_of b) (s.total * 512) h, le-ltb (length lengths) s.total sound.entries) refl

  none_over : fragments_over s (room_of b) lengths ≡ false
  none_over = sym (over_past (buffer_with s.total s.received) (room_of b) lengths enough few_received) ∙ sound.within

  pub fragments_kept_lem : fragments_kept s (room_of b) lengths ≡ true
  fragments_kept_lem = by (eqb s.total 0) refl
    where
      by : (z : Bool) → eqb s.total 0 ≡ z
          → cond z (eqb s.received 0) (cond (leb s.total most_fragments) (cond (leb s.received s.total) (not (fragments_over s (room_of b) lengths)) false) false) ≡ true
      by true e = eq-eqb s.received 0 (let h = few_received in let z = eqb-true s.total 0 e in omega arith)
      by false e = rw (le-leb s.total 64 few, le-leb s.received s.total few_received, none_over) refl

module _ (sessions streams : List (List ℕ)) (objects : List Object) (held parts : ℕ) (lengths : List ℕ) (rebuilt max id n : ℕ) where
  abbrev fit : Bool
  fit = stores_fit (length sessions) (length streams) (length objects) held parts (length lengths) rebuilt max

  -- what is within them
  pub record Kept : Type 0 where
    pub stores : Long (length sessions) (length streams) (length objects) held parts (length lengths) rebuilt max
    pub objects_few : (session_at sessions id).objects ≤ 32
    pub streams_few : (session_at sessions id).streams ≤ 8
    pub slot_kept_lem : slot_kept (session_at sessions id) max ≡ true
    pub store_kept_lem : store_kept sessions parts lengths id ≡ true
    pub lengths_kept_lem : lengths_kept sessions streams id n ≡ true

  pub kept_limits : limits_of sessions streams objects held parts lengths rebuilt max id n ≡ (Ok tt) → Kept
  unfolding limits_of
  kept_limits e =
      let s = session_at sessions id in
      let a = within_by fit (limits_from sessions streams parts lengths max id n) e in
      let b = within_by (rows_kept sessions streams parts lengths max id n) (Ok tt) a.1 in
      let c = both (counts_kept s) _ b.0 in
      let d = both (slot_kept s max) _ c.1 in
      let g = both (store_kept sessions parts lengths id) (lengths_kept sessions streams id n) d.1 in
      let f = both (leb s.objects 32) (leb s.streams 8) c.0 in
      record {
        stores = accepts (length sessions) (length streams) (length objects) held parts (length lengths) rebuilt max a.0;
        objects_few = leb-true s.objects 32 f.0;
        streams_few = leb-true s.streams 8 f.1;
        slot_kept_lem = d.0;
        store_kept_lem = g.0;
        lengths_kept_lem = g.1;
      }
