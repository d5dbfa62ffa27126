-- What goes, counted; one step of a sweep.
use Prim.Native.Nat.{ℕ, zero, suc, ◌+◌, ◌-◌, ◌<◌, ◌≤◌}
use mathlib.Core.Path.{◌≡◌, refl, ap, ◌∙◌}
use mathlib.Core.Bool.{Bool, true, false, cond}
use mathlib.Core.List.{List, [], ◌∷◌}
use native.Mathlib.Numerals.{add-one}
use native.Mathlib.Omega.{arith}
use lib.ListN.{set, length}
use lib.Seq.{sets, get_or-set_other}
use Rattle.codec.specs.Bytes.{put_at}
use Rattle.codec.proofs.bytes.Laws.{put_sets}
use Rattle.sessions.specs.Table.{session_at, is_free, row_of, ended_session, expired_of}
use Rattle.sessions.specs.Opening.{live_from}
use Rattle.sessions.specs.Sweep.{goes, expired_from, swept_at, swept_from, expired_ids, swept_rows}

-- a list of no length is empty, and nothing is stored of it
empty : (l : List ℕ) → length l ≡ 0 → l ≡ []
empty [] h = refl
empty (x ∷ l) h = absurd (omega arith)

pub stores_none : (out : List ℕ) (at : ℕ) (ids : List ℕ) → length ids ≡ 0 → out ≡ sets out at ids
stores_none out at ids h = rw (empty ids h) refl

-- what a test counts, for any test
module _ (gone : ℕ → Bool) where
  -- with one id more in front
  count_step : (i j m n : ℕ) → j ≡ suc i → m ≡ suc n → length (expired_from gone i m) ≡ cond (gone i) 1 0 + length (expired_from gone j n)
  unfolding expired_from
  count_step i j m n d e = rw (d, e) (by (gone i) (expired_from gone (suc i) n))
    where
      by : (b : Bool) (ids : List ℕ) → length (cond b (i ∷ ids) ids) ≡ cond b 1 0 + length ids
      by true ids = omega arith
      by false ids = omega arith

  -- with five more in front
  pub count_more : (i j m n : ℕ) → j ≡ i + 5 → m ≡ 5 + n
      → length (expired_from gone i m)
      ≡ cond (gone i) 1 0 + cond (gone (i + 1)) 1 0 + cond (gone (i + 2)) 1 0 + cond (gone (i + 3)) 1 0 + cond (gone (i + 4)) 1 0 + length (expired_from gone j n)
  count_more i j m n d e =
      let one = count_step i (i + 1) m (4 + n) (omega arith) (omega arith) in
      let two = count_step (i + 1) (i + 2) (4 + n) (3 + n) (omega arith) (omega arith) in
      let three = count_step (i + 2) (i + 3) (3 + n) (2 + n) (omega arith) (omega arith) in
      let four = count_step (i + 3) (i + 4) (2 + n) (1 + n) (omega arith) (omega arith) in
      omega (arith, one, two, three, four, count_step (i + 4) j (1 + n) n (omega arith) (omega arith))

  pub count_none : (i n : ℕ) → n ≡ 0 → length (expired_from gone i n) ≡ 0
  unfolding expired_from
  count_none i n e = rw e refl

  -- what goes of five and of those behind them
  pub five_more : (i j m n a c : ℕ) → j ≡ i + 5 → m ≡ 5 + n → a ≡ length (expired_from gone j n) → c ≡ length (expired_from gone i 5) → a + c ≡ length (expired_from gone i m)
  five_more i j m n a c d e f g = omega (arith, f, g, count_more i j 5 0 d refl, count_more i j m n d e, count_none j 0 refl)

module _ (time timeout : ℕ) where
  -- what goes at other ids does not change with a row
  pub goes_other : (rows : List (List ℕ)) (i j : ℕ) (w : List ℕ) → i < j → goes (set rows i w) time timeout j ≡ goes rows time timeout j
  unfolding goes
  goes_other rows i j w h = rw (get_or-set_other rows i j w [] (λ e. omega arith))

  expired_other : (rows : List (List ℕ)) (i : ℕ) (w : List ℕ) (j n : ℕ) → i < j → expired_from (goes (set rows i w) time timeout) j n ≡ expired_from (goes rows time timeout) j n
  unfolding expired_from
  expired_other rows i w j zero h = refl
  expired_other rows i w j (suc n) h = rw (goes_other rows i j w h, expired_other rows i w (suc j) n (omega arith))

  -- a swept id changes nothing of those behind it
  expired_swept : (rows : List (List ℕ)) (i n : ℕ) → expired_from (goes (swept_at rows time timeout i) time timeout) (suc i) n ≡ expired_from (goes rows time timeout) (suc i) n
  unfolding swept_at
  expired_swept rows i n = go (goes rows time timeout i)
    where
      go : (b : Bool) → expired_from (goes (cond b (set rows i (row_of ended_session)) rows) time timeout) (suc i) n ≡ expired_from (goes rows time timeout) (suc i) n
      go true = expired_other rows i (row_of ended_session) (suc i) n (omega arith)
      go false = refl

  module _ (rows : List (List ℕ)) where
    swept_step : (i : ℕ) → i < 256
        → swept_from (swept_at rows time timeout i) time timeout (i + 1) (256 - (i + 1)) ≡ swept_from rows time timeout i (256 - i)
    unfolding swept_from
    swept_step i h = go (256 - i) (256 - (i + 1)) (i + 1) (omega arith) (omega arith)
      where
        go : (m n k : ℕ) → m ≡ suc n → k ≡ suc i → swept_from (swept_at rows time timeout i) time timeout k n ≡ swept_from rows time timeout i m
        go m n k e f = rw (e, f) refl

    -- the ids listed from i on, written behind those before
    listed_step : (out : List ℕ) (i at : ℕ) → i < 256
        → sets (cond (goes rows time timeout i) (set out at i) out) (cond (goes rows time timeout i) (at + 1) at) (expired_from (goes (swept_at rows time timeout i) time timeout) (i + 1) (256 - (i + 1)))
        ≡ sets out at (expired_from (goes rows time timeout) i (256 - i))
    unfolding expired_from
    listed_step out i at h = go (256 - i) (256 - (i + 1)) (i + 1) (omega arith) (omega arith)
      where
        one : at + 1 ≡ suc at
        one = omega arith

        by : (b : Bool) (ids : List ℕ) → sets (cond b (set out at i) out) (cond b (at + 1) at) ids ≡ sets out at (cond b (i ∷ ids) ids)
        by true ids = ap (λ (k : ℕ). sets (set out at i) k ids) one
        by false ids = refl

        go : (m n k : ℕ) → m ≡ suc n → k ≡ suc i
            → sets (cond (goes rows time timeout i) (set out at i) out) (cond (goes rows time timeout i) (at + 1) at) (expired_from (goes (swept_at rows time timeout i) time timeout) k n)
            ≡ sets out at (expired_from (goes rows time timeout) i m)
        go m n k e f = rw (e, f, expired_swept rows i n) (by (goes rows time timeout i) (expired_from (goes rows time timeout) (suc i) n))

    -- a turn of the sweep
    module _ (i at : ℕ) (i< : i < 256) (out : List ℕ) (rows' : List (List ℕ)) (out' : List ℕ) (at' : ℕ)
        (a : at' ≡ cond (goes rows time timeout i) (at + 1) at) (r : rows' ≡ swept_at rows time timeout i)
        (o : out' ≡ cond (goes rows time timeout i) (set out at i) out) where
      pub swept_turn : swept_from rows' time timeout (i + 1) (256 - (i + 1)) ≡ swept_from rows time timeout i (256 - i)
      swept_turn = rw r (swept_step i i<)

      pub listed_turn : sets out' at' (expired_from (goes rows' time timeout) (i + 1) (256 - (i + 1))) ≡ sets out at (expired_from (goes rows time timeout) i (256 - i))
      listed_turn = rw (a, r, o) (listed_step out i at i<)

      -- what is listed and what is left come to the same number
      pub left_turn : at' + length (expired_from (goes rows' time timeout) (i + 1) (256 - (i + 1))) ≡ at + length (expired_from (goes rows time timeout) i (256 - i))
      left_turn = rw (a, r, add-one i, expired_swept rows i (256 - suc i))
          (omega (arith, more (goes rows time timeout i), count_step (goes rows time timeout) i (suc i) (256 - i) (256 - suc i) refl (omega arith)))
        where
          more : (b : Bool) → cond b (at + 1) at ≡ at + cond b 1 0
          more true = refl
          more false = omega arith

      pub at_turn : at < i → at' < i + 1
      at_turn h = rw a (go (goes rows time timeout i))
        where
          go : (b : Bool) → cond b (at + 1) at < i + 1
          go true = omega arith
          go false = omega arith

    -- ids of which none goes may be passed over
    pub none_passed : (i j m n k : ℕ) → j ≡ i + m → k ≡ m + n → length (expired_from (goes rows time timeout) i m) ≡ 0
        → (expired_from (goes rows time timeout) j n ≡ expired_from (goes rows time timeout) i k) × (swept_from rows time timeout j n ≡ swept_from rows time timeout i k)
    unfolding expired_from swept_from swept_at
    none_passed i j zero n k d e h =
        let d' : j ≡ i = omega arith in
        let e' : k ≡ n = omega arith in
        rw (d', e') (refl, refl)
    none_passed i j (suc m) n k d e h =
        let e' : k ≡ suc (m + n) = omega arith in
        rw e' (go (expired_from (goes rows time timeout) (suc i) m) (expired_from (goes rows time timeout) (suc i) (m + n)) (none_passed (suc i) j m n (m + n) (omega arith) refl) (goes rows time timeout i) h)
      where
        go : (ids more : List ℕ) → (length ids ≡ 0 → (expired_from (goes rows time timeout) j n ≡ more) × (swept_from rows time timeout j n ≡ swept_from rows time timeout (suc i) (m + n)))
            → (b : Bool) → length (cond b (i ∷ ids) ids) ≡ 0
            → (expired_from (goes rows time timeout) j n ≡ cond b (i ∷ more) more) × (swept_from rows time timeout j n ≡ swept_from (cond b (set rows i (row_of ended_session)) rows) time timeout (suc i) (m + n))
        go ids more rest true z = absurd (omega arith)
        go ids more rest false z = rest z

    pub swept_end : (i n : ℕ) → length (expired_from (goes rows time timeout) i n) ≡ 0 → rows ≡ swept_from rows time timeout i n
    unfolding swept_from
    swept_end i n h = (none_passed i (i + n) n 0 n refl (omega arith) h).1

    pub first_passed : (first : ℕ) → 1 ≤ first → first ≤ 256 → length (expired_from (goes rows time timeout) 1 (first - 1)) ≡ 0
        → (expired_from (goes rows time timeout) first (256 - first) ≡ expired_ids rows time timeout) × (swept_from rows time timeout first (256 - first) ≡ swept_rows rows time timeout)
    unfolding expired_ids swept_rows
    first_passed first l u h = none_passed 1 first (first - 1) (256 - first) 255 (omega arith) (omega arith) h

    -- every id written in its place is one write
    pub listed_all : (out : List ℕ) → length (expired_ids rows time timeout) ≤ length out
        → sets out 0 (expired_ids rows time timeout) ≡ put_at out 0 (expired_ids rows time timeout)
    listed_all out h = put_sets out 0 (expired_ids rows time timeout) (omega arith)

  -- a sweep is done once none of the ids from i on goes
  pub sweep_done : (all : List (List ℕ)) (out : List ℕ) → length (expired_ids all time timeout) ≤ length out
      → (rows : List (List ℕ)) (ys : List ℕ) (i at : ℕ) → length (expired_from (goes rows time timeout) i (256 - i)) ≡ 0
      → swept_from rows time timeout i (256 - i) ≡ swept_rows all time timeout
      → sets ys at (expired_from (goes rows time timeout) i (256 - i)) ≡ sets out 0 (expired_ids all time timeout)
      → (rows ≡ swept_rows all time timeout) × (ys ≡ put_at out 0 (expired_ids all time timeout))
  sweep_done all out h rows ys i at none swept listed = (
    swept_end rows i (256 - i) none ∙ swept,
    stores_none ys at (expired_from (goes rows time timeout) i (256 - i)) none ∙ listed ∙ listed_all all out h,
  )

-- of ids of which none is live none goes
pub free_stay : (rows : List (List ℕ)) (time timeout i n : ℕ) → live_from (is_free rows) i n ≡ 0 → length (expired_from (goes rows time timeout) i n) ≡ 0
unfolding live_from expired_from goes
free_stay rows time timeout i zero h = refl
free_stay rows time timeout i (suc n) h = by (is_free rows i) (expired_from (goes rows time timeout) (suc i) n) h (free_stay rows time timeout (suc i) n)
  where
    by : (b : Bool) (ids : List ℕ) → cond b 0 1 + live_from (is_free rows) (suc i) n ≡ 0 → (live_from (is_free rows) (suc i) n ≡ 0 → length ids ≡ 0)
        → length (cond (cond b false (expired_of (session_at rows i) time timeout)) (i ∷ ids) ids) ≡ 0
    by true ids k rest = rest (omega arith)
    by false ids k rest = absurd (omega arith)
