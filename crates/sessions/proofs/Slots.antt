-- The lowest free slot: no live session has it, and with fewer sessions live than a limit it is below that limit.
use Prim.Native.Nat.{ℕ, zero, suc, ◌+◌, ◌<◌, ◌≤◌}
use mathlib.Core.Path.{◌≡◌, refl, sym, ap, ◌∙◌}
use mathlib.Core.Logic.{◌≢◌}
use mathlib.Core.Bool.{Bool, true, false, cond, not}
use mathlib.Core.List.{List}
use native.Mathlib.Omega.{arith}
use borrow.Author.Tests.{eqb-true, eqb-false, leb-true, leb-false, ltb-true, ltb-false, eq-eqb, not-true, not-false}
use lib.Dec.{eqb, leb, ltb}
use lib.ListN.{length, get_or, set, replicate, length-replicate, get_or-replicate, length-set}
use lib.Seq.{get_or-set_same, get_or-set_other}
use Rattle.streams.specs.Places.{first_from}
use Rattle.streams.proofs.places.Laws.{found_from, before_from}
use Rattle.sessions.specs.Table.{session_at, is_free}
use Rattle.sessions.specs.Opening.{live_from, live_of, has_slot, taken_from, slot_taken, free_slot, marked_at, marked_from, unmarked}

module _ (rows : List (List ℕ)) where
  abbrev slot : ℕ → ℕ
  slot id = (session_at rows id).slot

  -- ---- a slot that is not taken is no live session's

  none_taken : (has : ℕ → Bool) (n i j : ℕ) → taken_from has i n ≡ false → i ≤ j → j < i + n → has j ≡ false
  unfolding taken_from
  none_taken has zero i j e a b = let z : ⊥ = omega arith in absurd z
  none_taken has (suc n) i j e a b = by (has i) refl e (eqb i j) refl (λ f q. none_taken has n (suc i) j f (omega (arith, q)) (omega arith))
    where
      by : (h : Bool) → has i ≡ h → cond h true (taken_from has (suc i) n) ≡ false → (s : Bool) → eqb i j ≡ s → (taken_from has (suc i) n ≡ false → i ≢ j → has j ≡ false) → has j ≡ false
      by true p e s q later = let z : ◌≡◌ {A = ℕ} 0 1 = cc in absurd (omega arith)
      by false p e true q later = ap has (sym (eqb-true i j q)) ∙ p
      by false p e false q later = later e (eqb-false i j q)

  pub not_its : (k : ℕ) → slot_taken rows k ≡ false → (id : ℕ) → 1 ≤ id → id ≤ 255 → is_free rows id ≡ false → slot id ≢ k
  unfolding slot_taken
  not_its k e id a b live q = by (none_taken (has_slot rows k) 255 1 id e a (omega arith))
    where
      by : cond (is_free rows id) false (eqb (slot id) k) ≡ false → ⊥
      by f = let z : ◌≡◌ {A = ℕ} 0 1 = cc (live, eq-eqb (slot id) k q, f) in omega arith

  -- ---- as many sessions are live as slots are taken

  -- an id counts as free if its slot is k or more
  abbrev beyond : ℕ → ℕ → Bool
  beyond k id = cond (is_free rows id) true (leb k (slot id))

  fewer : (k n i : ℕ) → live_from (beyond k) i n ≤ live_from (is_free rows) i n
  unfolding live_from
  fewer k zero i = omega arith
  fewer k (suc n) i = by (is_free rows i) (leb k (slot i)) (fewer k n (suc i))
    where
      by : (f g : Bool) → live_from (beyond k) (suc i) n ≤ live_from (is_free rows) (suc i) n
          → cond (cond f true g) 0 1 + live_from (beyond k) (suc i) n ≤ cond f 0 1 + live_from (is_free rows) (suc i) n
      by true g h = omega arith
      by false true h = omega arith
      by false false h = omega arith

  one_more : (k n i : ℕ) → live_from (beyond k) i n + cond (taken_from (has_slot rows k) i n) 1 0 ≤ live_from (beyond (suc k)) i n
  unfolding live_from taken_from
  one_more k zero i = omega arith
  one_more k (suc n) i = by (is_free rows i) (leb k (slot i)) refl (leb (suc k) (slot i)) refl (eqb (slot i) k) refl (taken_from (has_slot rows k) (suc i) n) (one_more k n (suc i))
    where
      by : (f a : Bool) → leb k (slot i) ≡ a → (b : Bool) → leb (suc k) (slot i) ≡ b → (c : Bool) → eqb (slot i) k ≡ c → (d : Bool)
          → live_from (beyond k) (suc i) n + cond d 1 0 ≤ live_from (beyond (suc k)) (suc i) n
          → cond (cond f true a) 0 1 + live_from (beyond k) (suc i) n + cond (cond (cond f false c) true d) 1 0 ≤ cond (cond f true b) 0 1 + live_from (beyond (suc k)) (suc i) n
      by true a p b q c r d h = omega arith
      by false true p true q true r d h = let u : suc k ≤ slot i = leb-true (suc k) (slot i) q in let v : slot i ≡ k = eqb-true (slot i) k r in absurd (omega arith)
      by false true p true q false r d h = omega arith
      by false true p false q true r true h = omega arith
      by false true p false q true r false h = omega arith
      by false true p false q false r d h =
          let u : k ≤ slot i = leb-true k (slot i) p in let v : slot i < suc k = leb-false (suc k) (slot i) q in let w : slot i ≢ k = eqb-false (slot i) k r in absurd (w (omega arith))
      by false false p true q c r d h = let u : slot i < k = leb-false k (slot i) p in let v : suc k ≤ slot i = leb-true (suc k) (slot i) q in absurd (omega arith)
      by false false p false q true r d h = let u : slot i < k = leb-false k (slot i) p in let v : slot i ≡ k = eqb-true (slot i) k r in absurd (omega arith)
      by false false p false q false r d h = omega arith

  as_many : (m : ℕ) → ((k : ℕ) → k < m → slot_taken rows k ≡ true) → m ≤ live_from (beyond m) 1 255
  unfolding slot_taken
  as_many zero t = omega arith
  as_many (suc m) t =
      let a = as_many m (λ k h. t k (omega arith)) in
      let b = rw (t m (omega arith)) at (one_more m 255 1) in
      omega (arith, a, b)

  taken_below : (k : ℕ) → k < free_slot rows → slot_taken rows k ≡ true
  unfolding free_slot
  taken_below k h = not-false (slot_taken rows k) (before_from (λ k. not (slot_taken rows k)) 255 0 k (omega arith) h)

  -- with fewer than max live, the lowest free slot is below max, and it is free
  module _ (max : ℕ) (max≤ : max ≤ 255) (live : live_of rows < max) where
    pub slot_under : free_slot rows < max
    unfolding live_of
    slot_under = by (ltb (free_slot rows) max) refl
      where
        crowded : max ≤ free_slot rows → ⊥
        crowded h =
            let a = as_many max (λ k l. taken_below k (omega arith)) in
            let b = fewer max 255 1 in
            omega (arith, a, b)

        by : (b : Bool) → ltb (free_slot rows) max ≡ b → free_slot rows < max
        by true e = ltb-true (free_slot rows) max e
        by false e = absurd (crowded (ltb-false (free_slot rows) max e))

    pub slot_free : slot_taken rows (free_slot rows) ≡ false
    unfolding free_slot
    slot_free = let h = slot_under in not-true (slot_taken rows (free_slot rows)) (found_from (λ k. not (slot_taken rows k)) 255 0 (omega (arith, h)))

  -- ---- as the code finds it: the slots of live sessions are marked

  pub marked_length : (n id : ℕ) (taken : List ℕ) → length (marked_from rows n id taken) ≡ length taken
  unfolding marked_from
  marked_length zero id taken = refl
  marked_length (suc n) id taken = marked_length n (suc id) (marked_at rows id taken) ∙ by (is_free rows id)
    where
      by : (b : Bool) → length (cond b taken (set taken (slot id) 1)) ≡ length taken
      by true = refl
      by false = length-set taken (slot id) 1

  pub marked_none : (n id : ℕ) (taken : List ℕ) → n ≡ 0 → marked_from rows n id taken ≡ taken
  unfolding marked_from
  marked_none n id taken e = rw e refl

  -- ids of which none is live leave all as it was
  pub free_marked : (n id : ℕ) (taken : List ℕ) → live_from (is_free rows) id n ≡ 0 → taken ≡ marked_from rows n id taken
  unfolding live_from marked_from
  free_marked zero id taken h = refl
  free_marked (suc n) id taken h = by (is_free rows id) h (free_marked n (suc id) taken)
    where
      by : (b : Bool) → cond b 0 1 + live_from (is_free rows) (suc id) n ≡ 0 → (live_from (is_free rows) (suc id) n ≡ 0 → taken ≡ marked_from rows n (suc id) taken)
          → taken ≡ marked_from rows n (suc id) (cond b taken (set taken (slot id) 1))
      by true k rest = rest (omega arith)
      by false k rest = absurd (omega arith)

  -- first m ids, then the n behind them
  pub marked_more : (m n i j k : ℕ) (taken : List ℕ) → j ≡ i + m → k ≡ m + n → marked_from rows n j (marked_from rows m i taken) ≡ marked_from rows k i taken
  unfolding marked_from
  marked_more zero n i j k taken d e =
      let d' : j ≡ i = omega arith in
      let e' : k ≡ n = omega arith in
      rw (d', e') refl
  marked_more (suc m) n i j k taken d e =
      let e' : k ≡ suc (m + n) = omega arith in
      rw e' (marked_more m n (suc i) j (m + n) (marked_at rows i taken) (omega arith) refl)

  -- a place is marked where it was, or where a session has it
  marked_one : (id k : ℕ) (taken : List ℕ) → k < length taken → get_or (marked_at rows id taken) k 0 ≡ cond (has_slot rows k id) 1 (get_or taken k 0)
  marked_one id k taken h = by (is_free rows id) (eqb (slot id) k) refl
    where
      by : (f s : Bool) → eqb (slot id) k ≡ s → get_or (cond f taken (set taken (slot id) 1)) k 0 ≡ cond (cond f false s) 1 (get_or taken k 0)
      by true s e = refl
      by false true e = let q : slot id ≡ k = eqb-true (slot id) k e in rw q (get_or-set_same taken k 1 0 h)
      by false false e = let q : slot id ≢ k = eqb-false (slot id) k e in get_or-set_other taken (slot id) k 1 0 (λ z. q (sym z))

  marked_at_lem : (n id k : ℕ) (taken : List ℕ) → k < length taken → get_or (marked_from rows n id taken) k 0 ≡ cond (taken_from (has_slot rows k) id n) 1 (get_or taken k 0)
  unfolding marked_from taken_from
  marked_at_lem zero id k taken h = refl
  marked_at_lem (suc n) id k taken h =
      marked_at_lem n (suc id) k (marked_at rows id taken) (rw (marked_length 1 id taken) h)
      ∙ ap (cond (taken_from (has_slot rows k) (suc id) n) 1) (marked_one id k taken h)
      ∙ by (has_slot rows k id) (taken_from (has_slot rows k) (suc id) n)
    where
      by : (a b : Bool) → cond b 1 (cond a 1 (get_or taken k 0)) ≡ cond (cond a true b) 1 (get_or taken k 0)
      by true true = refl
      by true false = refl
      by false true = refl
      by false false = refl

  abbrev marks : List ℕ
  marks = marked_from rows 255 1 (replicate 256 0)

  same_test : (k : ℕ) → k < 255 → unmarked marks k ≡ not (slot_taken rows k)
  unfolding slot_taken
  same_test k h =
      ap (λ (m : ℕ). eqb m 0) (marked_at_lem 255 1 k (replicate 256 0) (rw (length-replicate {A = ℕ} 256 0) (omega arith)) ∙ ap (cond (taken_from (has_slot rows k) 1 255) 1) (get_or-replicate 256 k 0 0 (omega arith)))
      ∙ by (taken_from (has_slot rows k) 1 255)
    where
      by : (b : Bool) → eqb (cond b 1 0) 0 ≡ not b
      by true = refl
      by false = refl

  -- two tests that agree find the same place
  same_first : (f g : ℕ → Bool) (n i : ℕ) → ((k : ℕ) → k < i + n → f k ≡ g k) → first_from f n i ≡ first_from g n i
  unfolding first_from
  same_first f g zero i e = refl
  same_first f g (suc n) i e = rw (e i (omega arith), same_first f g n (suc i) (λ k h. e k (omega arith))) refl

  pub found_slot : first_from (unmarked marks) 255 0 ≡ free_slot rows
  unfolding free_slot
  found_slot = same_first (unmarked marks) (λ k. not (slot_taken rows k)) 255 0 (λ k h. same_test k (omega arith))
