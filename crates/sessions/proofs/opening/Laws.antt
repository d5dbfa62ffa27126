-- One step of counting the live sessions and of looking for a free id; five ids that are free together.
use Prim.Native.Nat.{ℕ, zero, suc, ◌+◌, ◌-◌, ◌<◌, ◌≤◌}
use mathlib.Core.Path.{◌≡◌, refl, sym, ap, ◌∙◌}
use mathlib.Core.Bool.{Bool, true, false, cond, not}
use mathlib.Core.List.{List, []}
use native.Mathlib.Omega.{arith}
use borrow.Author.Tests.{ltb-false, eq-eqb, ne_eqb}
use lib.Bits.{bit_or, or_add_and, and_le_l, and_le_r}
use lib.Dec.{eqb, ltb}
use lib.ListN.{length, get_or, take, drop}
use lib.Seq.{drop-cons, length-take-le}
use Rattle.std.specs.List.{count_by, position, position_or_len}
use Rattle.std.specs.Option.{unwrap_or}
use Rattle.std.specs.Prelude.{None, Some}
use Rattle.streams.specs.Places.{first_from}
use Rattle.streams.proofs.places.Laws.{most_from}
use Rattle.std.proofs.lemmas.List.Sums.{sum_by-cons}
use Rattle.sessions.specs.Table.{session_at, is_free}
use Rattle.sessions.specs.Opening.{after, live_from, live_of, free_from, unmarked}
use Rattle.sessions.specs.declared.table.ClientSession.{ClientSession}

-- numbers that have no bit together are 0 each
or_none : (a b : ℕ) → bit_or a b ≡ 0 → (a ≡ 0) × (b ≡ 0)
or_none a b h = (omega (arith, or_add_and a b, and_le_r a b), omega (arith, or_add_and a b, and_le_l a b))

both : {a b : ℕ} → a ≡ 0 → b ≡ 0 → a + b ≡ 0
both p q = rw (p, q) refl

module _ (rows : List (List ℕ)) where
  pub live_none : (i : ℕ) → 0 ≡ live_from (is_free rows) i 0
  unfolding live_from
  live_none i = refl

  -- with one id more in front
  live_step : (i j m n : ℕ) → j ≡ suc i → m ≡ suc n → live_from (is_free rows) i m ≡ cond (is_free rows i) 0 1 + live_from (is_free rows) j n
  unfolding live_from
  live_step i j m n d e = rw (d, e) refl

  -- counted over the rows themselves
  pub live_counted : 256 ≤ length rows → count_by (λ (r : List ℕ). not (eqb (get_or r 0 0) 0)) (take 255 (drop 1 rows)) ≡ live_of rows
  unfolding live_of live_from
  live_counted h = go 255 1 h
    where
      same : (b : Bool) (m n : ℕ) → m ≡ n → cond (not b) 1 0 + m ≡ cond b 0 1 + n
      same true m n e = omega arith
      same false m n e = omega arith

      go : (n i : ℕ) → i + n ≤ length rows → count_by (λ (r : List ℕ). not (eqb (get_or r 0 0) 0)) (take n (drop i rows)) ≡ live_from (is_free rows) i n
      go zero i h = refl
      go (suc n) i h = rw (drop-cons rows i [] (omega arith), sum_by-cons (λ (r : List ℕ). cond (not (eqb (get_or r 0 0) 0)) 1 0) (get_or rows i []) (take n (drop (suc i) rows))) (same (is_free rows i) _ _ (go n (suc i) (omega arith)))

  free_counts : (i : ℕ) (s : ClientSession) → s ≡ session_at rows i → s.live ≡ 0 → ◌≡◌ {A = ℕ} (cond (is_free rows i) 0 1) 0
  free_counts i s e h = rw (eq-eqb (session_at rows i).live 0 (sym (ap (λ (t : ClientSession). t.live) e) ∙ h)) refl

  -- five ids whose marks are 0 together
  pub marks_none : (i : ℕ) (a b c d e : ClientSession)
      → a ≡ session_at rows i → b ≡ session_at rows (i + 1) → c ≡ session_at rows (i + 2) → d ≡ session_at rows (i + 3) → e ≡ session_at rows (i + 4)
      → bit_or (bit_or (bit_or (bit_or a.live b.live) c.live) d.live) e.live ≡ 0 → live_from (is_free rows) i 5 ≡ 0
  marks_none i a b c d e p q r s t h =
      let abcd = or_none (bit_or (bit_or (bit_or a.live b.live) c.live) d.live) e.live h in
      let abc = or_none (bit_or (bit_or a.live b.live) c.live) d.live abcd.0 in
      let ab = or_none (bit_or a.live b.live) c.live abc.0 in
      let a-b = or_none a.live b.live ab.0 in
      live_step i (i + 1) 5 4 (omega arith) refl
      ∙ both (free_counts i a p a-b.0) (live_step (i + 1) (i + 2) 4 3 (omega arith) refl
      ∙ both (free_counts (i + 1) b q a-b.1) (live_step (i + 2) (i + 3) 3 2 (omega arith) refl
      ∙ both (free_counts (i + 2) c r ab.1) (live_step (i + 3) (i + 4) 2 1 (omega arith) refl
      ∙ both (free_counts (i + 3) d s abc.1) (live_step (i + 4) (i + 5) 1 0 (omega arith) refl
      ∙ both (free_counts (i + 4) e t abcd.1) (sym (live_none (i + 5)))))))

  free_next : (id left : ℕ) → 0 < left → free_from (is_free rows) id left ≡ cond (is_free rows id) id (free_from (is_free rows) (after id) (left - 1))
  unfolding free_from
  free_next id left h = go left (left - 1) (omega arith)
    where
      go : (m n : ℕ) → m ≡ suc n → free_from (is_free rows) id m ≡ cond (is_free rows id) id (free_from (is_free rows) (after id) n)
      go m n e = rw e refl

  module _ (id left : ℕ) (s : ClientSession) (some_left : 0 < left) (e : s ≡ session_at rows id) where
    pub free_hit : s.live ≡ 0 → id ≡ free_from (is_free rows) id left
    free_hit h = sym (free_next id left some_left ∙ rw (eq-eqb (session_at rows id).live 0 (sym (ap (λ (t : ClientSession). t.live) e) ∙ h)))

    pub free_miss : (s.live ≡ 0 → ⊥) → free_from (is_free rows) (after id) (left - 1) ≡ free_from (is_free rows) id left
    free_miss h = sym (free_next id left some_left ∙ rw (ne_eqb (session_at rows id).live 0 (λ z. h (ap (λ (t : ClientSession). t.live) e ∙ z))))

  pub free_none : (id left : ℕ) → left ≡ 0 → 0 ≡ free_from (is_free rows) id left
  unfolding free_from
  free_none id left e = rw e refl

-- the first mark of n that is 0 is the first of them one by one
pub unmarked_listed : (taken : List ℕ) (n : ℕ) → n ≤ length taken → unwrap_or (position (λ (mark : ℕ). eqb mark 0) (take n taken)) n ≡ first_from (unmarked taken) n 0
unfolding first_from
unmarked_listed taken n h = by (ltb place (length (take n taken))) refl
  where
    place : ℕ
    place = position_or_len (λ (mark : ℕ). eqb mark 0) (take n taken)

    step : (b : Bool) (m i k : ℕ) → suc i + m ≡ k → i + cond (not b) (1 + m) 0 ≡ cond b i k
    step true m i k e = omega arith
    step false m i k e = omega arith

    go : (k i : ℕ) → i + k ≤ length taken → i + position_or_len (λ (mark : ℕ). eqb mark 0) (take k (drop i taken)) ≡ first_from (unmarked taken) k i
    go zero i l = omega arith
    go (suc k) i l = rw (drop-cons taken i 0 (omega arith)) (step (unmarked taken i) _ i _ (go k (suc i) (omega arith)))

    found : place ≡ first_from (unmarked taken) n 0
    found = let e = go n 0 (omega arith) in omega arith

    by : (b : Bool) → ltb place (length (take n taken)) ≡ b → unwrap_or (cond b (Some place) None) n ≡ first_from (unmarked taken) n 0
    by true e = found
    by false e =
        let few = most_from (unmarked taken) n 0 in
        let all = length-take-le n taken h in
        let past : length (take n taken) ≤ place = ltb-false place (length (take n taken)) e in
        omega (arith, found)
