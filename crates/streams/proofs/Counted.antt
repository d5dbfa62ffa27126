-- No place is free exactly where sixteen numbers are held: every place that isn't free holds a number of its own.
use Rattle.std.proofs.Common.{◌≡◌, ℕ, zero, suc, ◌+◌, ◌<◌, ◌≤◌, Bool, true, false, cond, not, eqb, ltb, leb, get_or, sym, refl, ap, ◌∙◌, ⊎_elim, eq-or-lt_of_le, arith, ltb-true, lt-ltb, eq-eqb, ne_eqb, leb-false, leb-true}
use borrow.Author.Tests.{not-true, not-false, lt-leb}
use Rattle.streams.specs.declared.state.StreamState.{StreamState}
use Rattle.streams.specs.Places.{count_from, first_from, first_place, holds, within, holds_at, length_at, place_of, place_between, is_held, is_full}
use Rattle.streams.specs.Oldest.{SixteenBits}
use Rattle.streams.specs.View.{held_by, present, all_numbers, many_held, Sound}
use Rattle.streams.proofs.places.Laws.{never, found_from, least_from, first_found, first_before}
use Rattle.streams.proofs.places.Held.{holds_free, within_zero, held_anywhere, read_present}

-- ---- how many numbers pass a test

pub count_agree : (t u : ℕ → Bool) (k i : ℕ) → ((j : ℕ) → i ≤ j → j < i + k → t j ≡ u j) → count_from t k i ≡ count_from u k i
unfolding count_from
count_agree t u zero i f = refl
count_agree t u (suc k) i f =
    rw (f i (omega arith) (omega arith), count_agree t u k (suc i) (λ j h l. f j (omega arith) (omega arith)))

module _ (t : ℕ → Bool) where
  count_none : (k i : ℕ) → ((j : ℕ) → t j ≡ false) → count_from t k i ≡ 0
  unfolding count_from
  count_none zero i f = refl
  count_none (suc k) i f = rw (f i) (count_none k (suc i) f)

  count_all : (k i : ℕ) → ((j : ℕ) → i ≤ j → j < i + k → t j ≡ true) → count_from t k i ≡ k
  unfolding count_from
  count_all zero i f = refl
  count_all (suc k) i f = rw (f i (omega arith) (omega arith)) (ap suc (count_all k (suc i) (λ j h l. f j (omega arith) (omega arith))))

  count_most : (k i : ℕ) → count_from t k i ≤ k
  unfolding count_from
  count_most zero i = omega arith
  count_most (suc k) i = by (t i) (count_most k (suc i))
    where
      by : (b : Bool) → count_from t k (suc i) ≤ k → cond b (suc (count_from t k (suc i))) (count_from t k (suc i)) ≤ suc k
      by true h = omega arith
      by false h = omega arith

  -- a test that fails somewhere
  count_less : (k i j : ℕ) → i ≤ j → j < i + k → t j ≡ false → count_from t k i < k
  unfolding count_from
  count_less zero i j h l e = absurd (omega arith)
  count_less (suc k) i j h l e =
      ⊎_elim
      (λ same. let here : t i ≡ false = ap t same ∙ e in rw here (omega (arith, count_most k (suc i))))
      (λ less. by (t i) (count_less k (suc i) j less (omega arith) e))
      (eq-or-lt_of_le h)
    where
      by : (b : Bool) → count_from t k (suc i) < k → cond b (suc (count_from t k (suc i))) (count_from t k (suc i)) < suc k
      by true x = omega arith
      by false x = omega arith

-- a test that one number more passes
module _ (t : ℕ → Bool) (m : ℕ) (new : t m ≡ false) where
  or_it : ℕ → Bool
  or_it n = cond (eqb m n) true (t n)

  behind_it : (k i : ℕ) → m < i → count_from or_it k i ≡ count_from t k i
  unfolding or_it
  behind_it k i h = count_agree or_it t k i (λ j l x. rw (ne_eqb m j (omega arith)))

  one_more : (k i : ℕ) → i ≤ m → m < i + k → count_from or_it k i ≡ suc (count_from t k i)
  unfolding count_from or_it
  one_more zero i h l = absurd (omega arith)
  one_more (suc k) i h l =
      ⊎_elim
      (λ same. rw (eq-eqb m i (sym same), ap t same ∙ new) (ap suc (behind_it k (suc i) (omega arith))))
      (λ less. rw (ne_eqb m i (omega arith), one_more k (suc i) less (omega arith)) (by (t i)))
      (eq-or-lt_of_le h)
    where
      n : ℕ
      n = count_from t k (suc i)

      by : (b : Bool) → cond b (suc (suc n)) (suc n) ≡ suc (cond b (suc n) n)
      by true = refl
      by false = refl

-- ---- whether one of k places from i on passes a test

any_from : (ℕ → Bool) → ℕ → ℕ → Bool
any_from t k i = ltb (first_from t k i) (i + k)

module _ (t : ℕ → Bool) (k i : ℕ) where
  any_here : any_from t (suc k) i ≡ cond (t i) true (any_from t k (suc i))
  unfolding any_from first_from
  any_here = by (t i)
    where
      by : (b : Bool) → ltb (cond b i (first_from t k (suc i))) (i + suc k) ≡ cond b true (ltb (first_from t k (suc i)) (suc i + k))
      by true = lt-ltb i (i + suc k) (omega arith)
      by false = let e : i + suc k ≡ suc i + k = omega arith in ap (ltb (first_from t k (suc i))) e

  any_none : ((j : ℕ) → i ≤ j → j < i + k → t j ≡ false) → any_from t k i ≡ false
  unfolding any_from
  any_none f = by (ltb (first_from t k i) (i + k)) refl
    where
      by : (b : Bool) → ltb (first_from t k i) (i + k) ≡ b → b ≡ false
      by true e =
          let l = ltb-true (first_from t k i) (i + k) e in
          absurd (never (found_from t k i l) (f (first_from t k i) (least_from t k i) l))
      by false e = refl

-- ---- sixteen places

module _ (s : StreamState) where
  used : ℕ → Bool
  used i = not (length_at s 0 0 i)

  -- a free place holds nothing, and any other its number alone
  free_holds : (n i : ℕ) → used i ≡ false → holds_at s n i ≡ false
  unfolding used length_at holds_at
  free_holds n i e = holds_free (get_or s.numbers i 0) (get_or s.lengths i 0) n (within_zero (get_or s.lengths i 0) (not-false (within (get_or s.lengths i 0) 0 0) e))

  used_holds : (n i : ℕ) → used i ≡ true → holds_at s n i ≡ eqb (get_or s.numbers i 0) n
  unfolding used length_at holds_at within holds
  used_holds n i e = rw (ne_eqb (get_or s.lengths i 0) 0 (λ z. never (ap (λ (len : ℕ). within len 0 0) z) (not-true (within (get_or s.lengths i 0) 0 0) e)))

  module _ (d : Sound s) (bits : SixteenBits s) where
    -- the number of a used place is held there and nowhere behind it, and is one of the 65,536
    there : (i : ℕ) → used i ≡ true → holds_at s (get_or s.numbers i 0) i ≡ true
    there i e = used_holds (get_or s.numbers i 0) i e ∙ eq-eqb (get_or s.numbers i 0) (get_or s.numbers i 0) refl

    nowhere_else : (k i : ℕ) → suc i + k ≤ 16 → used i ≡ true → any_from (holds_at s (get_or s.numbers i 0)) k (suc i) ≡ false
    nowhere_else k i h e = any_none (holds_at s m) k (suc i) (λ j l x. by j l x (holds_at s m j) refl)
      where
        m : ℕ
        m = get_or s.numbers i 0

        by : (j : ℕ) → suc i ≤ j → j < suc i + k → (b : Bool) → holds_at s m j ≡ b → b ≡ false
        by j l x true y = absurd (let same = d.once m i j (omega arith) (omega arith) (there i e) y in omega arith)
        by j l x false y = refl

    low : (i : ℕ) → i < 16 → used i ≡ true → get_or s.numbers i 0 < all_numbers
    unfolding all_numbers
    low i h e = bits.held (get_or s.numbers i 0) (held_anywhere s (get_or s.numbers i 0) i h (there i e))

    -- as many of k places from i on are used as numbers are held there
    count_places : (k i : ℕ) → i + k ≤ 16 → count_from (λ n. any_from (holds_at s n) k i) all_numbers 0 ≡ count_from used k i
    unfolding count_from or_it
    count_places zero i h = count_none (λ n. any_from (holds_at s n) 0 i) all_numbers 0 (λ n. any_none (holds_at s n) 0 i (λ j l x. absurd (omega arith)))
    count_places (suc k) i h = by (used i) refl (count_places k (suc i) (omega arith))
      where
        m : ℕ
        m = get_or s.numbers i 0

        here : ℕ → Bool
        here n = any_from (holds_at s n) (suc k) i

        rest : ℕ → Bool
        rest n = any_from (holds_at s n) k (suc i)

        by : (b : Bool) → used i ≡ b → count_from rest all_numbers 0 ≡ count_from used k (suc i)
            → count_from here all_numbers 0 ≡ cond b (suc (count_from used k (suc i))) (count_from used k (suc i))
        by true e r =
            let new = nowhere_else k i (omega arith) e in
            count_agree here (or_it rest m new) all_numbers 0 (λ n l x. any_here (holds_at s n) k i ∙ rw (used_holds n i e))
            ∙ one_more rest m new all_numbers 0 (omega arith) (omega (arith, low i (omega arith) e))
            ∙ ap suc r
        by false e r = count_agree here rest all_numbers 0 (λ n l x. any_here (holds_at s n) k i ∙ rw (free_holds n i e)) ∙ r

    -- document 02, W5: "With 16 held", whatever is read of a message
    pub full_held : {A : Type 0} → (read : ℕ → ℕ → A) → is_full s ≡ leb 16 (many_held (held_by read s))
    unfolding many_held any_from is_held place_of first_place is_full place_between used
    full_held read = sym (many_used (is_full s) refl) ∙ ap (leb 16) (sym (count_places 16 0 (omega arith)) ∙ sym seen)
      where
        seen : count_from (λ n. present (held_by read s n)) all_numbers 0 ≡ count_from (λ n. any_from (holds_at s n) 16 0) all_numbers 0
        seen = count_agree (λ n. present (held_by read s n)) (λ n. any_from (holds_at s n) 16 0) all_numbers 0 (λ n l x. read_present s n read)

        many_used : (b : Bool) → is_full s ≡ b → leb 16 (count_from used 16 0) ≡ b
        many_used true e =
            let all = leb-true 16 (first_place (length_at s 0 0)) e in
            rw (count_all used 16 0 (λ j l x. rw (first_before (length_at s 0 0) j (omega arith))))
        many_used false e =
            let p = first_place (length_at s 0 0) in
            let l : p < 16 = leb-false 16 p e in
            lt-leb 16 (count_from used 16 0) (count_less used 16 0 p (omega arith) l (rw (first_found (length_at s 0 0) l)))
