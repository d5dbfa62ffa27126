-- The streams in rows, each with the buffer of its place: how many there are, each of them, one more, and one that is written over.
use Prim.Native.Nat.{ℕ, zero, suc, ◌+◌, ◌<◌, ◌≤◌}
use mathlib.Core.Path.{◌≡◌, refl, sym, ap, ◌∙◌}
use mathlib.Core.Logic.{◌≢◌}
use mathlib.Core.List.{List, [], ◌∷◌, ◌++◌}
use native.Mathlib.Omega.{arith}
use lib.ListN.{length, get_or, set}
use Rattle.sessions.specs.Held.{buffer_at}
use Rattle.sessions.specs.View.{KeptStream, stream_shown, shown_from, stream_numbers}

module _ (held : List ℕ) where
  pub shown_length : (k : ℕ) (ws : List (List ℕ)) → length (shown_from held k ws) ≡ length ws
  unfolding shown_from
  shown_length k [] = refl
  shown_length k (w ∷ ws) = ap suc (shown_length (suc k) ws)

  at_from : (k : ℕ) (ws : List (List ℕ)) (i : ℕ) (d : KeptStream) → i < length ws → get_or (shown_from held k ws) i d ≡ stream_shown (buffer_at held (k + i)) (get_or ws i [])
  unfolding shown_from
  at_from k [] i d h = let z : ⊥ = omega arith in absurd z
  at_from k (w ∷ ws) zero d h = let e : k ≡ k + 0 = omega arith in ap (λ (m : ℕ). stream_shown (buffer_at held m) w) e
  at_from k (w ∷ ws) (suc i) d h =
      let e : suc k + i ≡ k + suc i = omega arith in
      at_from (suc k) ws i d (omega arith) ∙ ap (λ (m : ℕ). stream_shown (buffer_at held m) (get_or ws i [])) e

  append_from : (k : ℕ) (ws : List (List ℕ)) (w : List ℕ) → shown_from held k (ws ++ (w ∷ [])) ≡ shown_from held k ws ++ (stream_shown (buffer_at held (k + length ws)) w ∷ [])
  unfolding shown_from
  append_from k [] w = let e : k ≡ k + 0 = omega arith in ap (λ (m : ℕ). stream_shown (buffer_at held m) w ∷ []) e
  append_from k (x ∷ ws) w =
      let e : suc k + length ws ≡ k + suc (length ws) = omega arith in
      ap (λ (ks : List KeptStream). stream_shown (buffer_at held k) x ∷ ks)
      (append_from (suc k) ws w ∙ ap (λ (m : ℕ). shown_from held (suc k) ws ++ (stream_shown (buffer_at held m) w ∷ [])) e)

  -- from the first place on

  from_zero : (i : ℕ) → 0 + i ≡ i
  from_zero i = omega arith

  pub shown_at_lem : (ws : List (List ℕ)) (i : ℕ) (d : KeptStream) → i < length ws → get_or (shown_from held 0 ws) i d ≡ stream_shown (buffer_at held i) (get_or ws i [])
  shown_at_lem ws i d h = at_from 0 ws i d h ∙ ap (λ (m : ℕ). stream_shown (buffer_at held m) (get_or ws i [])) (from_zero i)

  pub shown_append : (ws : List (List ℕ)) (w : List ℕ) → shown_from held 0 (ws ++ (w ∷ [])) ≡ shown_from held 0 ws ++ (stream_shown (buffer_at held (length ws)) w ∷ [])
  shown_append ws w = append_from 0 ws w ∙ ap (λ (m : ℕ). shown_from held 0 ws ++ (stream_shown (buffer_at held m) w ∷ [])) (from_zero (length ws))

-- in another part of the store: the streams are shown alike where their buffers are, and their numbers whatever the buffers
module _ (held other : List ℕ) where
  same_from : (k : ℕ) (ws : List (List ℕ)) → ((j : ℕ) → k ≤ j → j < k + length ws → buffer_at other j ≡ buffer_at held j) → shown_from other k ws ≡ shown_from held k ws
  unfolding shown_from
  same_from k [] f = refl
  same_from k (w ∷ ws) f =
      ap (λ (b : List ℕ). stream_shown b w ∷ shown_from other (suc k) ws) (f k (omega arith) (omega arith))
      ∙ ap (λ (ks : List KeptStream). stream_shown (buffer_at held k) w ∷ ks) (same_from (suc k) ws (λ j h l. f j (omega arith) (omega arith)))

  -- one that is written over, with a new buffer or its old one
  set_from : (k : ℕ) (ws : List (List ℕ)) (i : ℕ) (w : List ℕ) → ((j : ℕ) → k ≤ j → j < k + length ws → j ≢ k + i → buffer_at other j ≡ buffer_at held j)
      → shown_from other k (set ws i w) ≡ set (shown_from held k ws) i (stream_shown (buffer_at other (k + i)) w)
  unfolding shown_from
  set_from k [] i w f = refl
  set_from k (x ∷ ws) zero w f =
      let e : k ≡ k + 0 = omega arith in
      ap (λ (m : ℕ). stream_shown (buffer_at other m) w ∷ shown_from other (suc k) ws) e
      ∙ ap (λ (ks : List KeptStream). stream_shown (buffer_at other (k + 0)) w ∷ ks) (same_from (suc k) ws (λ j h l. f j (omega arith) (omega arith) (λ q. omega arith)))
  set_from k (x ∷ ws) (suc i) w f =
      let e : suc k + i ≡ k + suc i = omega arith in
      ap (λ (b : List ℕ). stream_shown b x ∷ shown_from other (suc k) (set ws i w)) (f k (omega arith) (omega arith) (λ q. omega arith))
      ∙ ap (λ (ks : List KeptStream). stream_shown (buffer_at held k) x ∷ ks)
      (set_from (suc k) ws i w (λ j h l n. f j (omega arith) (omega arith) (λ q. n (q ∙ sym e)))
      ∙ ap (λ (m : ℕ). set (shown_from held (suc k) ws) i (stream_shown (buffer_at other m) w)) e)

  pub shown_set : (ws : List (List ℕ)) (i : ℕ) (w : List ℕ) → ((j : ℕ) → j < length ws → j ≢ i → buffer_at other j ≡ buffer_at held j)
      → shown_from other 0 (set ws i w) ≡ set (shown_from held 0 ws) i (stream_shown (buffer_at other i) w)
  shown_set ws i w f =
      let e = from_zero held i in
      set_from 0 ws i w (λ j h l n. f j (omega arith) (λ q. n (q ∙ sym e))) ∙ ap (λ (m : ℕ). set (shown_from held 0 ws) i (stream_shown (buffer_at other m) w)) e

  pub shown_numbers : (k : ℕ) (ws : List (List ℕ)) → stream_numbers (shown_from held k ws) ≡ stream_numbers (shown_from other k ws)
  unfolding shown_from
  shown_numbers k [] = refl
  shown_numbers k (w ∷ ws) = ap (λ (ns : List ℕ). (stream_shown [] w).number ∷ ns) (shown_numbers (suc k) ws)
