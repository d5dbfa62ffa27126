-- Laws of what an ACKNACK drops and lists, and of the first number of a HEARTBEAT: what a loop does turn by turn.
use Rattle.std.proofs.Common.{◌≡◌, ℕ, zero, suc, add-zero, drop-cons, ◌+◌, ◌-◌, ◌<◌, ◌≤◌, true, false, List, [], ◌∷◌, ◌++◌, length, get_or, take, drop, set, replicate, sym, refl, ap, ◌∙◌, append_assoc, append-nil, add-one, arith, length-set, take-append-drop, length-take-le, drop-drop, take-suc-set, drop-set-lt}
use Rattle.std.specs.Array.{IsFromFnResult, IsFromFnResultFrom}
use Rattle.std.specs.Fn.{Called}
use Rattle.std.specs.Iterator.{Drains}
use Rattle.std.specs.List.{FoldsTo, zip, fold}
use Rattle.std.specs.Prelude.{Option}
use Rattle.std.proofs.lemmas.Fn.{fold_over}
use Rattle.std.proofs.lemmas.Iterator.{YieldsList}
use Rattle.std.proofs.lemmas.List.Sums.{fold-append}
use Rattle.std.proofs.lemmas.Slice.Zip.{length-zip, get_or-zip}
use lib.ListN.{drop_of_length-le}
use denote.Param.Members.{Mut}
use Rattle.streams.specs.declared.state.StreamState.{StreamState}
use Rattle.streams.specs.Sequence.{plus, minus}
use Rattle.streams.specs.Acknowledged.{list_from, sixteen, wanted, repeats_from, repeats, padded, further, furthest_from, first_unacked}
use Rattle.streams.proofs.places.Laws.{left_suc}

-- sixteen values of a function, made one by one
module _ {F : Type 0} (g : Mut F (ℕ × Unit {0}) ℕ) (p : F) (f : ℕ → ℕ) (same : (i y : ℕ) (q : F) → Called g p (i, tt) y q → (q ≡ p) × (y ≡ f i)) where
  made_from : (ys : List ℕ) (i n : ℕ) → length ys ≡ i + n → (q : F) → q ≡ p → IsFromFnResultFrom g q ys i n → drop i ys ≡ list_from f n i
  unfolding list_from
  made_from ys i zero e q s m = drop_of_length-le ys {i = i} (omega arith)
  made_from ys i (suc n) e q s (r, y, at, k, m) =
      let made = same i y r (rw s at k) in
      rw (drop-cons ys i 0 (omega arith), at.1 0, made.1) (ap (λ (l : List ℕ). f i ∷ l) (rw (add-one i) at (made_from ys (i + 1) n (omega arith) r made.0 m)))

  pub sixteen_made : (ys : List ℕ) → IsFromFnResult g p ys 16 → ys ≡ sixteen f
  unfolding sixteen
  sixteen_made ys m = made_from ys 0 16 (omega (arith, m.long)) p refl m.each

-- one 0 less stands behind one number more
zeros : (xs : List ℕ) (count : ℕ) → count < 16 → drop count xs ≡ replicate (16 - count) 0 → drop (suc count) xs ≡ replicate (16 - suc count) 0
zeros xs count h e = (rw (add-one count) at (sym (drop-drop 1 count xs))) ∙ rw (e, left_suc count h, add-one count)

-- the numbers of the bits below `bit` are listed, and 0 stands behind them
module _ (s : StreamState) (first bitmap : ℕ) where
  unfoldable pub Listed : List ℕ → ℕ → ℕ → Type 0
  Listed xs count bit =
      (bit ≤ 16) × (count ≤ bit) × (length xs ≡ 16) × (take count xs ++ repeats_from s first bitmap (16 - bit) bit ≡ repeats s first bitmap) × (drop count xs ≡ replicate (16 - count) 0)

  pub listed_start : Listed (replicate 16 0) 0 0
  unfolding Listed repeats
  listed_start = (omega arith, omega arith, refl, refl, refl)

  module _ (xs : List ℕ) (count bit : ℕ) (l : Listed xs count bit) where
    pub listed_room : bit < 16 → count < 16
    unfolding Listed
    listed_room h = omega (arith, l.1)

    pub listed_skip : bit < 16 → wanted s first bitmap bit ≡ false → Listed xs count (bit + 1)
    unfolding Listed repeats_from
    listed_skip h e = rw (add-one bit) (h, omega (arith, l.1), l.2, (rw (left_suc bit h, e, add-one bit) at l.3), l.4)

    pub listed_put : bit < 16 → wanted s first bitmap bit ≡ true → Listed (set xs count (plus first bit)) (count + 1) (bit + 1)
    unfolding Listed repeats_from
    listed_put h e = rw (add-one bit, add-one count) (
      h,
      omega (arith, l.1),
      length-set xs count (plus first bit) ∙ l.2,
      rw (take-suc-set xs count (plus first bit) (omega (arith, l.1, l.2)), append_assoc (take count xs) (plus first bit ∷ []) (repeats_from s first bitmap (16 - suc bit) (suc bit)))
          (rw (left_suc bit h, e, add-one bit) at l.3),
      drop-set-lt (suc count) xs count (plus first bit) (omega arith) ∙ zeros xs count (omega (arith, l.1)) l.4,
    )

    pub listed_end : 16 ≤ bit → (xs ≡ padded (repeats s first bitmap)) × (count ≡ length (repeats s first bitmap))
    unfolding Listed repeats_from padded
    listed_end h =
        let e : bit ≡ 16 = omega (arith, l.0) in
        let t : take count xs ≡ repeats s first bitmap = sym (append-nil (take count xs)) ∙ (rw e at l.3) in
        let k : count ≡ length (repeats s first bitmap) = sym (length-take-le count xs (omega (arith, l.1, l.2))) ∙ ap length t in
        (rw (← k, ← t, ← l.4) (sym (take-append-drop count xs)), k)

-- what `fold` gives where the closure acts as a function
pub fold_acts : {S A B F C : Type 0} {steps : S → Option A → S → Type 0} {v : A → B} {g : Mut F (C × (A × Unit {0})) C} {s : S} {all : List B} {f : F} {a r : C} (h : C → B → C)
    → (xs : List A) × (q : F) × Drains steps s xs × FoldsTo {P = F × C} (λ p x q. Called g p.0 (p.1, (x, tt)) q.1 q.0) (f, a) xs (q, r)
    → YieldsList steps v s all → ((b : C) (x : A) (d : C) (q : F) → Called g f (b, (x, tt)) d q → (q ≡ f) × (d ≡ h b (v x))) → r ≡ fold h a all
fold_acts {S} {A} {B} {F} {C} {steps} {v} {g} {s} {all} {f} {a} {r} h ran chain same =
    fold_over steps v g (λ ys b. b ≡ fold h a ys) f
    (λ ys b x d q e k. let m = same b x d q k in (m.1 ∙ rw (e, fold-append h a ys (v x ∷ [])) refl, m.0))
    s all a r chain.runs refl ran

-- the greatest distance of the places, as a fold over the pairs of their numbers and lengths
module _ (s : StreamState) where
  furthest_list : (xs : List (ℕ × ℕ)) (best i : ℕ) → ((j : ℕ) → j < length xs → get_or xs j (0, 0) ≡ (get_or s.numbers (i + j) 0, get_or s.lengths (i + j) 0)) → fold (λ b p. further s.next_send_seq b p.0 p.1) best xs ≡ furthest_from s best (length xs) i
  unfolding furthest_from
  furthest_list [] best i f = refl
  furthest_list (x ∷ xs) best i f =
      let here : x ≡ (get_or s.numbers i 0, get_or s.lengths i 0) = (rw (add-zero i) at (f 0 (omega arith))) in
      rw here (furthest_list xs _ (suc i) (λ j h. let e : suc i + j ≡ i + suc j = omega arith in rw e (f (suc j) (omega arith))))

  pub furthest_of : length s.numbers ≡ 16 → length s.lengths ≡ 16 → minus s.next_send_seq (fold (λ b p. further s.next_send_seq b p.0 p.1) 0 (zip s.numbers s.lengths)) ≡ first_unacked s
  unfolding first_unacked
  furthest_of h k =
      let pairs : List (ℕ × ℕ) = zip s.numbers s.lengths in
      let long : length pairs ≡ 16 = omega (arith, length-zip s.numbers s.lengths) in
      let all = furthest_list pairs 0 0 (λ j l. let e : 0 + j ≡ j = omega arith in rw e (get_or-zip s.numbers s.lengths j (0, 0) (omega arith) (omega arith))) in
      rw (all, long) refl
