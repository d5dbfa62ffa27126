-- Records that are copied and put back: a store that differs from another only at the spots that were copied becomes that one. And bytes that are
-- copied to the start of a line and taken again.
use Prim.Native.Nat.{ℕ, zero, suc, ◌+◌, ◌-◌, ◌*◌, ◌<◌, ◌≤◌}
use mathlib.Core.Path.{◌≡◌, refl, sym, ap, ◌∙◌}
use mathlib.Core.Bool.{Bool, true, false, cond}
use mathlib.Core.List.{List, [], ◌∷◌}
use native.Mathlib.Omega.{arith}
use borrow.Author.Tests.{eqb-true, eqb-false, ltb-true, ltb-false, lt-ltb, le-ltb}
use lib.Dec.{eqb, ltb}
use lib.ListN.{length, set, get_or, replicate, length-set, length-replicate}
use lib.Seq.{get_or-set_same, get_or-set_other, take-append_seam}
use Rattle.std.proofs.Common.{take, drop, ◌++◌, append_assoc, length-drop}
use Rattle.std.proofs.lemmas.List.{drop-drop, get_or-drop, get_or-take, length-take, length-take-le, take-append-drop}
use Rattle.codec.specs.Bytes.{put_at, put_bytes}
use Rattle.codec.proofs.bytes.Laws.{put_fits, put_short, length_put}
use Rattle.streams.proofs.Slots.{read_same}
use Rattle.sessions.specs.Sending.{buffer_in}
use Rattle.sessions.specs.declared.sending.Stretch.{Stretch}
use Rattle.agent.specs.Dry.{stream_spot, object_spot, copied, restored, kept_in, back_in}

-- ---- which row of the streams is copied

pub spot_first : (id k : ℕ) → k < 256 → 8 * k ≡ stream_spot id k
spot_first id k h = rw (lt-ltb k 256 h)

pub spot_own : (id k : ℕ) → 256 ≤ k → 8 * id + (k - 256) ≡ stream_spot id k
spot_own id k h = rw (le-ltb k 256 h)

-- ---- one record more

module _ {A B : Type 0} (copy : A → B) (none : A) (spot : ℕ → ℕ) (from : List A) (to : List B) where
  pub copied_none : to ≡ copied copy none spot 0 from to
  unfolding copied
  copied_none = refl

  pub copied_more : (k : ℕ) → set (copied copy none spot k from to) k (copy (get_or from (spot k) none)) ≡ copied copy none spot (k + 1) from to
  unfolding copied
  copied_more k = let e : suc k ≡ k + 1 = omega arith in ap (λ (m : ℕ). copied copy none spot m from to) e

  pub copied_length : (n : ℕ) → length (copied copy none spot n from to) ≡ length to
  unfolding copied
  copied_length zero = refl
  copied_length (suc k) = length-set (copied copy none spot k from to) k (copy (get_or from (spot k) none)) ∙ copied_length k

  pub copied_at : (n k : ℕ) (past : B) → n ≤ length to → k < n → get_or (copied copy none spot n from to) k past ≡ copy (get_or from (spot k) none)
  unfolding copied
  copied_at zero k past h l = let z : ⊥ = omega arith in absurd z
  copied_at (suc m) k past h l = go (λ g. copied_at m k past (omega (arith, h)) g) (eqb k m) refl
    where
      x : B
      x = copy (get_or from (spot m) none)

      go : (k < m → get_or (copied copy none spot m from to) k past ≡ copy (get_or from (spot k) none)) → (b : Bool) → eqb k m ≡ b → get_or (set (copied copy none spot m from to) m x) k past ≡ copy (get_or from (spot k) none)
      go before true e =
          let q = eqb-true k m e in
          let long = copied_length m in
          ap (λ (j : ℕ). get_or (set (copied copy none spot m from to) m x) j past) q ∙ (get_or-set_same (copied copy none spot m from to) m x past (omega (arith, long, h)) ∙ ap (λ (j : ℕ). copy (get_or from (spot j) none)) (sym q))
      go before false e =
          let q = eqb-false k m e in
          get_or-set_other (copied copy none spot m from to) m k x past q ∙ before (omega (arith, q, l))

module _ {A B : Type 0} (back : B → A) (none : B) (spot : ℕ → ℕ) (from : List B) (to : List A) where
  pub restored_none : to ≡ restored back none spot 0 from to
  unfolding restored
  restored_none = refl

  pub restored_more : (k : ℕ) → set (restored back none spot k from to) (spot k) (back (get_or from k none)) ≡ restored back none spot (k + 1) from to
  unfolding restored
  restored_more k = let e : suc k ≡ k + 1 = omega arith in ap (λ (m : ℕ). restored back none spot m from to) e

  pub restored_length : (n : ℕ) → length (restored back none spot n from to) ≡ length to
  unfolding restored
  restored_length zero = refl
  restored_length (suc k) = length-set (restored back none spot k from to) (spot k) (back (get_or from k none)) ∙ restored_length k

-- ---- which places are spots

unfoldable pub is_spot : (ℕ → ℕ) → ℕ → ℕ → Bool
is_spot spot zero p = false
is_spot spot (suc k) p = cond (eqb (spot k) p) true (is_spot spot k p)

cond_right : (b : Bool) → cond b true true ≡ true
cond_right true = refl
cond_right false = refl

same_eqb : (n : ℕ) → eqb n n ≡ true
same_eqb n = go (eqb n n) refl
  where
    go : (b : Bool) → eqb n n ≡ b → b ≡ true
    go true e = refl
    go false e = absurd (eqb-false n n e refl)

module _ (spot : ℕ → ℕ) where
  pub is_spot_lem : (n k : ℕ) → k < n → is_spot spot n (spot k) ≡ true
  unfolding is_spot
  is_spot_lem zero k l = let z : ⊥ = omega arith in absurd z
  is_spot_lem (suc m) k l = go (λ g. is_spot_lem m k g) (eqb k m) refl
    where
      go : (k < m → is_spot spot m (spot k) ≡ true) → (b : Bool) → eqb k m ≡ b → cond (eqb (spot m) (spot k)) true (is_spot spot m (spot k)) ≡ true
      go before true e =
          let q = eqb-true k m e in
          ap (λ (j : ℕ). cond (eqb (spot m) (spot j)) true (is_spot spot m (spot j))) q ∙ ap (λ (b : Bool). cond b true (is_spot spot m (spot m))) (same_eqb (spot m))
      go before false e =
          let q = eqb-false k m e in
          ap (λ (b : Bool). cond (eqb (spot m) (spot k)) true b) (before (omega (arith, q, l))) ∙ cond_right (eqb (spot m) (spot k))

-- ---- a store that differs only at spots

pub record KeptBut {A : Type 0} (none : A) (spot : ℕ → ℕ) (n : ℕ) (from to : List A) : Type 0 where
  pub long : length to ≡ length from
  pub elsewhere : (p : ℕ) → is_spot spot n p ≡ false → get_or to p none ≡ get_or from p none

module _ {A : Type 0} (none : A) (spot : ℕ → ℕ) (n : ℕ) where
  pub kept_same : (xs : List A) → KeptBut none spot n xs xs
  kept_same xs = record { long = refl; elsewhere = λ p e. refl }

  pub kept_then : (xs ys zs : List A) → KeptBut none spot n xs ys → KeptBut none spot n ys zs → KeptBut none spot n xs zs
  kept_then xs ys zs k l = record { long = l.long ∙ k.long; elsewhere = λ p e. l.elsewhere p e ∙ k.elsewhere p e }

  true_not : (b : Bool) → b ≡ true → b ≡ false → ⊥
  true_not b s t = let z : ◌≡◌ {A = ℕ} 0 1 = cc in omega arith

  pub kept_set : (xs : List A) (k : ℕ) (x : A) → k < n → KeptBut none spot n xs (set xs (spot k) x)
  kept_set xs k x l = record {
    long = length-set xs (spot k) x;
    elsewhere = λ p e. get_or-set_other xs (spot k) p x none (λ (q : p ≡ spot k). true_not (is_spot spot n p) (ap (is_spot spot n) q ∙ is_spot_lem spot n k l) e);
  }

-- ---- lists of the same elements are the same

pub same_list : {A : Type 0} (none : A) (xs ys : List A) → length xs ≡ length ys → ((p : ℕ) → p < length ys → get_or xs p none ≡ get_or ys p none) → xs ≡ ys
same_list none [] [] e f = refl
same_list none [] (y ∷ ys) e f = let z : ⊥ = omega (arith, e) in absurd z
same_list none (x ∷ xs) [] e f = let z : ⊥ = omega (arith, e) in absurd z
same_list none (x ∷ xs) (y ∷ ys) e f = λ i. f 0 (omega arith) i ∷ same_list none xs ys (omega (arith, e)) (λ p l. f (suc p) (omega (arith, l))) i

-- ---- and so what was copied, put back, gives the store again

module _ {A B : Type 0} (copy : A → B) (back : B → A) (again : (x : A) → back (copy x) ≡ x) (none : A) (past : B) (spot : ℕ → ℕ) (from : List A) (blank : List B) where
  back_at : (n m : ℕ) (to : List A) (p : ℕ) → n ≤ m → m ≤ length blank → p < length from → length to ≡ length from
      → get_or (restored back past spot n (copied copy none spot m from blank) to) p none ≡ cond (is_spot spot n p) (get_or from p none) (get_or to p none)
  unfolding restored is_spot
  back_at zero m to p h w l e = refl
  back_at (suc k) m to p h w l e = go (back_at k m to p (omega (arith, h)) w l e) (eqb (spot k) p) refl
    where
      was : List A
      was = restored back past spot k (copied copy none spot m from blank) to

      x : A
      x = back (get_or (copied copy none spot m from blank) k past)

      x_is : x ≡ get_or from (spot k) none
      x_is = ap back (copied_at copy none spot from blank m k past w (omega (arith, h))) ∙ again (get_or from (spot k) none)

      go : get_or was p none ≡ cond (is_spot spot k p) (get_or from p none) (get_or to p none) → (b : Bool) → eqb (spot k) p ≡ b → get_or (set was (spot k) x) p none ≡ cond (cond b true (is_spot spot k p)) (get_or from p none) (get_or to p none)
      go before true q =
          let s = eqb-true (spot k) p q in
          let long = restored_length back past spot (copied copy none spot m from blank) to k in
          ap (λ (j : ℕ). get_or (set was (spot k) x) j none) (sym s) ∙ (get_or-set_same was (spot k) x none (omega (arith, long, s, l, e)) ∙ (x_is ∙ ap (λ (j : ℕ). get_or from j none) s))
      go before false q =
          let s = eqb-false (spot k) p q in
          get_or-set_other was (spot k) p x none (λ (z : p ≡ spot k). s (sym z)) ∙ before

  pub put_back : (n : ℕ) (to : List A) → n ≤ length blank → KeptBut none spot n from to → restored back past spot n (copied copy none spot n from blank) to ≡ from
  put_back n to w k = same_list none (restored back past spot n (copied copy none spot n from blank) to) from (restored_length back past spot (copied copy none spot n from blank) to n ∙ k.long) each
    where
      either : (p : ℕ) (b : Bool) → is_spot spot n p ≡ b → cond b (get_or from p none) (get_or to p none) ≡ get_or from p none
      either p true e = refl
      either p false e = k.elsewhere p e

      each : (p : ℕ) → p < length from → get_or (restored back past spot n (copied copy none spot n from blank) to) p none ≡ get_or from p none
      each p l = back_at n n to p (omega arith) w l k.long ∙ either p (is_spot spot n p) refl

-- ---- a stretch that was kept, put back

module _ {A : Type 0} (line store after : List A) (first n : ℕ) (room : first + n ≤ length store) where
  abbrev part : List A
  part = take n (drop first store)

  pub part_long : length (take n (drop first store)) ≡ n
  part_long = length-take-le n (drop first store) (let l = length-drop first store in omega (arith, l, room))

  pub kept_part : take n (kept_in line store first n) ≡ take n (drop first store)
  kept_part = ap (λ (m : ℕ). take m (part ++ drop n line)) (sym part_long) ∙ take-append_seam part (drop n line)

  pub stretch_back : take first after ≡ take first store → drop (first + n) after ≡ drop (first + n) store → back_in after (kept_in line store first n) first n ≡ store
  stretch_back front rest =
      let both : back_in after (kept_in line store first n) first n ≡ take first store ++ (part ++ drop (first + n) store) = λ i. front i ++ (kept_part i ++ rest i) in
      both
      ∙ (ap (λ (l : List A). take first store ++ (part ++ l)) (sym (drop-drop n first store))
      ∙ (ap (λ (l : List A). take first store ++ l) (take-append-drop n (drop first store)) ∙ take-append-drop first store))

-- step by step: kept, changed, put back
pub again_by : {A : Type 0} (line store after kept left back : List A) (first n : ℕ)
    → kept ≡ kept_in line store first n → left ≡ after → back ≡ back_in left kept first n → back_in after (kept_in line store first n) first n ≡ store → back ≡ store
again_by line store after kept left back first n k l b own = b ∙ (ap (λ (s : List _). back_in s kept first n) l ∙ (ap (λ (s : List _). back_in after s first n) k ∙ own))

-- of a store of which nothing but the stretch has changed
module _ {A : Type 0} (none : A) (first n : ℕ) (from to : List A) (k : KeptBut none (object_spot first) n from to) where
  off_spot : (m p : ℕ) → ((j : ℕ) → j < m → first + j ≡ p → ⊥) → is_spot (object_spot first) m p ≡ false
  unfolding is_spot
  off_spot zero p f = refl
  off_spot (suc m) p f = go (off_spot m p (λ j h. f j (omega (arith, h)))) (eqb (first + m) p) refl
    where
      go : is_spot (object_spot first) m p ≡ false → (b : Bool) → eqb (first + m) p ≡ b → cond b true (is_spot (object_spot first) m p) ≡ false
      go before true e = absurd (f m (omega arith) (eqb-true (first + m) p e))
      go before false e = before

  front_same : take first to ≡ take first from
  front_same = same_list none (take first to) (take first from) (let u = length-take first to in let v = length-take first from in let l = k.long in omega (arith, u, v, l)) each
    where
      each : (p : ℕ) → p < length (take first from) → get_or (take first to) p none ≡ get_or (take first from) p none
      each p l =
          let v = length-take first from in
          let h : p < first = omega (arith, v, l) in
          get_or-take first to p none h ∙ (k.elsewhere p (off_spot n p (λ j q e. omega (arith, e, h))) ∙ sym (get_or-take first from p none h))

  rest_same : drop (first + n) to ≡ drop (first + n) from
  rest_same = same_list none (drop (first + n) to) (drop (first + n) from) (let u = length-drop (first + n) to in let v = length-drop (first + n) from in let l = k.long in omega (arith, u, v, l)) each
    where
      each : (p : ℕ) → p < length (drop (first + n) from) → get_or (drop (first + n) to) p none ≡ get_or (drop (first + n) from) p none
      each p l =
          get_or-drop (first + n) to p none
          ∙ (k.elsewhere (first + n + p) (off_spot n (first + n + p) (λ j q e. omega (arith, e, q))) ∙ sym (get_or-drop (first + n) from p none))

  pub kept_back : (line : List A) → first + n ≤ length from → back_in to (kept_in line from first n) first n ≡ from
  kept_back line room = stretch_back line from to first n room front_same rest_same

-- and of bytes, where their own put into the store give it again
module _ (store after : List ℕ) (b : Stretch) (low : b.start ≤ b.end) (within : b.end ≤ length store) (again : put_bytes after b.start (buffer_in store b) ≡ store) where
  pub bytes_long : length after ≡ length store
  bytes_long = go (ltb (length after) (b.start + length (buffer_in store b))) refl
    where
      go : (c : Bool) → ltb (length after) (b.start + length (buffer_in store b)) ≡ c → length after ≡ length store
      go true e = ap length ((put_short after b.start (buffer_in store b) (ltb-true (length after) (b.start + length (buffer_in store b)) e)).1 ∙ again)
      go false e =
          let fits = ltb-false (length after) (b.start + length (buffer_in store b)) e in
          sym (length_put after b.start (buffer_in store b) fits) ∙ ap length ((put_fits after b.start (buffer_in store b) fits).1 ∙ again)

  pub bytes_back : (line : List ℕ) → back_in after (kept_in line store b.start (b.end - b.start)) b.start (b.end - b.start) ≡ store
  unfolding buffer_in put_at
  bytes_back line =
      let n = b.end - b.start in
      let bytes = take n (drop b.start store) in
      let room : b.start + n ≤ length store = omega (arith, low, within) in
      let many = part_long line store after b.start n room in
      let long = bytes_long in
      let inner = kept_part line store after b.start n room in
      ap (λ (l : List ℕ). take b.start after ++ (l ++ drop (b.start + n) after)) inner
      ∙ (ap (λ (m : ℕ). take b.start after ++ (bytes ++ drop (b.start + m) after)) (sym many)
      ∙ (sym (append_assoc (take b.start after) bytes (drop (b.start + length bytes) after))
      ∙ ((put_fits after b.start (buffer_in store b) (omega (arith, many, long, room))).1 ∙ again)))

-- ---- bytes at the start of a line of m

abbrev zeros : ℕ → List ℕ
zeros m = replicate m 0

module _ (m : ℕ) (bytes : List ℕ) (few : length bytes ≤ m) where
  fits : 0 + length bytes ≤ length (zeros m)
  fits = let l = length-replicate {A = ℕ} m 0 in omega (arith, l, few)

  pub line_length : length (put_bytes (replicate m 0) 0 bytes) ≡ m
  line_length = ap length (sym (put_fits (zeros m) 0 bytes fits).1) ∙ (length_put (zeros m) 0 bytes fits ∙ length-replicate {A = ℕ} m 0)

  pub line_back : take (length bytes) (put_bytes (replicate m 0) 0 bytes) ≡ bytes
  line_back = ap (take (length bytes)) (sym (put_fits (zeros m) 0 bytes fits).1) ∙ read_same (zeros m) 0 bytes fits
