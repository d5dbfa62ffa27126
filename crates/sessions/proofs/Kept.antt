-- The numbers in a kept row are different: every operation on a list keeps them so.
use Prim.Native.Nat.{ℕ, zero, suc, ◌+◌, ◌-◌, ◌<◌, ◌≤◌}
use mathlib.Core.Path.{◌≡◌, refl, sym, ap, ◌∙◌, subst}
use mathlib.Core.Logic.{◌≢◌}
use mathlib.Core.Bool.{Bool, true, false, cond}
use mathlib.Core.List.{List, [], ◌∷◌, ◌++◌, map-append}
use native.Mathlib.Omega.{arith}
use borrow.Author.Tests.{eqb-true, eqb-false, leb-true, leb-false}
use lib.Dec.{eqb, leb, ltb}
use lib.ListN.{length, take, get_or, set, length-append, length-map, length-set, get_or-append, get_or-map}
use lib.Seq.{get_or-set_same, get_or-set_other, get_or-append_seam, get_or-take, length-take-le}
use Rattle.streams.specs.View.{Kept, fresh_of}
use Rattle.sessions.specs.Dependants.{has_dependant}
use Rattle.sessions.specs.Removal.{remove_in}
use Rattle.sessions.specs.View.{Entry, blank_entry, one_past, place_in, find_in, put_entry, put_in, drop_at, drop_in, stream_in, open_if, open_in, write_in, Distinct, object_numbers, stream_numbers}
use Rattle.sessions.proofs.Parts.{map_set, map_take}
use Rattle.std.specs.Prelude.{None, Some, Option}

-- ---- numbers

pub none_distinct : Distinct []
unfolding Distinct
none_distinct i j a b e = let z : ⊥ = omega arith in absurd z

pub one_distinct : (n : ℕ) → Distinct (n ∷ [])
unfolding Distinct
one_distinct n i j a b e = omega arith

module _ (ns : List ℕ) (d : Distinct ns) where
  -- one more, which is not among them
  pub distinct_more : (n : ℕ) → ((i : ℕ) → i < length ns → get_or ns i 0 ≢ n) → Distinct (ns ++ (n ∷ []))
  unfolding Distinct
  distinct_more n other i j a c z = by (leb (length ns) i) refl (leb (length ns) j) refl
    where
      long : length (ns ++ (n ∷ [])) ≡ length ns + 1
      long = length-append ns (n ∷ [])

      old : (k : ℕ) → k < length ns → get_or (ns ++ (n ∷ [])) k 0 ≡ get_or ns k 0
      old k h = get_or-append ns (n ∷ []) 0 k h

      new : (k : ℕ) → k ≡ length ns → get_or (ns ++ (n ∷ [])) k 0 ≡ n
      new k h = rw h (get_or-append_seam ns n [] 0)

      by : (p : Bool) → leb (length ns) i ≡ p → (q : Bool) → leb (length ns) j ≡ q → i ≡ j
      by true p true q =
          let u : length ns ≤ i = leb-true (length ns) i p in
          let v : length ns ≤ j = leb-true (length ns) j q in
          omega (arith, long, a, c)
      by true p false q =
          let u : length ns ≤ i = leb-true (length ns) i p in
          let v : j < length ns = leb-false (length ns) j q in
          let w : i ≡ length ns = omega (arith, long, a) in
          absurd (other j v (sym (old j v) ∙ sym z ∙ new i w))
      by false p true q =
          let u : i < length ns = leb-false (length ns) i p in
          let v : length ns ≤ j = leb-true (length ns) j q in
          let w : j ≡ length ns = omega (arith, long, c) in
          absurd (other i u (sym (old i u) ∙ z ∙ new j w))
      by false p false q =
          let u : i < length ns = leb-false (length ns) i p in
          let v : j < length ns = leb-false (length ns) j q in
          d i j u v (sym (old i u) ∙ z ∙ old j v)

  -- one less: the last moves into its place
  module _ (k : ℕ) (h : k < length ns) where
    abbrev fewer : List ℕ
    fewer = take (length ns - 1) (set ns k (get_or ns (length ns - 1) 0))

    -- each of them comes from a place of its own
    from : ℕ → ℕ
    from i = cond (eqb i k) (length ns - 1) i

    short : length fewer ≡ length ns - 1
    short = length-take-le (length ns - 1) (set ns k (get_or ns (length ns - 1) 0)) (rw (length-set ns k (get_or ns (length ns - 1) 0)) (omega arith))

    from_in : (i : ℕ) → i < length fewer → from i < length ns
    unfolding from
    from_in i a = go (eqb i k)
      where
        go : (b : Bool) → cond b (length ns - 1) i < length ns
        go true = omega arith
        go false = omega (arith, short, a)

    from_same : (i : ℕ) → i < length fewer → get_or fewer i 0 ≡ get_or ns (from i) 0
    unfolding from
    from_same i a = get_or-take (length ns - 1) (set ns k (get_or ns (length ns - 1) 0)) i 0 (omega (arith, short, a)) ∙ go (eqb i k) refl
      where
        go : (b : Bool) → eqb i k ≡ b → get_or (set ns k (get_or ns (length ns - 1) 0)) i 0 ≡ get_or ns (cond b (length ns - 1) i) 0
        go true z = let w : i ≡ k = eqb-true i k z in rw w (get_or-set_same ns k (get_or ns (length ns - 1) 0) 0 h)
        go false z = get_or-set_other ns k i (get_or ns (length ns - 1) 0) 0 (eqb-false i k z)

    from_once : (i j : ℕ) → i < length fewer → j < length fewer → from i ≡ from j → i ≡ j
    unfolding from
    from_once i j a c z = go (eqb i k) refl (eqb j k) refl z
      where
        go : (p : Bool) → eqb i k ≡ p → (q : Bool) → eqb j k ≡ q → cond p (length ns - 1) i ≡ cond q (length ns - 1) j → i ≡ j
        go true p true q y = eqb-true i k p ∙ sym (eqb-true j k q)
        go true p false q y = absurd (omega (arith, short, c, y))
        go false p true q y = absurd (omega (arith, short, a, y))
        go false p false q y = y

    pub distinct_less : Distinct (take (length ns - 1) (set ns k (get_or ns (length ns - 1) 0)))
    unfolding Distinct
    distinct_less i j a c z = from_once i j a c (d (from i) (from j) (from_in i a) (from_in j c) (sym (from_same i a) ∙ z ∙ from_same j c))

-- a number that is set where it stands
pub set_same : (ns : List ℕ) (k : ℕ) → set ns k (get_or ns k 0) ≡ ns
set_same [] k = refl
set_same (n ∷ ns) zero = refl
set_same (n ∷ ns) (suc k) = ap (λ (l : List ℕ). n ∷ l) (set_same ns k)

-- ---- objects

-- an object that is found is in the list and has that number; where none is found, none has it
abbrev pub FoundIn : List Entry → ℕ → Option ℕ → Type 0
FoundIn es n (Some k) = (k < length es) × ((get_or es k blank_entry).number ≡ n)
FoundIn es n None = (i : ℕ) → i < length es → (get_or es i blank_entry).number ≢ n

pub place_found : (es : List Entry) (n : ℕ) → FoundIn es n (place_in es n)
place_found [] n = λ i h. let z : ⊥ = omega arith in absurd z
place_found (e ∷ es) n = by (eqb e.number n) refl (place_in es n) (place_found es n)
  where
    other : e.number ≢ n → ((i : ℕ) → i < length es → (get_or es i blank_entry).number ≢ n) → (i : ℕ) → i < length (e ∷ es) → (get_or (e ∷ es) i blank_entry).number ≢ n
    other q f zero h = q
    other q f (suc i) h = f i (omega arith)

    by : (b : Bool) → eqb e.number n ≡ b → (p : Option ℕ) → FoundIn es n p → FoundIn (e ∷ es) n (cond b (Some 0) (one_past p))
    by true q p f = (omega arith, eqb-true e.number n q)
    by false q (Some k) f = (omega arith, f.1)
    by false q None f = other (eqb-false e.number n q) f

module _ (es : List Entry) where
  number_at : (k : ℕ) → get_or (object_numbers es) k 0 ≡ (get_or es k blank_entry).number
  number_at k = get_or-map (λ (e : Entry). e.number) es k blank_entry

  numbers_length : length (object_numbers es) ≡ length es
  numbers_length = length-map es (λ (e : Entry). e.number)

  -- in place of one of that number, the numbers stay
  put_numbers : (k : ℕ) (e : Entry) → (get_or es k blank_entry).number ≡ e.number → object_numbers (set es k e) ≡ object_numbers es
  put_numbers k e q =
      map_set (λ (x : Entry). x.number) es k e ∙ ap (set (object_numbers es) k) (sym (number_at k ∙ q)) ∙ set_same (object_numbers es) k

  drop_numbers : (k : ℕ) → object_numbers (drop_at es (Some k)) ≡ take (length (object_numbers es) - 1) (set (object_numbers es) k (get_or (object_numbers es) (length (object_numbers es) - 1) 0))
  drop_numbers k =
      map_take (λ (x : Entry). x.number) (length es - 1) (set es k (get_or es (length es - 1) blank_entry))
      ∙ ap (take (length es - 1)) (map_set (λ (x : Entry). x.number) es k (get_or es (length es - 1) blank_entry) ∙ ap (set (object_numbers es) k) (sym (number_at (length es - 1))))
      ∙ ap (λ (m : ℕ). take (m - 1) (set (object_numbers es) k (get_or (object_numbers es) (m - 1) 0))) (sym numbers_length)

  module _ (d : Distinct (object_numbers es)) where
    pub put_distinct : (e : Entry) → Distinct (object_numbers (put_in es e))
    put_distinct e = by (place_in es e.number) (place_found es e.number)
      where
        by : (p : Option ℕ) → FoundIn es e.number p → Distinct (object_numbers (put_entry es p e))
        by (Some k) f = subst Distinct (sym (put_numbers k e f.1)) d
        by None f =
            subst Distinct (sym (map-append (λ (x : Entry). x.number) es (e ∷ [])))
            (distinct_more (object_numbers es) d e.number (λ i h q. f i (rw numbers_length at h) (sym (number_at i) ∙ q)))

    pub drop_distinct : (n : ℕ) → Distinct (object_numbers (drop_in es n))
    drop_distinct n = by (place_in es n) (place_found es n)
      where
        by : (p : Option ℕ) → FoundIn es n p → Distinct (object_numbers (drop_at es p))
        by (Some k) f = subst Distinct (sym (drop_numbers k)) (distinct_less (object_numbers es) d k (rw numbers_length f.0))
        by None f = d

    pub remove_distinct : (n : ℕ) → Distinct (object_numbers (remove_in es n))
    remove_distinct n = by (has_dependant es (find_in es n))
      where
        by : (b : Bool) → Distinct (object_numbers (cond b es (drop_in es n)))
        by true = d
        by false = drop_distinct n

-- ---- streams

module _ {A : Type 0} where
  -- a number that no stream has
  none_in : (ks : List (Kept A)) (n : ℕ) → stream_in ks n ≡ None → (i : ℕ) → i < length (stream_numbers ks) → get_or (stream_numbers ks) i 0 ≢ n
  unfolding stream_in
  none_in [] n e i h = let z : ⊥ = omega arith in absurd z
  none_in (k ∷ ks) n e i h = by (none_in ks n) (eqb k.number n) refl e i h
    where
      by : (stream_in ks n ≡ None → (i : ℕ) → i < length (stream_numbers ks) → get_or (stream_numbers ks) i 0 ≢ n)
          → (b : Bool) → eqb k.number n ≡ b → cond b (Some k) (stream_in ks n) ≡ None → (i : ℕ) → i < length (stream_numbers (k ∷ ks)) → get_or (stream_numbers (k ∷ ks)) i 0 ≢ n
      by later true q z i h = let o : ◌≡◌ {A = ℕ} 0 1 = cc in absurd (omega arith)
      by later false q z zero h = eqb-false k.number n q
      by later false q z (suc i) h = later z i (omega arith)

  pub open_distinct : (ks : List (Kept A)) (n : ℕ) → Distinct (stream_numbers ks) → Distinct (stream_numbers (open_in ks n))
  open_distinct ks n d = by (stream_in ks n) refl
    where
      more : (b : Bool) → stream_in ks n ≡ None → Distinct (stream_numbers (cond b (ks ++ (fresh_of n ∷ [])) ks))
      more true e = subst Distinct (sym (map-append (λ (k : Kept A). k.number) ks (fresh_of n ∷ []))) (distinct_more (stream_numbers ks) d n (none_in ks n e))
      more false e = d

      by : (o : Option (Kept A)) → stream_in ks n ≡ o → Distinct (stream_numbers (open_if o ks n))
      by (Some k) e = d
      by None e = more (ltb (length ks) 8) e

  -- a stream that is written back leaves every number what it is
  pub write_numbers : (ks : List (Kept A)) (k : Kept A) → stream_numbers (write_in ks k) ≡ stream_numbers ks
  unfolding write_in
  write_numbers [] k = refl
  write_numbers (x ∷ xs) k = by (eqb x.number k.number) refl (write_numbers xs k)
    where
      by : (b : Bool) → eqb x.number k.number ≡ b → stream_numbers (write_in xs k) ≡ stream_numbers xs → stream_numbers (cond b (k ∷ xs) (x ∷ write_in xs k)) ≡ x.number ∷ stream_numbers xs
      by true e later = ap (λ (n : ℕ). n ∷ stream_numbers xs) (sym (eqb-true x.number k.number e))
      by false e later = ap (λ (ns : List ℕ). x.number ∷ ns) later
