-- Laws of the cut: how many bodies there are, which part of the payload each is, and the fragments by their number.
use Prim.Native.Nat.{ℕ, zero, suc, ◌+◌, ◌*◌, ◌-◌, ◌/◌, ◌≤◌, ◌<◌}
use mathlib.Core.Path.{◌≡◌, refl, sym, ap, ◌∙◌}
use mathlib.Core.Bool.{Bool, true, false, cond}
use mathlib.Core.List.{List, [], ◌∷◌, ◌++◌}
use native.Mathlib.Nat.{zero-mul, suc-mul, add_comm, add-zero, zero-add, div-eq_of_lt, div-eq-sub-div, div-mul-le_self, mul-le-mul_right}
use native.Mathlib.Numerals.{add-one}
use native.Mathlib.Omega.{arith}
use borrow.Author.Tests.{ltb-true, ltb-false, lt-ltb, le-ltb, ne_eqb, eqb-false}
use lib.Dec.{ltb, eqb}
use lib.ListN.{get_or, length, take, drop, length-drop, take-append-drop, drop_of_length-le}
use lib.Seq.{take-nil, drop-nil, drop-drop}
use Rattle.codec.specs.Bytes.{le16, put_at, put_of, put_bytes}
use Rattle.codec.specs.Cutting.{fragment_bytes, cut_off, bodies, joined, numbered, cut, count_of, fragment_of, fragment_out}
use Rattle.codec.specs.declared.refusals.Refusal.{Refusal}
use Rattle.codec.specs.declared.refusals.Refusal.TheVariants.{TooManyFragments, FragmentNumber}
use Rattle.codec.proofs.bytes.Laws.{put_behind}
use Rattle.std.specs.Prelude.{Err, Ok}

-- nothing is cut into nothing
cut_nothing : (turns size : ℕ) → cut_off turns size [] ≡ []
unfolding cut_off
cut_nothing zero size = refl
cut_nothing (suc turns) size = refl

module _ (size : ℕ) (some : 0 < size) where
  -- what a body leaves needs a turn less
  left : (byte : ℕ) (more : List ℕ) (turns : ℕ) → length (byte ∷ more) ≤ suc turns → length (drop size (byte ∷ more)) ≤ turns
  left byte more turns h = rw (length-drop size (byte ∷ more)) (omega arith)

  -- the k-th body is the part from `k * size` on
  cut_off_at : (turns : ℕ) (p : List ℕ) → length p ≤ turns → (k : ℕ) → get_or (cut_off turns size p) k [] ≡ take size (drop (k * size) p)
  unfolding cut_off
  cut_off_at zero [] h k = rw (drop-nil {A = ℕ} (k * size), take-nil {A = ℕ} size)
  cut_off_at zero (byte ∷ more) h k = absurd (omega arith)
  cut_off_at (suc turns) [] h k = rw (drop-nil {A = ℕ} (k * size), take-nil {A = ℕ} size)
  cut_off_at (suc turns) (byte ∷ more) h zero = rw (zero-mul size)
  cut_off_at (suc turns) (byte ∷ more) h (suc k) =
      cut_off_at turns (drop size (byte ∷ more)) (left byte more turns h) k
      ∙ ap (take size) (drop-drop (k * size) size (byte ∷ more) ∙ ap (λ (n : ℕ). drop n (byte ∷ more)) (add_comm size (k * size) ∙ sym (suc-mul k size)))

  -- how many there are, where the first is cut off
  length_step : (turns : ℕ) (p : List ℕ) → 0 < length p → (t : Bool) → ltb size (length p) ≡ t
      → ((q : List ℕ) → q ≡ drop size p → 0 < length q → length (cut_off turns size q) ≡ suc ((length q - 1) / size))
      → length (cut_off turns size (drop size p)) ≡ (length p - 1) / size
  length_step turns p h true e more =
      let big : size < length p = ltb-true size (length p) e in
      let l : length (drop size p) ≡ length p - size = length-drop size p in
      let d : length (drop size p) - 1 ≡ length p - 1 - size = omega arith in
      more (drop size p) refl (omega arith)
      ∙ (rw d (sym (add-one ((length p - 1 - size) / size))) ∙ sym (div-eq-sub-div some (omega arith)))
  length_step turns p h false e more =
      let small : length p ≤ size = ltb-false size (length p) e in
      rw (drop_of_length-le p small, cut_nothing turns size) (sym (div-eq_of_lt (omega arith)))

  length_cut_off : (turns : ℕ) (p : List ℕ) → length p ≤ turns → 0 < length p → length (cut_off turns size p) ≡ suc ((length p - 1) / size)
  unfolding cut_off
  length_cut_off zero p h h' = omega arith
  length_cut_off (suc turns) [] h h' = omega arith
  length_cut_off (suc turns) (byte ∷ more) h h' =
      ap suc (length_step turns (byte ∷ more) h' (ltb size (length (byte ∷ more))) refl (λ q e. length_cut_off turns q (rw e (left byte more turns h))))

  joined_cut_off : (turns : ℕ) (p : List ℕ) → length p ≤ turns → joined (cut_off turns size p) ≡ p
  unfolding cut_off joined
  joined_cut_off zero [] h = refl
  joined_cut_off zero (byte ∷ more) h = absurd (omega arith)
  joined_cut_off (suc turns) [] h = refl
  joined_cut_off (suc turns) (byte ∷ more) h =
      ap (λ (l : List ℕ). take size (byte ∷ more) ++ l) (joined_cut_off turns (drop size (byte ∷ more)) (left byte more turns h))
      ∙ take-append-drop size (byte ∷ more)

-- fragments have their bodies' numbers
length_numbered : (nr total : ℕ) (bs : List (List ℕ)) → length (numbered nr total bs) ≡ length bs
unfolding numbered
length_numbered nr total [] = refl
length_numbered nr total (body ∷ more) = ap suc (length_numbered (suc nr) total more)

numbered_at : (nr total : ℕ) (bs : List (List ℕ)) (k : ℕ) → k < length bs
    → get_or (numbered nr total bs) k [] ≡ fragment_bytes (nr + k) total (get_or bs k [])
unfolding numbered
numbered_at nr total [] k h = absurd (omega arith)
numbered_at nr total (body ∷ more) zero h = rw (add-zero nr)
numbered_at nr total (body ∷ more) (suc k) h = numbered_at (suc nr) total more k (omega arith) ∙ ap (λ (n : ℕ). fragment_bytes n total (get_or more k [])) (omega arith)

module _ (size : ℕ) (some : 0 < size) (p : List ℕ) where
  -- the bodies of a payload
  pub body_at : (k : ℕ) → get_or (bodies size p) k [] ≡ take size (drop (k * size) p)
  unfolding bodies
  body_at k = cut_off_at size some (length p) p (omega arith) k

  pub length_bodies : 0 < length p → length (bodies size p) ≡ suc ((length p - 1) / size)
  unfolding bodies
  length_bodies h = length_cut_off size some (length p) p (omega arith) h

  pub joined_bodies : joined (bodies size p) ≡ p
  unfolding bodies
  joined_bodies = joined_cut_off size some (length p) p (omega arith)

  -- the fragments of a payload
  pub fragment_at_lem : (k : ℕ) → k < length (cut size p) → get_or (cut size p) k [] ≡ fragment_bytes k (length (cut size p)) (take size (drop (k * size) p))
  unfolding cut
  fragment_at_lem k h =
      let n = length_numbered 0 (length (bodies size p)) (bodies size p) in
      rw (n, numbered_at 0 (length (bodies size p)) (bodies size p) k (omega arith), zero-add k, body_at k)

  -- a fragment that is there starts within the payload
  pub fragment_starts : (k : ℕ) → 0 < length p → k < length (cut size p) → k * size < length p
  unfolding cut
  fragment_starts k h below =
      let n = length_bodies h in
      let m = length_numbered 0 (length (bodies size p)) (bodies size p) in
      let up : k * size ≤ (length p - 1) / size * size = mul-le-mul_right size (omega arith) in
      omega (arith, div-mul-le_self (length p - 1) size)

-- how many fragments there are
pub cut_bodies : (size : ℕ) (p : List ℕ) → length (cut size p) ≡ length (bodies size p)
unfolding cut
cut_bodies size p = length_numbered 0 (length (bodies size p)) (bodies size p)

pub length_cut : (size : ℕ) (p : List ℕ) → 0 < size → 0 < length p → length (cut size p) ≡ suc ((length p - 1) / size)
length_cut size p some h = cut_bodies size p ∙ length_bodies size some p h

-- 9, and a number of fragments
module _ (size : ℕ) (p : List ℕ) (some : 0 < size) (bytes : 0 < length p) where
  pub count_many : 65535 ≤ (length p - 1) / size → Err TooManyFragments ≡ count_of p size
  unfolding count_of
  count_many h =
      rw (ne_eqb size 0 (omega arith), ne_eqb (length p) 0 (omega arith), lt-ltb 65535 (length (cut size p)) (omega (arith, length_cut size p some bytes)))

  pub count_few : (length p - 1) / size < 65535 → Ok ((length p - 1) / size + 1) ≡ count_of p size
  unfolding count_of
  count_few h =
      let n = length_cut size p some bytes in
      rw (ne_eqb size 0 (omega arith), ne_eqb (length p) 0 (omega arith), le-ltb 65535 (length (cut size p)) (omega arith)) (ap Ok (omega arith))

-- what a number of fragments tells
count_picks : (total n : ℕ) (zero-size no_bytes many : Bool) (a b : Refusal)
    → cond zero-size (Err a) (cond no_bytes (Err b) (cond many (Err TooManyFragments) (Ok n))) ≡ Ok total
    → (zero-size ≡ false) × (no_bytes ≡ false) × (n ≡ total)
count_picks total n false false false a b e = (refl, refl, cc)
count_picks total n true y z a b e = let q : ◌≡◌ {A = ℕ} 0 1 = cc in absurd (omega arith)
count_picks total n false true z a b e = let q : ◌≡◌ {A = ℕ} 0 1 = cc in absurd (omega arith)
count_picks total n false false true a b e = let q : ◌≡◌ {A = ℕ} 0 1 = cc in absurd (omega arith)

pub count_tells : (size : ℕ) (p : List ℕ) (total : ℕ) → count_of p size ≡ Ok total
    → (0 < size) × (0 < length p) × (length (cut size p) ≡ total)
unfolding count_of
count_tells size p total e =
    let t = count_picks total (length (cut size p)) (eqb size 0) (eqb (length p) 0) (ltb 65535 (length (cut size p))) _ _ e in
    let x = eqb-false size 0 t.0 in
    let y = eqb-false (length p) 0 t.1 in
    (omega arith, omega arith, t.2)

-- each answer of `fragment`
module _ (p : List ℕ) (size k : ℕ) (out : List ℕ) where
  pub fragment_refused : (why : Refusal) → count_of p size ≡ Err why
      → (Err why ≡ fragment_of p size k out) × (out ≡ fragment_out p size k out)
  unfolding fragment_of fragment_out
  fragment_refused why e = rw e (refl, refl)

  pub fragment_past : (total : ℕ) → count_of p size ≡ Ok total → total ≤ k
      → (Err FragmentNumber ≡ fragment_of p size k out) × (out ≡ fragment_out p size k out)
  unfolding fragment_of fragment_out
  fragment_past total e h = rw (e, le-ltb k total h) (refl, refl)

  pub fragment_there : (total : ℕ) → count_of p size ≡ Ok total → k < total
      → (put_of out 0 (fragment_bytes k total (take size (drop (k * size) p))) ≡ fragment_of p size k out)
      × (put_bytes out 0 (fragment_bytes k total (take size (drop (k * size) p))) ≡ fragment_out p size k out)
  unfolding fragment_of fragment_out
  fragment_there total e h =
      let t = count_tells size p total e in
      let l = t.2 in
      let body = take size (drop (k * size) p) in
      let at : get_or (cut size p) k [] ≡ fragment_bytes k total body =
      fragment_at_lem size t.0 p k (omega arith) ∙ ap (λ (n : ℕ). fragment_bytes k n body) l in
      rw (e, lt-ltb k total h, at) (refl, refl)

-- a fragment's bytes, and how they are written
pub length_fragment : (nr total : ℕ) (body : List ℕ) → length (fragment_bytes nr total body) ≡ 4 + length body
unfolding fragment_bytes le16
length_fragment nr total body = omega arith

pub header_bytes_lem : (nr total : ℕ) → le16 nr ++ le16 total ≡ fragment_bytes nr total []
unfolding fragment_bytes le16
header_bytes_lem nr total = refl

pub put_body : (out : List ℕ) (nr total : ℕ) (body : List ℕ) → put_at (put_at out 0 (le16 nr ++ le16 total)) 4 body ≡ put_at out 0 (fragment_bytes nr total body)
unfolding fragment_bytes le16
put_body out nr total body = put_behind out 0 (le16 nr ++ le16 total) body (omega arith)
