-- Laws of the numbers of a row.
use Prim.Native.Nat.{ℕ, zero, suc, ◌+◌, ◌≤◌}
use mathlib.Core.Path.{◌≡◌, refl, ap, ◌∙◌}
use mathlib.Core.List.{List, [], ◌∷◌, ◌++◌}
use native.Mathlib.Omega.{arith}
use lib.ListN.{length, set, take, drop, length-append, length-drop}
use lib.Seq.{drop-cons}
use Rattle.std.proofs.lemmas.List.{take_at, drop_all, append-nil}
use Rattle.codec.specs.Bytes.{put_at}
use Rattle.streams.specs.Acknowledged.{list_from, sixteen}
use Rattle.sessions.specs.Streams.{number_at}

-- numbers of a row one by one are that part of it
pub part_listed : (w : List ℕ) (n i : ℕ) → i + n ≤ length w → take n (drop i w) ≡ list_from (number_at w) n i
unfolding list_from
part_listed w zero i h = refl
part_listed w (suc n) i h = rw (drop-cons w i 0 (omega arith)) (ap (λ (r : List ℕ). number_at w i ∷ r) (part_listed w n (suc i) (omega arith)))

pub sixteen_long : (f : ℕ → ℕ) → length (sixteen f) ≡ 16
unfolding sixteen list_from
sixteen_long f = refl

-- a row of any numbers, written part by part
pub row_written : (w : List ℕ) (id send expected : ℕ) (numbers lengths : List ℕ) → length w ≡ 35 → length numbers ≡ 16 → length lengths ≡ 16
    → put_at (put_at (set (set (set w 0 id) 1 send) 2 expected) 3 numbers) 19 lengths ≡ id ∷ send ∷ expected ∷ (numbers ++ lengths)
unfolding put_at
row_written (x ∷ y ∷ z ∷ rest) id send expected numbers lengths long n l =
    let few : length (numbers ++ drop 16 rest) ≤ 32 = omega (arith, length-append numbers (drop 16 rest), length-drop 16 rest) in
    rw (n, l, take_at numbers (drop 16 rest) 16 n)
    (ap (λ (r : List ℕ). id ∷ send ∷ expected ∷ ((numbers ++ lengths) ++ r)) (drop_all 32 (numbers ++ drop 16 rest) few)
    ∙ ap (λ (r : List ℕ). id ∷ send ∷ expected ∷ r) (append-nil (numbers ++ lengths)))
row_written (x ∷ y ∷ []) id send expected numbers lengths long n l = absurd (omega arith)
row_written (x ∷ []) id send expected numbers lengths long n l = absurd (omega arith)
row_written [] id send expected numbers lengths long n l = absurd (omega arith)
