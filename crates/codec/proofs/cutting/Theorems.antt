-- What is promised of a cut, for every payload that has bytes and every size above 0; and that a fragment says its number, its total and its body.
use Prim.Native.Nat.{ℕ, suc, ◌+◌, ◌*◌, ◌-◌, ◌/◌, ◌%◌, ◌≤◌, ◌<◌, min}
use mathlib.Core.Path.{◌≡◌, refl}
use mathlib.Core.List.{List, []}
use native.Mathlib.Nat.{suc-mul, le-div_iff_mul-le, div-mul-le_self}
use native.Mathlib.Omega.{arith}
use borrow.Author.Tests.{le-ltb}
use lib.ListN.{get_or, length, take, drop, length-take, length-drop}
use Rattle.codec.specs.Bytes.{word_at, le16}
use Rattle.codec.specs.Cutting.{fragment_bytes, fragment_header_of, bodies, cut, Cut}
use Rattle.codec.proofs.cutting.Laws.{body_at, length_bodies, joined_bodies, length_fragment, cut_bodies, fragment_at_lem}
use Rattle.std.specs.Prelude.{Ok}

module _ (size : ℕ) (payload : List ℕ) (some : 0 < size) (bytes : 0 < length payload) where
  -- body k has the size, or what is left where that is less
  length_body : (k : ℕ) → length (get_or (bodies size payload) k []) ≡ min size (length payload - k * size)
  length_body k = rw (body_at size some payload k, length-take size (drop (k * size) payload), length-drop (k * size) payload)

  pub cut_keeps : Cut size payload
  cut_keeps =
      let n = length_bodies size some payload bytes in
      record {
        whole = joined_bodies size some payload;
        full = λ k h.
            let up : suc k * size ≤ length payload - 1 = (le-div_iff_mul-le some).0 (omega arith) in
            omega (arith, length_body k, suc-mul k size);
        some = omega arith;
        last = λ k h.
            let e : k ≡ (length payload - 1) / size = omega arith in
            let up : k * size ≤ length payload - 1 = rw e (div-mul-le_self (length payload - 1) size) in
            omega (arith, length_body k);
      }

-- a number of two bytes, written and read
two_bytes : (n : ℕ) → n ≤ 65535 → n % 256 + 256 * (n / 256 % 256) ≡ n
two_bytes n h = omega arith

header_reads : (nr total : ℕ) (body : List ℕ) → nr ≤ 65535 → total ≤ 65535
    → (fragment_header_of (fragment_bytes nr total body) ≡ Ok (record { fragment_nr = nr; total_fragments = total })) × (drop 4 (fragment_bytes nr total body) ≡ body)
unfolding fragment_header_of fragment_bytes le16 word_at
header_reads nr total body h h' = (rw (le-ltb (length (fragment_bytes nr total body)) 4 (omega (arith, length_fragment nr total body)), two_bytes nr h, two_bytes total h'), refl)

-- fragment k of a cut reads as number k of that total, with body k behind the header
pub fragment_reads : (size : ℕ) (payload : List ℕ) → 0 < size → (k : ℕ) → k < length (cut size payload) → length (cut size payload) ≤ 65535
    → (fragment_header_of (get_or (cut size payload) k []) ≡ Ok (record { fragment_nr = k; total_fragments = length (bodies size payload) }))
    × (drop 4 (get_or (cut size payload) k []) ≡ get_or (bodies size payload) k [])
fragment_reads size payload some k below few =
    let n = cut_bodies size payload in
    rw (fragment_at_lem size some payload k below, body_at size some payload k, ← n) (header_reads k (length (cut size payload)) (take size (drop (k * size) payload)) (omega arith) few)
