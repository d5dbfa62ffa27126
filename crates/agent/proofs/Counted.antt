-- Replies one behind the other, counted and written to the lent output.
use Prim.Native.Nat.{ℕ, ◌+◌, ◌≤◌, ◌<◌}
use mathlib.Core.Path.{◌≡◌, refl, sym, ap, ◌∙◌}
use mathlib.Core.Bool.{Bool, true, false, cond}
use mathlib.Core.List.{List, [], ◌∷◌, ◌++◌}
use native.Mathlib.Omega.{arith}
use borrow.Author.Tests.{le-ltb, lt-ltb, ltb-true, ltb-false}
use lib.Dec.{ltb}
use lib.ListN.{length, length-append}
use Rattle.codec.specs.Bytes.{put_at, put_bytes}
use Rattle.codec.proofs.bytes.Laws.{put_fits, put_behind, put_nothing, length_put}
use Rattle.agent.specs.Step.{Reply, bytes_of, joined_replies}
use Rattle.agent.specs.Run.{counted, count_replies, put_replies}

pub joined_long : (xs ys : List Reply) → length (joined_replies (xs ++ ys)) ≡ length (joined_replies xs) + length (joined_replies ys)
unfolding joined_replies
joined_long [] ys = omega arith
joined_long (x ∷ xs) ys =
    let a = length-append (bytes_of x) (joined_replies (xs ++ ys)) in
    let b = length-append (bytes_of x) (joined_replies xs) in
    let c = joined_long xs ys in
    omega (arith, a, b, c)

module _ (room : ℕ) where
  pub count_behind : (at : ℕ) (xs ys : List Reply) → count_replies room at (xs ++ ys) ≡ count_replies room (count_replies room at xs) ys
  unfolding count_replies
  count_behind at [] ys = refl
  count_behind at (x ∷ xs) ys = count_behind (counted room at (length (bytes_of x))) xs ys

  pub put_replies_behind : (out : List ℕ) (at : ℕ) (xs ys : List Reply)
      → put_replies room out at (xs ++ ys) ≡ put_replies room (put_replies room out at xs) (count_replies room at xs) ys
  unfolding put_replies count_replies
  put_replies_behind out at [] ys = refl
  put_replies_behind out at (x ∷ xs) ys = put_replies_behind (put_bytes out at (bytes_of x)) (counted room at (length (bytes_of x))) xs ys

  -- the count is exact where there is room for all of them, and else over the room
  record Count (at n w : ℕ) : Type 0 where
    fits : at + n ≤ room → w ≡ at + n
    over : room < at + n → room < w
    most : w ≤ at + n

  count_is : (at : ℕ) (rs : List Reply) → Count at (length (joined_replies rs)) (count_replies room at rs)
  unfolding count_replies joined_replies
  count_is at [] = record { fits = λ h. omega arith; over = λ h. omega (arith, h); most = omega arith }
  count_is at (r ∷ rs) = go (ltb room at) refl (λ p. count_is p rs)
    where
      n : ℕ
      n = length (bytes_of r)

      go : (b : Bool) → ltb room at ≡ b → ((p : ℕ) → Count p (length (joined_replies rs)) (count_replies room p rs))
          → Count at (length (bytes_of r ++ joined_replies rs)) (count_replies room (cond b at (at + n)) rs)
      go true e rest =
          let h = ltb-true room at e in
          let k = rest at in
          let l = length-append (bytes_of r) (joined_replies rs) in
          let m = k.most in
          record { fits = λ f. absurd (omega (arith, f, h)); over = λ f. k.over (omega (arith, h)); most = omega (arith, m, l) }
      go false e rest =
          let k = rest (at + n) in
          let l = length-append (bytes_of r) (joined_replies rs) in
          let m = k.most in
          record {
            fits = λ f. (let a = k.fits (omega (arith, f, l)) in omega (arith, a, l));
            over = λ f. k.over (omega (arith, f, l));
            most = omega (arith, m, l);
          }

  pub count_most : (at : ℕ) (rs : List Reply) → count_replies room at rs ≤ at + length (joined_replies rs)
  count_most at rs = (count_is at rs).most

  pub count_exact : (at : ℕ) (rs : List Reply) → at + length (joined_replies rs) ≤ room → count_replies room at rs ≡ at + length (joined_replies rs)
  count_exact at rs h = (count_is at rs).fits h

  -- so 13 sees the same
  pub count_told : (at : ℕ) (rs : List Reply) → ltb room (count_replies room at rs) ≡ ltb room (at + length (joined_replies rs))
  count_told at rs = go (ltb room n) refl
    where
      n : ℕ
      n = at + length (joined_replies rs)

      go : (b : Bool) → ltb room n ≡ b → ltb room (count_replies room at rs) ≡ ltb room n
      go true e = lt-ltb room (count_replies room at rs) ((count_is at rs).over (ltb-true room n e)) ∙ sym e
      go false e = ap (ltb room) (count_exact at rs (ltb-false room n e))

  -- where all of them fit, they are written as one
  fits_at : (out : List ℕ) (at : ℕ) (rs : List Reply) → room ≤ length out → at + length (joined_replies rs) ≤ room → put_replies room out at rs ≡ put_at out at (joined_replies rs)
  unfolding put_replies joined_replies
  fits_at out at [] o h = sym (put_nothing out at)
  fits_at out at (r ∷ rs) o h =
      let b = bytes_of r in
      let l = length-append b (joined_replies rs) in
      let k : at + length b ≤ length out = omega (arith, h, l) in
      let s = length_put out at b k in
      let j : at + length b + length (joined_replies rs) ≤ room = omega (arith, h, l) in
      rw (le-ltb room at (omega (arith, h)), ← (put_fits out at b k).1)
      (fits_at (put_at out at b) (at + length b) rs (omega (arith, s, o)) j ∙ put_behind out at b (joined_replies rs) (omega (arith, k)))

  pub fits_whole : (out : List ℕ) (rs : List Reply) → room ≤ length out → length (joined_replies rs) ≤ room → put_replies room out 0 rs ≡ put_at out 0 (joined_replies rs)
  fits_whole out rs o h = fits_at out 0 rs o (omega (arith, h))
