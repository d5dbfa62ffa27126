-- Bytes written at one place of a lent buffer, and what is read at the same place and at others.
use Rattle.std.proofs.Common.{◌≡◌, ℕ, ◌+◌, ◌-◌, ◌≤◌, List, ◌++◌, length, take, drop, sym, ap, ◌∙◌, append_assoc, arith, length-append, length-drop, take-append-drop, length-take-le, drop-drop, drop_at}
use lib.Seq.{take-append-le, drop-append-le, take-append_seam}
use Rattle.codec.specs.Bytes.{put_at}

module _ (buffer : List ℕ) (at : ℕ) (bytes : List ℕ) (fits : at + length bytes ≤ length buffer) where
  head : length (take at buffer) ≡ at
  head = length-take-le at buffer (omega arith)

  cut : (from k : ℕ) → from + k ≤ at → (rest : List ℕ) → take k (drop from (take at buffer ++ rest)) ≡ take k (drop from (take at buffer))
  cut from k h rest =
      rw (drop-append-le from (take at buffer) rest (omega (arith, head)))
      (take-append-le k (drop from (take at buffer)) rest (rw (length-drop from (take at buffer)) (omega (arith, head))))

  pub read_same : take (length bytes) (drop at (put_at buffer at bytes)) ≡ bytes
  unfolding put_at
  read_same =
      rw (append_assoc (take at buffer) bytes (drop (at + length bytes) buffer), drop_at (take at buffer) (bytes ++ drop (at + length bytes) buffer) at head)
      (take-append_seam bytes (drop (at + length bytes) buffer))

  pub read_behind : (from : ℕ) → at + length bytes ≤ from → drop from (put_at buffer at bytes) ≡ drop from buffer
  unfolding put_at
  read_behind from h =
      let end = at + length bytes in
      let rest = from - end in
      let put = take at buffer ++ bytes ++ drop end buffer in
      let e : from ≡ end + rest = omega arith in
      let k : length (take at buffer ++ bytes) ≡ end = length-append (take at buffer) bytes ∙ ap (λ (m : ℕ). m + length bytes) head in
      ap (λ (m : ℕ). drop m put) e ∙ sym (drop-drop rest end put) ∙ ap (drop rest) (drop_at (take at buffer ++ bytes) (drop end buffer) end k)
      ∙ drop-drop rest end buffer ∙ ap (λ (m : ℕ). drop m buffer) (sym e)

  pub read_before : (from k : ℕ) → from + k ≤ at → take k (drop from (put_at buffer at bytes)) ≡ take k (drop from buffer)
  unfolding put_at
  read_before from k h =
      let front = take at buffer in
      rw (append_assoc front bytes (drop (at + length bytes) buffer)) (cut from k h (bytes ++ drop (at + length bytes) buffer))
      ∙ sym (rw (take-append-drop at buffer) at (cut from k h (drop at buffer)))
