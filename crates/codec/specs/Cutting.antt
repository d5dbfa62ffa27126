-- Document 01, "The wire": what a fragment is, and how a payload is cut into fragments.
use Rattle.std.specs.Prelude.{ℕ, zero, suc, ◌<◌, ◌≤◌, ◌≡◌, cond, List, [], ◌∷◌, ◌++◌, eqb, ltb, get_or, length, take, drop, Err, Ok, Result}
use Rattle.codec.specs.Bytes.{word_at, le16, put_of, put_bytes}
use Rattle.codec.specs.declared.refusals.Refusal.TheVariants.{BufferTooShort, FragmentSizeZero, EmptyPayload, TooManyFragments, FragmentNumber}
use Rattle.codec.specs.declared.cutting.FragmentHeader.{FragmentHeader}
use Rattle.codec.specs.declared.refusals.Refusal.{Refusal}

-- "A fragment is number (2), total (2), body."
unfoldable pub fragment_bytes : ℕ → ℕ → List ℕ → List ℕ
fragment_bytes nr total body = le16 nr ++ (le16 total ++ body)

-- the number and the total that a fragment begins with; 1, "bytes missing"
unfoldable pub fragment_header_of : List ℕ → Result FragmentHeader Refusal
fragment_header_of buf =
    cond (ltb (length buf) 4) (Err BufferTooShort)
    (Ok (record { fragment_nr = word_at buf 0; total_fragments = word_at buf 2 }))

-- a payload is cut from its start into bodies of `size` bytes, the last with what is left; no more than `turns` of them
unfoldable pub cut_off : ℕ → ℕ → List ℕ → List (List ℕ)
cut_off zero size payload = []
cut_off (suc turns) size [] = []
cut_off (suc turns) size (byte ∷ more) = take size (byte ∷ more) ∷ cut_off turns size (drop size (byte ∷ more))

-- its bodies: a body takes a byte at least, so a turn for each byte is enough
unfoldable pub bodies : ℕ → List ℕ → List (List ℕ)
bodies size payload = cut_off (length payload) size payload

-- the bodies numbered from `nr` on, as fragments
unfoldable pub numbered : ℕ → ℕ → List (List ℕ) → List (List ℕ)
numbered nr total [] = []
numbered nr total (body ∷ more) = fragment_bytes nr total body ∷ numbered (suc nr) total more

-- the cut: the fragments of a payload, in order
unfoldable pub cut : ℕ → List ℕ → List (List ℕ)
cut size payload = numbered 0 (length (bodies size payload)) (bodies size payload)

-- "cutting goes 7, 8, 9": "fragment size 0", "payload to cut is empty", "over 65,535 fragments"
unfoldable pub count_of : List ℕ → ℕ → Result ℕ Refusal
count_of payload size =
    cond (eqb size 0) (Err FragmentSizeZero)
    (cond (eqb (length payload) 0) (Err EmptyPayload)
    (cond (ltb 65535 (length (cut size payload))) (Err TooManyFragments)
    (Ok (length (cut size payload)))))

-- then 10, "fragment number not below total"; a refusal leaves the output as it is
abbrev pub answered : Result ℕ Refusal → ℕ → Result ℕ Refusal → Result ℕ Refusal
answered (Err why) k answer = Err why
answered (Ok total) k answer = cond (ltb k total) answer (Err FragmentNumber)

abbrev pub changed : Result ℕ Refusal → ℕ → List ℕ → List ℕ → List ℕ
changed (Err why) k out after = out
changed (Ok total) k out after = cond (ltb k total) after out

-- then 13: the k-th fragment of the cut at the start of the output
unfoldable pub fragment_of : List ℕ → ℕ → ℕ → List ℕ → Result ℕ Refusal
fragment_of payload size k out = answered (count_of payload size) k (put_of out 0 (get_or (cut size payload) k []))

unfoldable pub fragment_out : List ℕ → ℕ → ℕ → List ℕ → List ℕ
fragment_out payload size k out = changed (count_of payload size) k out (put_bytes out 0 (get_or (cut size payload) k []))

-- bodies one behind the other
unfoldable pub joined : List (List ℕ) → List ℕ
joined [] = []
joined (body ∷ more) = body ++ joined more

-- what is promised of a cut: its bodies joined are the payload; every body but the last has the size, and the last has 1 byte to as many
pub record Cut (size : ℕ) (payload : List ℕ) : Type 0 where
  pub whole : joined (bodies size payload) ≡ payload
  pub full : (k : ℕ) → suc k < length (bodies size payload) → length (get_or (bodies size payload) k []) ≡ size
  pub some : 0 < length (bodies size payload)
  pub last : (k : ℕ) → suc k ≡ length (bodies size payload)
      → (0 < length (get_or (bodies size payload) k [])) × (length (get_or (bodies size payload) k []) ≤ size)
