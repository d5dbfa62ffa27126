-- What is read is what the grammar allows.
use Prim.Native.Nat.{ℕ, zero, suc, ◌+◌, ◌-◌, ◌≤◌, ◌<◌}
use mathlib.Core.Path.{◌≡◌, refl, sym, ap, ◌∙◌}
use mathlib.Core.Logic.{◌⊎◌, inl, inr, ⊎_elim}
use mathlib.Core.Bool.{true}
use mathlib.Core.List.{List, [], ◌∷◌, ◌++◌, map}
use native.Mathlib.Decide.{dec_le}
use native.Mathlib.Nat.{lt_of_not-le}
use native.Mathlib.Omega.{arith}
use borrow.Author.Tests.{eqb-true, lt-leb, le-leb}
use lib.Dec.{eqb}
use lib.ListN.{get_or, length, take, drop, length-drop, take-append-drop, drop_of_length-le}
use lib.Seq.{length-take-le, drop-drop}
use Rattle.codec.specs.Bytes.{word_at, le16, AllBytes}
use Rattle.codec.specs.Header.{header_of, header_bytes, sub_header_read, sub_header_of}
use Rattle.codec.specs.Submessages.{id_of, kind_byte, kind_of, code_byte, code_of}
use Rattle.codec.specs.Layouts.{least_of, layout_at, create_at, create_of, status_at, status_of}
use Rattle.codec.specs.Reading.{behind, Item, Items, items, stopped, before, onward, read_at, items_at, payload_at, part_of, message_of, under}
use Rattle.codec.specs.Writing.{fixed_bytes}
use Rattle.codec.specs.Grammar.{Said, Ranged, HeaderRanged, Bodied, Payload, bodied, plain, OneSub, one, Subs, none, next, IsMessage, whole, said_in, says, reading_of, reading}
use Rattle.codec.specs.declared.header.MessageHeader.{MessageHeader}
use Rattle.codec.specs.declared.layouts.Span.{Span}
use Rattle.codec.specs.declared.layouts.Cursor.{Cursor}
use Rattle.codec.specs.declared.submessages.Submessage.{Submessage}
use Rattle.codec.proofs.Either.{either}
use Rattle.codec.proofs.submessages.Laws.{KindIs, kind_is, CodeIs, code_is}
use Rattle.codec.proofs.failures.Laws.{same_number, payload_met}
use Rattle.codec.proofs.Pieces.{byte_small, word_small, quad_small, byte_piece, word_piece, quad_piece, piece_piece}
use Rattle.codec.proofs.header.Laws.{sub_header_is}
use Rattle.codec.proofs.reading.Laws.{payload_placed, items_end, items_more}
use Rattle.codec.proofs.layouts.Laws.{enough}
use Rattle.std.specs.Prelude.{Err, Ok, Result}
use Rattle.codec.specs.declared.submessages.ObjectKind.{ObjectKind}
use Rattle.codec.specs.declared.refusals.Refusal.{Refusal}
use Rattle.codec.specs.declared.submessages.StatusCode.{StatusCode}
use Rattle.codec.specs.declared.header.SubmessageHeader.{SubmessageHeader}

-- ---- two messages that say the same have the same header and the same submessages

pub says_same : {g h : MessageHeader} {ys xs : List Said} → says g ys ≡ says h xs → (g ≡ h) × (ys ≡ xs)
says_same {g} {h} {ys} {xs} e =
    let p : ◌≡◌ {A = MessageHeader × List Said} (g, ys) (h, xs) = cc in
    (ap (λ (z : MessageHeader × List Said). z.0) p, ap (λ (z : MessageHeader × List Said). z.1) p)

-- ---- a layout that was read

-- the submessage `m` with its variable part at `x` is what the `len` bytes at `p` say under the id `id`
record Right (s : List ℕ) (id p len : ℕ) (m : Submessage) (x : Span) : Type 0 where
  own : id_of m ≡ id
  ranged : Ranged m
  fixed : fixed_bytes m ≡ take (least_of id) (drop p s)
  body : (Bodied m × (x ≡ record { start = p + least_of id; len = len - least_of id })) ⊎ ((Bodied m → ⊥) × (x ≡ record { start = p + len; len = 0 }))

abbrev RightIf : List ℕ → ℕ → ℕ → ℕ → Result (Submessage × Span × Cursor) Refusal → Type 0
RightIf s id p len (Ok (m, x, c)) = Right s id p len m x
RightIf s id p len (Err r) = Unit

module _ (s : List ℕ) (small : AllBytes s) (p len : ℕ) (fits : p + len ≤ length s) where
  two_words : 4 ≤ len → le16 (word_at s p) ++ le16 (word_at s (p + 2)) ≡ take 4 (drop p s)
  two_words h = piece_piece s p 2 2 _ _ (word_piece s small p (omega arith)) (word_piece s small (p + 2) (omega arith))

  right_client : 5 ≤ len → RightIf s 0 p len (layout_at s 0 p len)
  unfolding layout_at Ranged fixed_bytes least_of
  right_client h =
      record {
        own = refl;
        ranged = (quad_small s small p, byte_small s small (p + 4));
        fixed = piece_piece s p 4 1 _ _ (quad_piece s small p (omega arith)) (byte_piece s (p + 4) (omega arith));
        body = inr ((λ z. z), refl);
      }

  right_create : 5 ≤ len → (k : Result ObjectKind Refusal) → KindIs (get_or s (p + 2) 0) k → RightIf s 1 p len (create_of s p len k)
  unfolding Ranged fixed_bytes least_of le16
  right_create h (Ok k) e =
      let third : kind_byte k ∷ [] ≡ take 1 (drop (p + 2) s) = rw e (byte_piece s (p + 2) (omega arith)) in
      record {
        own = refl;
        ranged = (word_small s small p, word_small s small (p + 3));
        fixed = piece_piece s p 3 2 _ _ (piece_piece s p 2 1 (le16 (word_at s p)) (kind_byte k ∷ []) (word_piece s small p (omega arith)) third) (word_piece s small (p + 3) (omega arith));
        body = inl (tt, refl);
      }
  right_create h (Err r) e = tt

  right_delete : 2 ≤ len → RightIf s 2 p len (layout_at s 2 p len)
  unfolding layout_at Ranged fixed_bytes least_of
  right_delete h = record { own = refl; ranged = word_small s small p; fixed = word_piece s small p (omega arith); body = inr ((λ z. z), refl) }

  right_status : 3 ≤ len → (k : Result StatusCode Refusal) → CodeIs (get_or s (p + 2) 0) k → RightIf s 5 p len (status_of s p len k)
  unfolding Ranged fixed_bytes least_of
  right_status h (Ok k) e =
      let third : code_byte k ∷ [] ≡ take 1 (drop (p + 2) s) = rw e (byte_piece s (p + 2) (omega arith)) in
      record { own = refl; ranged = word_small s small p; fixed = piece_piece s p 2 1 _ _ (word_piece s small p (omega arith)) third; body = inr ((λ z. z), refl) }
  right_status h (Err r) e = tt

  right_write : 2 ≤ len → RightIf s 7 p len (layout_at s 7 p len)
  unfolding layout_at Ranged fixed_bytes least_of
  right_write h = record { own = refl; ranged = word_small s small p; fixed = word_piece s small p (omega arith); body = inl (tt, refl) }

  right_read : 4 ≤ len → RightIf s 8 p len (layout_at s 8 p len)
  unfolding layout_at Ranged fixed_bytes least_of
  right_read h = record { own = refl; ranged = (word_small s small p, word_small s small (p + 2)); fixed = two_words h; body = inr ((λ z. z), refl) }

  right_data : 2 ≤ len → RightIf s 9 p len (layout_at s 9 p len)
  unfolding layout_at Ranged fixed_bytes least_of
  right_data h = record { own = refl; ranged = word_small s small p; fixed = word_piece s small p (omega arith); body = inl (tt, refl) }

  right_heartbeat : 4 ≤ len → RightIf s 13 p len (layout_at s 13 p len)
  unfolding layout_at Ranged fixed_bytes least_of
  right_heartbeat h = record { own = refl; ranged = (word_small s small p, word_small s small (p + 2)); fixed = two_words h; body = inr ((λ z. z), refl) }

  right_acknack : 4 ≤ len → RightIf s 14 p len (layout_at s 14 p len)
  unfolding layout_at Ranged fixed_bytes least_of
  right_acknack h = record { own = refl; ranged = (word_small s small p, word_small s small (p + 2)); fixed = two_words h; body = inr ((λ z. z), refl) }

  right_fragment : 4 ≤ len → RightIf s 15 p len (layout_at s 15 p len)
  unfolding layout_at Ranged fixed_bytes least_of
  right_fragment h = record { own = refl; ranged = (word_small s small p, word_small s small (p + 2)); fixed = two_words h; body = inl (tt, refl) }

  -- whichever layout the id decides
  right_layout : (id : ℕ) → least_of id ≤ len → RightIf s id p len (layout_at s id p len)
  unfolding layout_at least_of create_at status_at
  right_layout id h =
      let P = RightIf s id p len in
      let long : (k : ℕ) → eqb id k ≡ true → least_of k ≤ len = λ k e. enough id k len (eqb-true id k e) h in
      let at : (k : ℕ) (q : Result (Submessage × Span × Cursor) Refusal) → eqb id k ≡ true → RightIf s k p len q → P q = λ k q e r. rw (eqb-true id k e) r in
      either P (eqb id 0) _ _ (λ e. at 0 (layout_at s 0 p len) e (right_client (long 0 e))) (λ _.
      either P (eqb id 1) _ _ (λ e. at 1 (layout_at s 1 p len) e (right_create (long 1 e) (kind_of _) (kind_is _))) (λ _.
      either P (eqb id 2) _ _ (λ e. at 2 (layout_at s 2 p len) e (right_delete (long 2 e))) (λ _.
      either P (eqb id 5) _ _ (λ e. at 5 (layout_at s 5 p len) e (right_status (long 5 e) (code_of _) (code_is _))) (λ _.
      either P (eqb id 7) _ _ (λ e. at 7 (layout_at s 7 p len) e (right_write (long 7 e))) (λ _.
      either P (eqb id 8) _ _ (λ e. at 8 (layout_at s 8 p len) e (right_read (long 8 e))) (λ _.
      either P (eqb id 9) _ _ (λ e. at 9 (layout_at s 9 p len) e (right_data (long 9 e))) (λ _.
      either P (eqb id 13) _ _ (λ e. at 13 (layout_at s 13 p len) e (right_heartbeat (long 13 e))) (λ _.
      either P (eqb id 14) _ _ (λ e. at 14 (layout_at s 14 p len) e (right_acknack (long 14 e))) (λ _.
      either P (eqb id 15) _ _ (λ e. at 15 (layout_at s 15 p len) e (right_fragment (long 15 e))) (λ _. tt))))))))))

-- the part that a span marks off, where it is within the datagram
pub part_taken : (s : List ℕ) (start len : ℕ) → start + len ≤ length s → part_of s (record { start = start; len = len }) ≡ take len (drop start s)
unfolding part_of
part_taken s start len h = rw (le-leb (start + len) (length s) h)

-- ---- a submessage that was read stands in the datagram as the grammar lays it out

module _ (s : List ℕ) (small : AllBytes s) where
  right_laid : (id p len : ℕ) (m : Submessage) (x : Span) (c : Cursor) → p + len ≤ length s → least_of id ≤ len → layout_at s id p len ≡ Ok (m, x, c) → Right s id p len m x
  right_laid id p len m x c fits h e = rw e at (right_layout s small p len fits id h)

  right_payload : (id p len : ℕ) (m : Submessage) (x : Span) (c : Cursor) → payload_at s id p len ≡ Ok (m, x, c)
      → (Right s id p len m x) × (least_of id ≤ len) × (p + len ≤ length s)
  right_payload id p len m x c e =
      let met = payload_met s id p len (same_number e) in
      (right_laid id p len m x c met.room met.least (met.laid ∙ e), met.least, met.room)

  -- the bytes of the payload: the fixed ones, and what follows them
  payload_split : (id p len : ℕ) (m : Submessage) (x : Span) → Right s id p len m x → least_of id ≤ len → p + len ≤ length s
      → Payload m (part_of s x) (take len (drop p s))
  payload_split id p len m x r h fits =
      let n = least_of id in
      let rest = take (len - n) (drop (p + n) s) in
      let e : n + (len - n) ≡ len = omega arith in
      let split : fixed_bytes m ++ rest ≡ take len (drop p s) = piece_piece s p n (len - n) (fixed_bytes m) rest r.fixed refl ∙ ap (λ (k : ℕ). take k (drop p s)) e in
      rw (← split) (⊎_elim
      (λ b. rw (b.1, part_taken s (p + n) (len - n) (omega arith)) (bodied m rest b.0))
      (λ b. rw (b.1, part_taken s (p + len) 0 (omega arith)) (plain m rest b.0))
      r.body)

  -- the four bytes of its header
  head_piece : (at : ℕ) → at + 4 ≤ length s → (get_or s at 0 ∷ get_or s (at + 1) 0 ∷ le16 (word_at s (at + 2))) ≡ take 4 (drop at s)
  head_piece at h =
      piece_piece s at 2 2 (get_or s at 0 ∷ get_or s (at + 1) 0 ∷ []) (le16 (word_at s (at + 2)))
      (piece_piece s at 1 1 (get_or s at 0 ∷ []) (get_or s (at + 1) 0 ∷ []) (byte_piece s at (omega arith)) (byte_piece s (at + 1) (omega arith)))
      (word_piece s small (at + 2) (omega arith))

  sub_laid : (at : ℕ) (m : Submessage) (x : Span) → at + 4 ≤ length s → Right s (get_or s at 0) (at + 4) (word_at s (at + 2)) m x
      → least_of (get_or s at 0) ≤ word_at s (at + 2) → at + 4 + word_at s (at + 2) ≤ length s
      → OneSub (record { fields = m; body = part_of s x }) (take (4 + word_at s (at + 2)) (drop at s))
  sub_laid at m x h r least fits =
      let len = word_at s (at + 2) in
      let payload = take len (drop (at + 4) s) in
      let n : length payload ≡ len = length-take-le len (drop (at + 4) s) (rw (length-drop (at + 4) s) (omega arith)) in
      let bytes : (id_of m ∷ get_or s (at + 1) 0 ∷ le16 (length payload)) ++ payload ≡ take (4 + len) (drop at s)
      = rw (n, r.own) (piece_piece s at 4 len _ payload (head_piece at h) refl) in
      rw (← bytes) (one m (part_of s x) payload (get_or s (at + 1) 0) r.ranged (payload_split (get_or s at 0) (at + 4) len m x r least fits) (rw n (word_small s small (at + 2))))

  -- one submessage that was read: it stands there, and reading goes on behind it
  record Taken (at : ℕ) (m : Submessage) (x : Span) (c : Cursor) : Type 0 where
    size : ℕ
    sub : OneSub (record { fields = m; body = part_of s x }) (take (4 + size) (drop at s))
    end : c.at ≡ at + (4 + size)
    within : at + (4 + size) ≤ length s

  taken_behind : (at : ℕ) (q : Result SubmessageHeader Refusal) → sub_header_read s at ≡ q → (m : Submessage) (x : Span) (c : Cursor) → behind s at q ≡ Ok (m, x, c) → Taken at m x c
  unfolding sub_header_of
  taken_behind at (Ok h) e m x c d =
      let k = sub_header_is s at h e in
      let d' : payload_at s (get_or s at 0) (at + 4) (word_at s (at + 2)) ≡ Ok (m, x, c) = rw k.1 at d in
      let r = right_payload (get_or s at 0) (at + 4) (word_at s (at + 2)) m x c d' in
      let ends = payload_placed s (get_or s at 0) (at + 4) (word_at s (at + 2)) m x c d' in
      record {
        size = word_at s (at + 2);
        sub = sub_laid at m x k.0 r.0 r.1 r.2;
        end = omega (arith, ends.1.0);
        within = omega (arith, r.2);
      }
  taken_behind at (Err r) e m x c d = let z : ◌≡◌ {A = ℕ} 0 1 = cc in absurd (omega arith)

  taken : (at : ℕ) (m : Submessage) (x : Span) (c : Cursor) → read_at s at ≡ Ok (m, x, c) → Taken at m x c
  unfolding read_at
  taken at m x c e = taken_behind at (sub_header_read s at) refl m x c e

  -- ---- the submessages of a datagram

  Laid : ℕ → List Item → Type 0
  Laid at xs = Subs (map (said_in s) xs) (drop at s)

  laid_more : (at : ℕ) (m : Submessage) (x : Span) (c : Cursor) (xs : List Item) → Taken at m x c → Laid c.at xs → Laid at (record { says = m; span = x } ∷ xs)
  unfolding Laid
  laid_more at m x c xs t l =
      let n = 4 + t.size in
      let split : take n (drop at s) ++ drop c.at s ≡ drop at s = rw (t.end, ← drop-drop n at s) (take-append-drop n (drop at s)) in
      rw (← split) (next t.sub l)

  laid_end : (at : ℕ) (xs : List Item) → length s ≤ at → items_at s at ≡ items xs → Laid at xs
  unfolding Laid
  laid_end at xs h e =
      let z : xs ≡ [] = cc (items_end s at h) in
      rw (z, drop_of_length-le s h) none

  laid_onward : (at : ℕ) (xs : List Item) (q : Result (Submessage × Span × Cursor) Refusal) → read_at s at ≡ q → ((n : ℕ) (ys : List Item) → at < n → items_at s n ≡ items ys → Laid n ys)
      → (i : Items) → onward q (items_at s) ≡ i → i ≡ items xs → Laid at xs
  laid_onward at xs (Err r) e go i d f = let z : ◌≡◌ {A = ℕ} 0 1 = cc in absurd (omega arith)
  laid_onward at xs (Ok (m, x, c)) e go i d f = after (items_at s c.at) refl (d ∙ f)
    where
      after : (j : Items) → items_at s c.at ≡ j → before (record { says = m; span = x }) (items_at s c.at) ≡ items xs → Laid at xs
      after (items ys) p k =
          let z : xs ≡ record { says = m; span = x } ∷ ys = cc (rw p at k) in
          rw z (laid_more at m x c ys (taken at m x c e) (go c.at ys (omega (arith, (taken at m x c e).end)) p))
      after (stopped r) p k = let z : ◌≡◌ {A = ℕ} 0 1 = cc (rw p at k) in absurd (omega arith)

  laid_items : (left at : ℕ) (xs : List Item) → length s - at ≤ left → items_at s at ≡ items xs → Laid at xs
  laid_items zero at xs h e = laid_end at xs (omega arith) e
  laid_items (suc left) at xs h e =
      elim (dec_le (length s) at) [
        | yes k ↦ laid_end at xs k e
        | no k ↦
            let k' = lt_of_not-le k in
            laid_onward at xs (read_at s at) refl (λ n ys j. laid_items left n ys (omega arith)) (onward (read_at s at) (items_at s)) refl (sym (items_more s at k') ∙ e)
      ]

  -- what is read from a place to the end is what the grammar allows there
  pub subs_sound : (at : ℕ) (xs : List Item) → items_at s at ≡ items xs → Subs (map (said_in s) xs) (drop at s)
  unfolding Laid
  subs_sound at xs e = laid_items (length s - at) at xs (omega arith) e

  -- ---- the whole datagram

  header_laid : 4 ≤ length s → header_bytes (header_of s) ++ drop 4 s ≡ s
  unfolding header_bytes header_of
  header_laid h = ap (λ (l : List ℕ). l ++ drop 4 s) (head_piece 0 h) ∙ take-append-drop 4 s

  header_ranged : HeaderRanged (header_of s)
  unfolding HeaderRanged header_of
  header_ranged = (byte_small s small 0, byte_small s small 1, word_small s small 2)

  none_left : (bytes : List ℕ) → Subs [] bytes → length bytes ≡ 0
  none_left bytes none = refl

  message_laid : (ys : List Item) → 4 < length s → Laid 4 ys → IsMessage (header_of s) (map (said_in s) ys) s
  unfolding Laid
  message_laid [] h l = absurd (omega (arith, none_left (drop 4 s) l, length-drop 4 s))
  message_laid (y ∷ ys) h l = rw (header_laid (omega arith)) at (whole (header_of s) (said_in s y) (map (said_in s) ys) (drop 4 s) header_ranged l)

  sound_items : (h : MessageHeader) (xs : List Said) → 4 < length s → (i : Items) → items_at s 4 ≡ i → reading_of s (under (header_of s) i) ≡ says h xs → IsMessage h xs s
  sound_items h xs long (items ys) e k =
      let same = says_same k in
      rw (← same.0, ← same.1) (message_laid ys long (laid_items (length s) 4 ys (omega arith) e))
  sound_items h xs long (stopped r) e k = let z : ◌≡◌ {A = ℕ} 0 1 = cc in absurd (omega arith)

  -- what is read is what the grammar allows
  pub sound : (h : MessageHeader) (xs : List Said) → reading s ≡ says h xs → IsMessage h xs s
  unfolding reading message_of
  sound h xs e =
      elim (dec_le (length s) 4) [
        | yes k ↦ let e' = rw (le-leb (length s) 4 k) at e in let z : ◌≡◌ {A = ℕ} 0 1 = cc in absurd (omega arith)
        | no k ↦ sound_items h xs (lt_of_not-le k) (items_at s 4) refl (rw (lt-leb (length s) 4 (lt_of_not-le k)) at e)
      ]
