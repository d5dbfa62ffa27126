-- Laws of reading: each answer to a payload, that a submessage ends behind its header and within the datagram,
-- and the submessages of a datagram one at a time.
use Prim.Native.Nat.{ℕ, zero, suc, ◌+◌, ◌-◌, ◌≤◌, ◌<◌}
use mathlib.Core.Path.{◌≡◌, refl}
use mathlib.Core.Bool.{true}
use mathlib.Core.List.{List, []}
use native.Mathlib.Decide.{dec_le}
use native.Mathlib.Nat.{lt_of_not-le}
use native.Mathlib.Omega.{arith}
use borrow.Author.Tests.{lt-ltb, le-ltb, le-leb, lt-leb, ne_eqb, eq-eqb, eqb-true, ltb-false}
use lib.Dec.{eqb, ltb}
use lib.ListN.{get_or, length}
use Rattle.codec.specs.Bytes.{word_at}
use Rattle.codec.specs.Header.{header_of, sub_header_read, sub_header_of}
use Rattle.codec.specs.Layouts.{least_of, layout_at, create_at, create_of, status_at, status_of}
use Rattle.codec.specs.Submessages.{kind_of, code_of}
use Rattle.codec.specs.Reading.{payload_at, read_at, behind, Item, Items, items, stopped, before, onward, items_in, items_at, under, checked_of, count_at, message_of, check_of}
use Rattle.codec.specs.declared.header.MessageHeader.{MessageHeader}
use Rattle.codec.specs.declared.layouts.Span.{Span}
use Rattle.codec.specs.declared.layouts.Cursor.{Cursor}
use Rattle.codec.specs.declared.refusals.Refusal.{Refusal}
use Rattle.codec.specs.declared.refusals.Refusal.TheVariants.{BufferTooShort, UnknownSubmessageId, PayloadLengthMismatch}
use Rattle.codec.specs.declared.submessages.Submessage.{Submessage}
use Rattle.codec.proofs.Either.{either}
use Rattle.codec.proofs.header.Laws.{sub_header_there, sub_header_short}
use Rattle.codec.proofs.layouts.Laws.{enough}
use Rattle.std.specs.Prelude.{Err, Ok, Result}
use Rattle.codec.specs.declared.submessages.ObjectKind.{ObjectKind}
use Rattle.codec.specs.declared.submessages.StatusCode.{StatusCode}
use Rattle.codec.specs.declared.header.SubmessageHeader.{SubmessageHeader}

-- ---- a payload: its four answers

module _ (s : List ℕ) (id p len : ℕ) where
  pub payload_cut : length s < p + len → Err BufferTooShort ≡ payload_at s id p len
  unfolding payload_at
  payload_cut h = rw (lt-ltb (length s) (p + len) h)

  pub payload_unlisted : p + len ≤ length s → least_of id ≡ 255 → Err (UnknownSubmessageId id) ≡ payload_at s id p len
  unfolding payload_at
  payload_unlisted h e = rw (le-ltb (length s) (p + len) h, eq-eqb (least_of id) 255 e)

  pub payload_under : p + len ≤ length s → (least_of id ≡ 255 → ⊥) → len < least_of id → Err PayloadLengthMismatch ≡ payload_at s id p len
  unfolding payload_at
  payload_under h e k = rw (le-ltb (length s) (p + len) h, ne_eqb (least_of id) 255 e, lt-ltb len (least_of id) k)

  pub payload_laid : p + len ≤ length s → (least_of id ≡ 255 → ⊥) → least_of id ≤ len → layout_at s id p len ≡ payload_at s id p len
  unfolding payload_at
  payload_laid h e k = rw (le-ltb (length s) (p + len) h, ne_eqb (least_of id) 255 e, le-ltb len (least_of id) k)

-- ---- a submessage ends where its payload does, and so does its variable part

abbrev pub Ends : ℕ → Result (Submessage × Span × Cursor) Refusal → Type 0
Ends e (Ok (m, x, c)) = (c.at ≡ e) × (x.start + x.len ≡ e)
Ends e (Err r) = Unit

module _ (s : List ℕ) (p len : ℕ) where
  ends_create : 5 ≤ len → (k : Result ObjectKind Refusal) → Ends (p + len) (create_of s p len k)
  ends_create h (Ok k) = (refl, omega arith)
  ends_create h (Err r) = tt

  ends_status : (k : Result StatusCode Refusal) → Ends (p + len) (status_of s p len k)
  ends_status (Ok k) = (refl, omega arith)
  ends_status (Err r) = tt

  ends_layout : (id : ℕ) → least_of id ≤ len → Ends (p + len) (layout_at s id p len)
  unfolding layout_at least_of create_at status_at
  ends_layout id h =
      let E = Ends (p + len) in
      let long : (k : ℕ) → eqb id k ≡ true → least_of k ≤ len = λ k e. enough id k len (eqb-true id k e) h in
      either E (eqb id 0) _ _ (λ e. (refl, omega arith)) (λ _.
      either E (eqb id 1) _ _ (λ e. ends_create (long 1 e) (kind_of _)) (λ _.
      either E (eqb id 2) _ _ (λ e. (refl, omega arith)) (λ _.
      either E (eqb id 5) _ _ (λ e. ends_status (code_of _)) (λ _.
      either E (eqb id 7) _ _ (λ e. (refl, omega (arith, long 7 e))) (λ _.
      either E (eqb id 8) _ _ (λ e. (refl, omega arith)) (λ _.
      either E (eqb id 9) _ _ (λ e. (refl, omega (arith, long 9 e))) (λ _.
      either E (eqb id 13) _ _ (λ e. (refl, omega arith)) (λ _.
      either E (eqb id 14) _ _ (λ e. (refl, omega arith)) (λ _.
      either E (eqb id 15) _ _ (λ e. (refl, omega (arith, long 15 e))) (λ _. tt))))))))))

-- where a submessage that was read ends, and where its variable part stands
pub record Placed (s : List ℕ) (at : ℕ) (x : Span) (c : Cursor) : Type 0 where
  pub ahead : at + 4 ≤ c.at
  pub within : c.at ≤ length s
  pub closed : x.start + x.len ≡ c.at

placed : (s : List ℕ) (at p len : ℕ) (m : Submessage) (x : Span) (c : Cursor) → p ≡ at + 4 → p + len ≤ length s
    → Ends (p + len) (Ok (m, x, c)) → Placed s at x c
placed s at p len m x c e h d = record { ahead = omega (arith, d.0); within = omega (arith, d.0); closed = omega (arith, d.0, d.1) }

-- whatever a payload says, it ends where the payload does
module _ (s : List ℕ) (id p len : ℕ) where
  pub payload_ends : p + len ≤ length s → Ends (p + len) (payload_at s id p len)
  unfolding payload_at
  payload_ends h =
      let E = Ends (p + len) in
      rw (le-ltb (length s) (p + len) h)
      (either E (eqb (least_of id) 255) _ _ (λ _. tt) (λ _.
      either E (ltb len (least_of id)) _ _ (λ _. tt) (λ k. ends_layout s p len id (ltb-false len (least_of id) k))))

  pub payload_placed : (m : Submessage) (x : Span) (c : Cursor) → payload_at s id p len ≡ Ok (m, x, c) → (p + len ≤ length s) × (Ends (p + len) (Ok (m, x, c)))
  payload_placed m x c e =
      elim (dec_le (p + len) (length s)) [
        | yes h ↦ (h, rw e at (payload_ends h))
        | no h ↦ let z : ◌≡◌ {A = ℕ} 0 1 = cc (payload_cut s id p len (lt_of_not-le h)) in absurd (omega arith)
      ]

-- ---- a submessage: its header, then its payload

-- where the header of a submessage stands, reading goes by its id and its length
pub read_payload : (s : List ℕ) (at id len : ℕ) → at + 4 ≤ length s → get_or s at 0 ≡ id → word_at s (at + 2) ≡ len → read_at s at ≡ payload_at s id (at + 4) len
unfolding read_at sub_header_of
read_payload s at id len h i l = rw (← sub_header_there s at h, i, l)

pub read_short : (s : List ℕ) (at : ℕ) → length s < at + 4 → Err BufferTooShort ≡ read_at s at
unfolding read_at
read_short s at h = rw (← sub_header_short s at h)

read_behind : (s : List ℕ) (at : ℕ) (q : Result SubmessageHeader Refusal) → sub_header_read s at ≡ q → (m : Submessage) (x : Span) (c : Cursor)
    → behind s at q ≡ Ok (m, x, c) → Placed s at x c
read_behind s at (Ok h) e m x c d =
    let k = payload_placed s h.submessage_id (at + 4) h.length m x c d in
    placed s at (at + 4) h.length m x c refl k.0 k.1
read_behind s at (Err r) e m x c d = let z : ◌≡◌ {A = ℕ} 0 1 = cc in absurd (omega arith)

pub read_placed : (s : List ℕ) (at : ℕ) (m : Submessage) (x : Span) (c : Cursor) → read_at s at ≡ Ok (m, x, c) → Placed s at x c
unfolding read_at
read_placed s at m x c e = read_behind s at (sub_header_read s at) refl m x c e

-- ---- the submessages of a datagram, one at a time

onward_same : (s : List ℕ) (at : ℕ) (f g : ℕ → Items) → ((n : ℕ) → at < n → f n ≡ g n) → (q : Result (Submessage × Span × Cursor) Refusal) → read_at s at ≡ q → onward q f ≡ onward q g
onward_same s at f g same (Ok (m, x, c)) e = rw (same c.at (omega (arith, (read_placed s at m x c e).ahead)))
onward_same s at f g same (Err r) e = refl

-- any count that is large enough gives the same
fuel : (s : List ℕ) (f g at : ℕ) → length s - at ≤ f → length s - at ≤ g → items_in f s at ≡ items_in g s at
unfolding items_in
fuel s zero zero at hf hg = refl
fuel s zero (suc g) at hf hg = rw (le-ltb at (length s) (omega arith))
fuel s (suc f) zero at hf hg = rw (le-ltb at (length s) (omega arith))
fuel s (suc f) (suc g) at hf hg =
    elim (dec_le (length s) at) [
      | yes h ↦ rw (le-ltb at (length s) h)
      | no h ↦
          rw (lt-ltb at (length s) (lt_of_not-le h))
          (onward_same s at (items_in f s) (items_in g s) (λ n k. fuel s f g n (omega arith) (omega arith)) (read_at s at) refl)
    ]

pub items_end : (s : List ℕ) (at : ℕ) → length s ≤ at → items_at s at ≡ items []
unfolding items_at items_in
items_end s at h = let e : length s - at ≡ 0 = omega arith in rw e

pub items_more : (s : List ℕ) (at : ℕ) → at < length s → items_at s at ≡ onward (read_at s at) (items_at s)
unfolding items_at items_in
items_more s at h =
    let n = length s - (at + 1) in
    let e : length s - at ≡ suc n = omega arith in
    rw (e, lt-ltb at (length s) h)
    (onward_same s at (items_in n s) (items_at s) (λ k j. fuel s n (length s - k) k (omega arith) (omega arith)) (read_at s at) refl)

-- ---- counting them

abbrev pub counted : MessageHeader → ℕ → Items → Result (MessageHeader × ℕ) Refusal
counted h n (items xs) = Ok (h, (n + length xs))
counted h n (stopped r) = Err r

pub counted_before : (h : MessageHeader) (n : ℕ) (x : Item) (i : Items) → counted h n (before x i) ≡ counted h (n + 1) i
counted_before h n x (items xs) = let e : n + suc (length xs) ≡ n + 1 + length xs = omega arith in rw e
counted_before h n x (stopped r) = refl

pub counted_none : (h : MessageHeader) (i : Items) → counted h 0 i ≡ checked_of (under h i)
counted_none h (items xs) = let e : 0 + length xs ≡ length xs = omega arith in rw e
counted_none h (stopped r) = refl

-- a turn of the count: a submessage more, or the refusal of the whole
pub counted_sub : (h : MessageHeader) (s : List ℕ) (at n : ℕ) (m : Submessage) (x : Span) (c : Cursor) → at < length s → read_at s at ≡ Ok (m, x, c)
    → counted h n (items_at s at) ≡ counted h (n + 1) (items_at s c.at)
counted_sub h s at n m x c k e = rw (items_more s at k, e) (counted_before h n _ (items_at s c.at))

pub counted_stopped : (h : MessageHeader) (s : List ℕ) (at n : ℕ) (r : Refusal) → at < length s → read_at s at ≡ Err r
    → counted h n (items_at s at) ≡ Err r
counted_stopped h s at n r k e = rw (items_more s at k, e)

pub counted_end : (h : MessageHeader) (s : List ℕ) (at n : ℕ) → length s ≤ at → counted h n (items_at s at) ≡ Ok (h, n)
counted_end h s at n k = let e : n + 0 ≡ n = omega arith in rw (items_end s at k, e)

-- ---- the check of a whole datagram

pub check_short : (s : List ℕ) → length s ≤ 4 → Err BufferTooShort ≡ check_of s
unfolding check_of message_of
check_short s h = rw (le-leb (length s) 4 h)

pub check_more : (s : List ℕ) → 4 < length s → count_at (header_of s) s 4 ≡ check_of s
unfolding check_of message_of count_at
check_more s h = rw (lt-leb (length s) 4 h)
