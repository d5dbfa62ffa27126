-- Bytes that the grammar allows are read as it says.
use Prim.Native.Nat.{ℕ, ◌+◌, ◌-◌, ◌≤◌, ◌<◌}
use mathlib.Core.Path.{◌≡◌, refl, sym, ap, ◌∙◌}
use mathlib.Core.List.{List, [], ◌∷◌, ◌++◌, map, append_assoc}
use native.Mathlib.Omega.{arith}
use borrow.Author.Tests.{le-leb, lt-leb}
use lib.ListN.{length, drop, length-append, length-drop}
use lib.Seq.{take_at}
use Rattle.codec.specs.Bytes.{le16, le32}
use Rattle.codec.specs.Header.{header_of, header_bytes}
use Rattle.codec.specs.Submessages.{id_of, kind_byte, kind_of, code_byte, code_of}
use Rattle.codec.specs.Layouts.{least_of, layout_at, create_at, status_at}
use Rattle.codec.specs.Reading.{Item, items, read_at, items_at, payload_at, part_of, message_of}
use Rattle.codec.specs.Writing.{fixed_bytes}
use Rattle.codec.specs.Grammar.{Said, Ranged, HeaderRanged, Bodied, Payload, bodied, plain, OneSub, one, Subs, none, next, IsMessage, whole, said_in, says, reading}
use Rattle.codec.specs.declared.header.MessageHeader.{MessageHeader}
use Rattle.codec.specs.declared.layouts.Span.{Span}
use Rattle.codec.specs.declared.submessages.ObjectKind.{ObjectKind}
use Rattle.codec.specs.declared.submessages.ObjectKind.TheVariants.{Participant, Topic, Publisher, Subscriber, DataWriter, DataReader}
use Rattle.codec.specs.declared.submessages.StatusCode.{StatusCode}
use Rattle.codec.specs.declared.submessages.StatusCode.TheVariants as status
use Rattle.codec.specs.declared.submessages.StatusCode.TheVariants.{ErrUnknownRef, ErrInvalidData, ErrIncompatible, ErrResources}
use Rattle.codec.specs.declared.submessages.Submessage.{Submessage}
use Rattle.codec.specs.declared.submessages.Submessage.TheVariants.{CreateClient, Create, Delete, Status, WriteData, ReadData, Data, Heartbeat, Acknack, Fragment}
use Rattle.codec.proofs.Pieces.{drop_behind, byte_back, word_back, quad_back}
use Rattle.codec.proofs.reading.Laws.{read_payload, payload_laid, items_end, items_more}
use Rattle.codec.proofs.writing.Laws.{length_fixed, least_small}
use Rattle.std.specs.Prelude.{Ok}

-- a kind's and a code's own byte reads back
kind_back : (k : ObjectKind) → kind_of (kind_byte k) ≡ Ok k
unfolding kind_of
kind_back Participant = refl
kind_back Topic = refl
kind_back Publisher = refl
kind_back Subscriber = refl
kind_back DataWriter = refl
kind_back DataReader = refl

code_back : (k : StatusCode) → code_of (code_byte k) ≡ Ok k
unfolding code_of
code_back status.Ok = refl
code_back ErrUnknownRef = refl
code_back ErrInvalidData = refl
code_back ErrIncompatible = refl
code_back ErrResources = refl

-- where the variable part of a submessage stands, in a payload of `len` bytes at `p`
abbrev span_of : Submessage → ℕ → ℕ → Span
span_of (Create q) p len = record { start = p + 5; len = len - 5 }
span_of (WriteData q) p len = record { start = p + 2; len = len - 2 }
span_of (Data q) p len = record { start = p + 2; len = len - 2 }
span_of (Fragment q) p len = record { start = p + 4; len = len - 4 }
span_of (CreateClient q) p len = record { start = p + len; len = 0 }
span_of (Delete q) p len = record { start = p + len; len = 0 }
span_of (Status q) p len = record { start = p + len; len = 0 }
span_of (ReadData q) p len = record { start = p + len; len = 0 }
span_of (Heartbeat q) p len = record { start = p + len; len = 0 }
span_of (Acknack q) p len = record { start = p + len; len = 0 }

-- a layout whose fixed bytes stand at `p` gives back what they were made of
laid : (m : Submessage) (s : List ℕ) (p len : ℕ) (l : List ℕ) → drop p s ≡ fixed_bytes m ++ l → Ranged m
    → layout_at s (id_of m) p len ≡ Ok (m, (span_of m p len), (record { at = p + len }))
unfolding layout_at fixed_bytes Ranged le16 le32 create_at status_at
laid (CreateClient q) s p len l e h =
    let four = le32 q.client_key in
    rw (quad_back s p q.client_key (q.properties ∷ l) e h.0, byte_back s (p + 4) q.properties l (drop_behind s p four (q.properties ∷ l) 4 e refl))
laid (Create q) s p len l e h =
    let o = le16 q.object_id.0 in
    let k = kind_byte q.kind in
    let rest = le16 q.parent_id ++ l in
    rw (byte_back s (p + 2) k rest (drop_behind s p o (k ∷ rest) 2 e refl), kind_back q.kind, word_back s p q.object_id.0 (k ∷ rest) e h.0, word_back s (p + 3) q.parent_id l (drop_behind s p (o ++ (k ∷ [])) rest 3 e refl) h.1)
laid (Delete q) s p len l e h = rw (word_back s p q.object_id.0 l e h)
laid (Status q) s p len l e h =
    let o = le16 q.related_object_id.0 in
    let k = code_byte q.status in
    rw (byte_back s (p + 2) k l (drop_behind s p o (k ∷ l) 2 e refl), code_back q.status, word_back s p q.related_object_id.0 (k ∷ l) e h)
laid (WriteData q) s p len l e h = rw (word_back s p q.writer_id.0 l e h)
laid (ReadData q) s p len l e h =
    let second = le16 q.max_samples ++ l in
    rw (word_back s p q.reader_id.0 second e h.0, word_back s (p + 2) q.max_samples l (drop_behind s p (le16 q.reader_id.0) second 2 e refl) h.1)
laid (Data q) s p len l e h = rw (word_back s p q.reader_id.0 l e h)
laid (Heartbeat q) s p len l e h =
    let second = le16 q.last_seq ++ l in
    rw (word_back s p q.first_unacked_seq second e h.0, word_back s (p + 2) q.last_seq l (drop_behind s p (le16 q.first_unacked_seq) second 2 e refl) h.1)
laid (Acknack q) s p len l e h =
    let second = le16 q.nack_bitmap ++ l in
    rw (word_back s p q.first_unacked_seq second e h.0, word_back s (p + 2) q.nack_bitmap l (drop_behind s p (le16 q.first_unacked_seq) second 2 e refl) h.1)
laid (Fragment q) s p len l e h =
    let second = le16 q.total_fragments ++ l in
    rw (word_back s p q.fragment_nr second e h.0, word_back s (p + 2) q.total_fragments l (drop_behind s p (le16 q.fragment_nr) second 2 e refl) h.1)

-- the span is behind the fixed bytes, or empty at the end
span_bodied : (m : Submessage) (p len : ℕ) → Bodied m → span_of m p len ≡ record { start = p + least_of (id_of m); len = len - least_of (id_of m) }
unfolding least_of
span_bodied (Create q) p len h = refl
span_bodied (WriteData q) p len h = refl
span_bodied (Data q) p len h = refl
span_bodied (Fragment q) p len h = refl
span_bodied (CreateClient q) p len h = absurd h
span_bodied (Delete q) p len h = absurd h
span_bodied (Status q) p len h = absurd h
span_bodied (ReadData q) p len h = absurd h
span_bodied (Heartbeat q) p len h = absurd h
span_bodied (Acknack q) p len h = absurd h

span_plain : (m : Submessage) (p len : ℕ) → (Bodied m → ⊥) → span_of m p len ≡ record { start = p + len; len = 0 }
span_plain (Create q) p len h = absurd (h tt)
span_plain (WriteData q) p len h = absurd (h tt)
span_plain (Data q) p len h = absurd (h tt)
span_plain (Fragment q) p len h = absurd (h tt)
span_plain (CreateClient q) p len h = refl
span_plain (Delete q) p len h = refl
span_plain (Status q) p len h = refl
span_plain (ReadData q) p len h = refl
span_plain (Heartbeat q) p len h = refl
span_plain (Acknack q) p len h = refl

-- the part that a span marks off, where those bytes stand
pub part_is : (s : List ℕ) (start len : ℕ) (body l : List ℕ) → drop start s ≡ body ++ l → length body ≡ len → start + len ≤ length s
    → part_of s (record { start = start; len = len }) ≡ body
unfolding part_of
part_is s start len body l e k h = rw (le-leb (start + len) (length s) h, e) (take_at body l len k)

module _ (s : List ℕ) (p : ℕ) (l : List ℕ) where
  body_back : (m : Submessage) (body payload : List ℕ) → Payload m body payload → drop p s ≡ payload ++ l → p + length payload ≤ length s
      → part_of s (span_of m p (length payload)) ≡ body
  body_back m body payload (bodied m' body' k) e h =
      let f = fixed_bytes m in
      let n = length-append f body in
      let least = length_fixed m in
      let d = drop_behind s p f (body ++ l) (least_of (id_of m)) (e ∙ append_assoc f body l) least in
      rw (span_bodied m p (length (f ++ body)) k)
      (part_is s (p + least_of (id_of m)) (length (f ++ body) - least_of (id_of m)) body l d (omega (arith, n, least)) (omega (arith, n, least, h)))
  body_back m body payload (plain m' ignored k) e h =
      let n = length (fixed_bytes m ++ ignored) in
      rw (span_plain m p n k) (part_is s (p + n) 0 [] (drop (p + n) s) refl refl (omega (arith, h)))

  -- the fixed bytes stand first
  fixed_first : (m : Submessage) (body payload : List ℕ) → Payload m body payload → drop p s ≡ payload ++ l → (rest : List ℕ) × (drop p s ≡ fixed_bytes m ++ rest) × (least_of (id_of m) ≤ length payload)
  fixed_first m body payload (bodied m' body' k) e =
      (body ++ l, e ∙ append_assoc (fixed_bytes m) body l, omega (arith, length-append (fixed_bytes m) body, length_fixed m))
  fixed_first m body payload (plain m' ignored k) e =
      (ignored ++ l, e ∙ append_assoc (fixed_bytes m) ignored l, omega (arith, length-append (fixed_bytes m) ignored, length_fixed m))

  payload_back : (m : Submessage) (body payload : List ℕ) → Payload m body payload → Ranged m → drop p s ≡ payload ++ l → p + length payload ≤ length s
      → payload_at s (id_of m) p (length payload) ≡ Ok (m, (span_of m p (length payload)), (record { at = p + length payload }))
  payload_back m body payload k r e h =
      let f = fixed_first m body payload k e in
      let listed : least_of (id_of m) ≡ 255 → ⊥ = λ z. omega (arith, z, least_small m) in
      sym (payload_laid s (id_of m) p (length payload) h listed f.2) ∙ laid m s p (length payload) f.0 f.1 r

-- a submessage at a place is read whole, and reading goes on behind it
record Back (s : List ℕ) (at : ℕ) (x : Said) (a : List ℕ) : Type 0 where
  span : Span
  read : read_at s at ≡ Ok (x.fields, span, (record { at = at + length a }))
  part : part_of s span ≡ x.body
  ahead : 4 ≤ length a
  within : at + length a ≤ length s

one_back : {x : Said} {a : List ℕ} (s : List ℕ) (at : ℕ) (l : List ℕ) → OneSub x a → drop at s ≡ a ++ l → at ≤ length s → Back s at x a
unfolding le16
one_back s at l (one m body payload flags r k small) e h =
    let head = id_of m ∷ flags ∷ le16 (length payload) in
    let n : length (head ++ payload) ≡ 4 + length payload = length-append head payload in
    let total : length s - at ≡ length (head ++ payload) + length l = sym (length-drop at s) ∙ ap length e ∙ length-append (head ++ payload) l in
    let e' : drop at s ≡ head ++ (payload ++ l) = e ∙ append_assoc head payload l in
    let id = byte_back s at (id_of m) (flags ∷ (le16 (length payload) ++ (payload ++ l))) e' in
    let behind = drop_behind s at (id_of m ∷ flags ∷ []) (le16 (length payload) ++ (payload ++ l)) 2 e' refl in
    let len = word_back s (at + 2) (length payload) (payload ++ l) behind small in
    let d = drop_behind s at head (payload ++ l) 4 e' refl in
    let fits : at + 4 + length payload ≤ length s = omega (arith, total, n) in
    let end : at + 4 + length payload ≡ at + length (head ++ payload) = omega (arith, n) in
    record {
      span = span_of m (at + 4) (length payload);
      read = rw (← end) (read_payload s at (id_of m) (length payload) (omega (arith, fits)) id len ∙ payload_back s (at + 4) l m body payload k r d fits);
      part = body_back s (at + 4) l m body payload k d fits;
      ahead = omega (arith, n);
      within = omega (arith, fits, n);
    }

-- the submessages of the grammar are those that are read
pub record Read (s : List ℕ) (at : ℕ) (xs : List Said) : Type 0 where
  pub found : List Item
  pub read : items_at s at ≡ items found
  pub said : map (said_in s) found ≡ xs

read_next : (s : List ℕ) (at : ℕ) (x : Said) (xs : List Said) (a : List ℕ) → Back s at x a → Read s (at + length a) xs → Read s at (x ∷ xs)
read_next s at x xs a o r =
    record {
      found = record { says = x.fields; span = o.span } ∷ r.found;
      read = items_more s at (omega (arith, o.ahead, o.within)) ∙ rw (o.read, r.read);
      said = rw (o.part, r.said);
    }

pub subs_back : {xs : List Said} {bytes : List ℕ} (s : List ℕ) (at : ℕ) → Subs xs bytes → drop at s ≡ bytes → at ≤ length s → Read s at xs
subs_back s at none e h =
    let n : length s - at ≡ 0 = sym (length-drop at s) ∙ ap length e in
    record { found = []; read = items_end s at (omega arith); said = refl }
subs_back s at (next {x} {xs} {a} {b} o r) e h =
    let one = one_back s at b o e h in
    read_next s at x xs a one (subs_back s (at + length a) r (drop_behind s at a b (length a) e refl) one.within)

header_back : (h : MessageHeader) (l : List ℕ) → HeaderRanged h → header_of (header_bytes h ++ l) ≡ h
unfolding header_of header_bytes HeaderRanged le16
header_back h l r = rw (word_back (header_bytes h ++ l) 2 h.sequence_nr l refl r.2)

one_long : {x : Said} {a : List ℕ} → OneSub x a → 4 ≤ length a
unfolding le16
one_long (one m body payload flags r k small) = omega (arith, length-append (id_of m ∷ flags ∷ le16 (length payload)) payload)

pub subs_long : {x : Said} {xs : List Said} {bytes : List ℕ} → Subs (x ∷ xs) bytes → 4 ≤ length bytes
subs_long (next {x} {xs} {a} {b} o r) = omega (arith, one_long o, length-append a b)

-- what the grammar allows is read so
pub complete : (s : List ℕ) (h : MessageHeader) (xs : List Said) → IsMessage h xs s → reading s ≡ says h xs
unfolding reading message_of header_bytes le16
complete s h xs (whole h' x ys bytes r k) =
    let all = header_bytes h ++ bytes in
    let read = subs_back all 4 k refl (omega arith) in
    let long : 4 < length all = omega (arith, subs_long k) in
    rw (lt-leb (length all) 4 long, read.read, header_back h bytes r, read.said)
