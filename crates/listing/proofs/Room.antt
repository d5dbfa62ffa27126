-- The room that the lines of a datagram need: 22 bytes for each submessage and 35 besides, where its length has five digits at most.
use Prim.Native.Nat.{ℕ, ◌+◌, ◌-◌, ◌*◌, ◌≤◌, ◌<◌}
use mathlib.Core.Path.{◌≡◌, refl, sym, ap}
use mathlib.Core.List.{List, [], ◌∷◌, ◌++◌}
use native.Mathlib.Omega.{arith}
use borrow.Author.Tests.{leb-false}
use lib.Dec.{leb}
use lib.ListN.{length, length-append}
use Rattle.codec.specs.Answers.{written_answer}
use Rattle.codec.specs.Bytes.{AllBytes}
use Rattle.codec.specs.Header.{header_of}
use Rattle.codec.specs.Refusals.{number_of}
use Rattle.codec.specs.Submessages.{id_of}
use Rattle.codec.specs.Reading.{Item, Message, message, refused, items_at, message_of}
use Rattle.codec.specs.declared.header.MessageHeader.{MessageHeader}
use Rattle.codec.specs.declared.refusals.Refusal.{Refusal}
use Rattle.codec.specs.declared.refusals.Refusal.TheVariants.{BufferTooShort, UnknownSubmessageId, UnknownObjectKind, UnknownStatusCode, PayloadLengthMismatch, SessionFull, FragmentSizeZero, EmptyPayload, TooManyFragments, FragmentNumber, MissingFragments, TooLong, OutputTooShort, StoreFull, OutOfTurn, OverLimit, NotInFragments, IllFormed, WindowFault, NoSuchMinute}
use Rattle.codec.specs.declared.submessages.Submessage.{Submessage}
use Rattle.codec.specs.declared.submessages.Submessage.TheVariants.{CreateClient, Create, Delete, Status, WriteData, ReadData, Data, Heartbeat, Acknack, Fragment}
use Rattle.codec.proofs.Pieces.{byte_small, word_small}
use Rattle.codec.proofs.bytes.Laws.{put_fits}
use Rattle.codec.proofs.reading.Laws.{read_placed}
use Rattle.std.proofs.lemmas.Fmt.{length-decimal-le}
use Rattle.listing.specs.Decimal.{decimal_of}
use Rattle.listing.specs.Lines.{fields_of, line_of, header_word, sub_word, end_word, refused_word, end_of, sub_line, sub_lines, lines_of, InOrder, LinesFit}
use Rattle.listing.proofs.Decimal.{decimal_same}
use Rattle.listing.proofs.InOrder.{message_is, lines_in_order}

-- ---- digits

five_digits : (n : ℕ) → n < 100000 → length (decimal_of n) ≤ 5
five_digits n h = rw (decimal_same n (omega arith)) (length-decimal-le 5 n (omega arith) h (omega arith))

-- ---- lines

abbrev AllSmall : List ℕ → Type 0
AllSmall [] = Unit
AllSmall (n ∷ ns) = (n < 100000) × AllSmall ns

fields_room : (ns : List ℕ) → AllSmall ns → length (fields_of ns) ≤ 6 * length ns
fields_room [] s = omega arith
fields_room (n ∷ ns) s =
    let d = five_digits n s.0 in
    let f = fields_room ns s.1 in
    rw (length-append (32 ∷ decimal_of n) (fields_of ns)) (omega arith)

line_room : (word ns : List ℕ) → AllSmall ns → length (line_of word ns) ≤ length word + 6 * length ns + 1
unfolding line_of
line_room word ns s =
    let f = fields_room ns s in
    rw (length-append word (fields_of ns ++ (10 ∷ [])), length-append (fields_of ns) (10 ∷ [])) (omega arith)

id_small : (m : Submessage) → id_of m < 100000
id_small (CreateClient p) = omega arith
id_small (Create p) = omega arith
id_small (Delete p) = omega arith
id_small (Status p) = omega arith
id_small (WriteData p) = omega arith
id_small (ReadData p) = omega arith
id_small (Data p) = omega arith
id_small (Heartbeat p) = omega arith
id_small (Acknack p) = omega arith
id_small (Fragment p) = omega arith

number_small : (r : Refusal) → number_of r < 100000
number_small BufferTooShort = omega arith
number_small (UnknownSubmessageId b) = omega arith
number_small (UnknownObjectKind b) = omega arith
number_small (UnknownStatusCode b) = omega arith
number_small PayloadLengthMismatch = omega arith
number_small SessionFull = omega arith
number_small FragmentSizeZero = omega arith
number_small EmptyPayload = omega arith
number_small TooManyFragments = omega arith
number_small FragmentNumber = omega arith
number_small MissingFragments = omega arith
number_small TooLong = omega arith
number_small OutputTooShort = omega arith
number_small StoreFull = omega arith
number_small OutOfTurn = omega arith
number_small OverLimit = omega arith
number_small NotInFragments = omega arith
number_small IllFormed = omega arith
number_small WindowFault = omega arith
number_small NoSuchMinute = omega arith

-- a submessage has 4 bytes at least, and its line 22 at most
subs_room : (s : List ℕ) → length s < 100000 → (at : ℕ) (xs : List Item) → at ≤ length s → InOrder s at xs
    → (length (sub_lines at xs) ≤ 22 * length xs) × (4 * length xs + at ≤ length s)
unfolding sub_line sub_lines
subs_room s small at [] within o = (omega arith, omega arith)
subs_room s small at (x ∷ xs) within o =
    let p = read_placed s at x.says x.span (record { at = end_of x }) o.0 in
    let ahead : at + 4 ≤ end_of x = p.ahead in
    let inside : end_of x ≤ length s = p.within in
    let r = subs_room s small (end_of x) xs inside o.1 in
    let ns = id_of x.says ∷ at ∷ (end_of x - (at + 4)) ∷ [] in
    let l = line_room sub_word ns (id_small x.says, (omega arith, (omega arith, tt))) in
    (rw (length-append (line_of sub_word ns) (sub_lines (end_of x) xs)) (omega (arith, l, r.0)), omega (arith, r.1))

module _ (s : List ℕ) (bytes : AllBytes s) (small : length s < 100000) where
  header_is : (h : MessageHeader) (xs : List Item) → message_of s ≡ message h xs → (4 < length s) × (header_of s ≡ h)
  unfolding message_of
  header_is h xs e =
      let t = message_is (header_of s) h xs (leb (length s) 4) (items_at s 4) e in
      (leb-false (length s) 4 t.0, t.1.0)

  header_small : AllSmall ((header_of s).session_id ∷ (header_of s).stream_id ∷ (header_of s).sequence_nr ∷ [])
  unfolding header_of
  header_small = (omega (arith, byte_small s bytes 0), (omega (arith, byte_small s bytes 1), (omega (arith, word_small s bytes 2), tt)))

  room_of : (m : Message) → message_of s ≡ m → 4 * length (lines_of s) ≤ 22 * length s + 140
  unfolding lines_of
  room_of (message h xs) e =
      let o = lines_in_order s h xs e in
      let k = header_is h xs e in
      let r = subs_room s small 4 xs (omega (arith, k.0)) o.1 in
      let ns = h.session_id ∷ h.stream_id ∷ h.sequence_nr ∷ [] in
      let a = line_room header_word ns (rw k.1 at header_small) in
      let z = line_room end_word (length xs ∷ []) (omega (arith, r.1), tt) in
      rw (o.0, length-append (line_of header_word ns) (sub_lines 4 xs ++ line_of end_word (length xs ∷ [])), length-append (sub_lines 4 xs) (line_of end_word (length xs ∷ [])))
      (omega (arith, a, z, r.0, r.1))
  room_of (refused r) e = let l = line_room refused_word (number_of r ∷ []) (number_small r, tt) in rw e (omega arith)

  lines_room : 4 * length (lines_of s) ≤ 22 * length s + 140
  lines_room = room_of (message_of s) refl

pub lines_fit : LinesFit
lines_fit s out bytes small room =
    let r = lines_room s bytes small in
    ap written_answer (sym (put_fits out 0 (lines_of s) (omega arith)).0)
