-- The `sub` lines of a datagram are those of the submessages that the codec reads: one for each, in their order, as many as `end` says.
use Prim.Native.Nat.{ℕ, ◌<◌}
use mathlib.Core.Path.{◌≡◌, refl, sym, ◌∙◌}
use mathlib.Core.Bool.{Bool, true, false, cond}
use mathlib.Core.List.{List, [], ◌∷◌}
use native.Mathlib.Decide.{dec_le}
use native.Mathlib.Nat.{lt_of_not-le}
use native.Mathlib.Omega.{arith}
use lib.Dec.{leb}
use lib.ListN.{length}
use Rattle.codec.specs.Header.{header_of}
use Rattle.codec.specs.Reading.{Item, Items, items, stopped, onward, items_at, read_at, message, refused, under, message_of}
use Rattle.codec.specs.declared.header.MessageHeader.{MessageHeader}
use Rattle.codec.specs.declared.refusals.Refusal.TheVariants.{BufferTooShort}
use Rattle.codec.proofs.reading.Laws.{items_more, items_end, read_placed}
use Rattle.listing.specs.Lines.{end_of, lines_of, listed, InOrder}
use Rattle.listing.proofs.message.Laws.{before_items, message_lines}
use Rattle.std.specs.Prelude.{Err, Ok, Result}
use Rattle.codec.specs.declared.layouts.Cursor.{Cursor}
use Rattle.codec.specs.declared.refusals.Refusal.{Refusal}
use Rattle.codec.specs.declared.layouts.Span.{Span}
use Rattle.codec.specs.declared.submessages.Submessage.{Submessage}

-- the first of the submessages from `at` on
record First (s : List ℕ) (at : ℕ) (xs : List Item) : Type 0 where
  item : Item
  rest : List Item
  split : xs ≡ item ∷ rest
  here : read_at s at ≡ Ok (item.says, item.span, (record { at = end_of item }))
  onward_from : items_at s (end_of item) ≡ items rest

first_of : (s : List ℕ) (at : ℕ) (q : Result (Submessage × Span × Cursor) Refusal) → read_at s at ≡ q → (xs : List Item) → onward q (items_at s) ≡ items xs → First s at xs
first_of s at (Ok (m, x, c)) e xs d =
    let i : Item = record { says = m; span = x } in
    let k = before_items i (items_at s c.at) xs d in
    let closed : end_of i ≡ c.at = (read_placed s at m x c e).closed in
    record { item = i; rest = listed (items_at s c.at); split = k.1; here = rw closed e; onward_from = rw closed k.0 }
first_of s at (Err r) e xs d = let z : ◌≡◌ {A = ℕ} 0 1 = cc in absurd (omega arith)

first : (s : List ℕ) (at : ℕ) (xs : List Item) → at < length s → items_at s at ≡ items xs → First s at xs
first s at xs h e = first_of s at (read_at s at) refl xs (sym (items_more s at h) ∙ e)

pub in_order : (s : List ℕ) (at : ℕ) (xs : List Item) → items_at s at ≡ items xs → InOrder s at xs
in_order s at [] e =
    elim (dec_le (length s) at) [
      | yes h ↦ h
      | no h ↦ let f = first s at [] (lt_of_not-le h) e in let z : ◌≡◌ {A = ℕ} 0 1 = cc f.split in absurd (omega arith)
    ]
in_order s at (x ∷ xs) e =
    elim (dec_le (length s) at) [
      | yes h ↦ let z : ◌≡◌ {A = ℕ} 0 1 = cc (items_end s at h) in absurd (omega arith)
      | no h ↦
          let f = first s at (x ∷ xs) (lt_of_not-le h) e in
          let same : f.item ≡ x = cc f.split in
          let rest : f.rest ≡ xs = cc f.split in
          (rw same at f.here, in_order s (end_of x) xs (rw (same, rest) at f.onward_from))
    ]

-- of what a datagram says: it has more than its header, which is that of the message, and its submessages are those of the message
pub message_is : (g h : MessageHeader) (xs : List Item) (short : Bool) (i : Items) → cond short (refused BufferTooShort) (under g i) ≡ message h xs
    → (short ≡ false) × ((g ≡ h) × (i ≡ items xs))
message_is g h xs true i e = let z : ◌≡◌ {A = ℕ} 0 1 = cc in absurd (omega arith)
message_is g h xs false (items ys) e = let k : ys ≡ xs = cc in (refl, (cc, rw k))
message_is g h xs false (stopped r) e = let z : ◌≡◌ {A = ℕ} 0 1 = cc in absurd (omega arith)

items_of : (s : List ℕ) (h : MessageHeader) (xs : List Item) → message_of s ≡ message h xs → items_at s 4 ≡ items xs
unfolding message_of
items_of s h xs e = (message_is (header_of s) h xs (leb (length s) 4) (items_at s 4) e).1.1

pub lines_in_order : (s : List ℕ) (h : MessageHeader) (xs : List Item) → message_of s ≡ message h xs
    → (lines_of s ≡ message_lines h xs (length xs)) × InOrder s 4 xs
unfolding lines_of
lines_in_order s h xs e = (rw e, in_order s 4 xs (items_of s h xs e))
