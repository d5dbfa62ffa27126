-- The lines of a datagram, a submessage at a time: how the listing goes on, and what the codec's check tells of it.
use Prim.Native.Nat.{ℕ, ◌+◌, ◌-◌}
use mathlib.Core.Path.{ap, ◌≡◌, refl, sym, ◌∙◌}
use mathlib.Core.Bool.{Bool, true, false, cond}
use mathlib.Core.List.{List, [], ◌∷◌, ◌++◌, append_assoc, append-nil}
use native.Mathlib.Decide.{dec_le}
use native.Mathlib.Nat.{lt_of_not-le}
use native.Mathlib.Omega.{arith}
use lib.Dec.{leb}
use lib.ListN.{length}
use Rattle.codec.specs.Header.{header_of}
use Rattle.codec.specs.Refusals.{number_of}
use Rattle.codec.specs.Submessages.{id_of}
use Rattle.codec.specs.Reading.{Item, Items, items, stopped, before, items_at, read_at, refused, under, message_of, checked_of, check_of}
use Rattle.codec.specs.declared.header.MessageHeader.{MessageHeader}
use Rattle.codec.specs.declared.layouts.Span.{Span}
use Rattle.codec.specs.declared.layouts.Cursor.{Cursor}
use Rattle.codec.specs.declared.refusals.Refusal.{Refusal}
use Rattle.codec.specs.declared.refusals.Refusal.TheVariants.{BufferTooShort}
use Rattle.codec.specs.declared.submessages.Submessage.{Submessage}
use Rattle.codec.proofs.reading.Laws.{items_more, items_end, read_placed}
use Rattle.listing.specs.Text.{Adds}
use Rattle.listing.specs.declared.text.Page.{Page}
use Rattle.listing.specs.Lines.{line_of, header_word, sub_word, end_word, refused_word, sub_line, sub_lines, shown, lines_of, listed}
use Rattle.listing.proofs.text.Laws.{adds_none, adds_then}
use Rattle.std.specs.Prelude.{Err, Ok}

-- ---- the submessages, a line for each

-- a listing that has come to `here`: what is left, what is added, and that both make the whole
pub record Going (s : List ℕ) (start page : Page) (here : ℕ) : Type 0 where
  pub rest : List Item
  pub done : List ℕ
  pub left : items_at s here ≡ items rest
  pub adds : Adds start done page
  pub whole : done ++ sub_lines here rest ≡ sub_lines 4 (listed (items_at s 4))

pub going_none : (s : List ℕ) (start : Page) → items_at s 4 ≡ items (listed (items_at s 4)) → Going s start start 4
going_none s start h = record { rest = listed (items_at s 4); done = []; left = h; adds = adds_none start; whole = refl }

pub before_items : (x : Item) (i : Items) (rest : List Item) → before x i ≡ items rest → (i ≡ items (listed i)) × (rest ≡ x ∷ listed i)
before_items x (items xs) rest e = (refl, cc)
before_items x (stopped r) rest e = let z : ◌≡◌ {A = ℕ} 0 1 = cc in absurd (omega arith)

module _ (s : List ℕ) (start page : Page) (here : ℕ) (g : Going s start page here) where
  pub going_sub : (m : Submessage) (x : Span) (c : Cursor) (next : Page) → read_at s here ≡ Ok (m, x, c)
      → Adds page (line_of sub_word (id_of m ∷ here ∷ (c.at - (here + 4)) ∷ [])) next → Going s start next c.at
  unfolding sub_line sub_lines
  going_sub m x c next e f =
      let p = read_placed s here m x c e in
      let i : Item = record { says = m; span = x } in
      let more : before i (items_at s c.at) ≡ items g.rest = sym (rw e at (items_more s here (omega arith))) ∙ g.left in
      let split = before_items i (items_at s c.at) g.rest more in
      let line : Adds page (sub_line here i) next = rw p.closed f in
      let same : (g.done ++ sub_line here i) ++ sub_lines c.at (listed (items_at s c.at)) ≡ g.done ++ sub_lines here g.rest
      = append_assoc g.done (sub_line here i) _ ∙ rw (split.1, p.closed) in
      record {
        rest = listed (items_at s c.at);
        done = g.done ++ sub_line here i;
        left = split.0;
        adds = adds_then g.adds line;
        whole = same ∙ g.whole;
      }

  -- a datagram that is accepted has no submessage that is refused, so where none is read, it ends
  pub going_end : (r : Refusal) → read_at s here ≡ Err r → Adds start (sub_lines 4 (listed (items_at s 4))) page
  unfolding sub_lines
  going_end r e =
      elim (dec_le (length s) here) [
        | yes k ↦
            let none : items [] ≡ items g.rest = sym (items_end s here k) ∙ g.left in
            let last : g.rest ≡ [] = cc in
            let all : g.done ≡ sub_lines 4 (listed (items_at s 4)) = sym (append-nil g.done) ∙ rw last at g.whole in
            rw all at g.adds
        | no k ↦
            let stop : items_at s here ≡ stopped r = rw e at (items_more s here (lt_of_not-le k)) in
            let z : ◌≡◌ {A = ℕ} 0 1 = cc g.left in
            absurd (omega arith)
      ]

-- ---- what the check tells

-- the lines of a message of `n` submessages `xs`
abbrev pub message_lines : MessageHeader → List Item → ℕ → List ℕ
message_lines h xs n =
    line_of header_word (h.session_id ∷ h.stream_id ∷ h.sequence_nr ∷ [])
    ++ (sub_lines 4 xs ++ line_of end_word (n ∷ []))

accepted_is : (g h : MessageHeader) (n : ℕ) (short : Bool) (i : Items)
    → checked_of (cond short (refused BufferTooShort) (under g i)) ≡ Ok (h, n)
    → (i ≡ items (listed i)) × (shown (cond short (refused BufferTooShort) (under g i)) ≡ message_lines h (listed i) n)
accepted_is g h n true i e = let z : ◌≡◌ {A = ℕ} 0 1 = cc in absurd (omega arith)
accepted_is g h n false (items xs) e =
    let both : ◌≡◌ {A = MessageHeader × ℕ} (g, length xs) (h, n) = cc in
    (refl, rw (ap (λ (p : MessageHeader × ℕ). p.0) both, ap (λ (p : MessageHeader × ℕ). p.1) both))
accepted_is g h n false (stopped r) e = let z : ◌≡◌ {A = ℕ} 0 1 = cc in absurd (omega arith)

refused_is : (g : MessageHeader) (short : Bool) (i : Items) (r : Refusal)
    → checked_of (cond short (refused BufferTooShort) (under g i)) ≡ Err r
    → shown (cond short (refused BufferTooShort) (under g i)) ≡ line_of refused_word (number_of r ∷ [])
refused_is g true i r e = let k : BufferTooShort ≡ r = cc in rw (← k)
refused_is g false (items xs) r e = let z : ◌≡◌ {A = ℕ} 0 1 = cc in absurd (omega arith)
refused_is g false (stopped q) r e = let k : q ≡ r = cc in rw k

pub check_accepts : (s : List ℕ) (h : MessageHeader) (n : ℕ) → check_of s ≡ Ok (h, n)
    → (items_at s 4 ≡ items (listed (items_at s 4))) × (lines_of s ≡ message_lines h (listed (items_at s 4)) n)
unfolding check_of message_of lines_of
check_accepts s h n e = accepted_is (header_of s) h n (leb (length s) 4) (items_at s 4) e

pub check_refuses : (s : List ℕ) (r : Refusal) → check_of s ≡ Err r → lines_of s ≡ line_of refused_word (number_of r ∷ [])
unfolding check_of message_of lines_of
check_refuses s r e = refused_is (header_of s) (leb (length s) 4) (items_at s 4) r e
