-- The rows of a datagram, a submessage at a time: how writing them goes on, and what the codec's check tells of them.
use Prim.Native.Nat.{ℕ, suc, ◌+◌, ◌≤◌, ◌<◌}
use mathlib.Core.Path.{◌≡◌, refl, sym, ap, ◌∙◌}
use mathlib.Core.Bool.{Bool, true, false, cond}
use mathlib.Core.List.{List, [], ◌∷◌, ◌++◌, append_assoc}
use native.Mathlib.Decide.{dec_le}
use native.Mathlib.Nat.{lt_of_not-le}
use native.Mathlib.Numerals.{add-one}
use native.Mathlib.Omega.{arith}
use borrow.Author.Tests.{lt-ltb, le-ltb}
use lib.Dec.{leb}
use lib.ListN.{length, take, drop, set, length-set, take-append-drop}
use lib.Seq.{take-suc-set, drop-set-lt}
use Rattle.codec.specs.Answers.{gives, refused_as, refusal}
use Rattle.codec.specs.Header.{header_of}
use Rattle.codec.specs.Reading.{Item, Items, items, stopped, before, items_at, read_at, message, refused, under, message_of, checked_of, check_of}
use Rattle.codec.specs.declared.header.MessageHeader.{MessageHeader}
use Rattle.codec.specs.declared.layouts.Span.{Span}
use Rattle.codec.specs.declared.layouts.Cursor.{Cursor}
use Rattle.codec.specs.declared.refusals.Refusal.{Refusal}
use Rattle.codec.specs.declared.refusals.Refusal.TheVariants.{BufferTooShort}
use Rattle.codec.specs.declared.submessages.Submessage.{Submessage}
use Rattle.codec.proofs.reading.Laws.{items_more, items_end, read_placed}
use Rattle.cwire.specs.Answer.{packed}
use Rattle.cwire.specs.Rows.{row_of, rows_from, rows_put, listed, parse_of, parse_rows}
use Rattle.std.specs.Prelude.{Err, Ok}

-- ---- the rows, one for each submessage

-- the first `n` rows as they are, then `more`, then the rows behind the next `k`
abbrev pub laid : List (List ℕ) → ℕ → List (List ℕ) → ℕ → List (List ℕ)
laid rows n more k = take n rows ++ (more ++ drop (n + k) rows)

-- a row more
pub laid_row : (rows : List (List ℕ)) (n : ℕ) (row : List ℕ) (more : List (List ℕ)) (k : ℕ) → n < length rows
    → laid (set rows n row) (n + 1) more k ≡ laid rows n (row ∷ more) (suc k)
laid_row rows n row more k h =
    let e : n + 1 + k ≡ n + suc k = omega arith in
    let t : take (n + 1) (set rows n row) ≡ take n rows ++ (row ∷ []) = rw (add-one n) (take-suc-set rows n row h) in
    rw (e, t, drop-set-lt (n + suc k) rows n row (omega arith)) (append_assoc (take n rows) (row ∷ []) (more ++ drop (n + suc k) rows))

-- writing that has come to `here` with `n` rows: what is left, and that both make the whole
pub record Going (s : List ℕ) (rows₀ rows : List (List ℕ)) (n here : ℕ) : Type 0 where
  pub left : items_at s here ≡ items (listed (items_at s here))
  pub room : n + length (listed (items_at s here)) ≤ length rows
  pub same : length rows ≡ length rows₀
  pub whole : laid rows n (rows_from here (listed (items_at s here))) (length (listed (items_at s here))) ≡ rows_put rows₀ (listed (items_at s 4))

pub going_none : (s : List ℕ) (rows : List (List ℕ)) → items_at s 4 ≡ items (listed (items_at s 4)) → length (listed (items_at s 4)) ≤ length rows
    → Going s rows rows 0 4
unfolding rows_put
going_none s rows h k =
    let e : 0 + length (listed (items_at s 4)) ≡ length (listed (items_at s 4)) = omega arith in
    record { left = h; room = omega arith; same = refl; whole = rw e }

before_items : (x : Item) (i : Items) → before x i ≡ items (listed (before x i)) → (i ≡ items (listed i)) × (listed (before x i) ≡ x ∷ listed i)
before_items x (items xs) e = (refl, refl)
before_items x (stopped r) e = let z : ◌≡◌ {A = ℕ} 0 1 = cc in absurd (omega arith)

module _ (s : List ℕ) (rows₀ rows : List (List ℕ)) (n here : ℕ) (g : Going s rows₀ rows n here) where
  -- a submessage that is read has a row
  pub inside : (m : Submessage) (x : Span) (c : Cursor) → read_at s here ≡ Ok (m, x, c) → n < length rows
  inside m x c e =
      let p = read_placed s here m x c e in
      let i : Item = record { says = m; span = x } in
      let more : items_at s here ≡ before i (items_at s c.at) = rw e at (items_more s here (omega arith)) in
      let one : listed (items_at s here) ≡ i ∷ listed (items_at s c.at) = ap listed more ∙ (before_items i (items_at s c.at) (rw more at g.left)).1 in
      omega (arith, rw one at g.room)

  -- a submessage that is read has a row, and the next one begins behind it
  pub going_sub : (m : Submessage) (x : Span) (c : Cursor) → read_at s here ≡ Ok (m, x, c) → Going s rows₀ (set rows n (row_of here m x)) (n + 1) c.at
  unfolding rows_from
  going_sub m x c e =
      let p = read_placed s here m x c e in
      let i : Item = record { says = m; span = x } in
      let more : items_at s here ≡ before i (items_at s c.at) = rw e at (items_more s here (omega arith)) in
      let split = before_items i (items_at s c.at) (rw more at g.left) in
      let one : listed (items_at s here) ≡ i ∷ listed (items_at s c.at) = ap listed more ∙ split.1 in
      let inside : n < length rows = omega (arith, rw one at g.room) in
      let was = rw (one, p.closed) at g.whole in
      record {
        left = split.0;
        room = rw (length-set rows n (row_of here m x)) (omega (arith, rw one at g.room));
        same = length-set rows n (row_of here m x) ∙ g.same;
        whole = laid_row rows n (row_of here m x) (rows_from c.at (listed (items_at s c.at))) (length (listed (items_at s c.at))) inside ∙ was;
      }

  -- no submessage is left: all rows are there
  going_none_left : listed (items_at s here) ≡ [] → rows ≡ rows_put rows₀ (listed (items_at s 4))
  unfolding rows_from
  going_none_left none = let e : n + 0 ≡ n = omega arith in sym (take-append-drop n rows) ∙ rw (none, e) at g.whole

  -- a datagram that is accepted has no submessage that is refused, so where none is read, it ends
  pub going_end : (r : Refusal) → read_at s here ≡ Err r → rows ≡ rows_put rows₀ (listed (items_at s 4))
  going_end r e =
      elim (dec_le (length s) here) [
        | yes k ↦ going_none_left (ap listed (items_end s here k))
        | no k ↦
            let stop : items_at s here ≡ stopped r = rw e at (items_more s here (lt_of_not-le k)) in
            let z : ◌≡◌ {A = ℕ} 0 1 = cc g.left in
            absurd (omega arith)
      ]

-- ---- what the check tells

-- of a datagram that is accepted: its submessages, their number, and what parsing it comes to
pub record Accepted (s : List ℕ) (n : ℕ) : Type 0 where
  pub all : items_at s 4 ≡ items (listed (items_at s 4))
  pub count : length (listed (items_at s 4)) ≡ n
  pub few : (rows : List (List ℕ)) → length rows < n → (packed (refused_as 13 0) ≡ parse_of s rows) × (rows ≡ parse_rows s rows)
  pub enough : (rows : List (List ℕ)) → n ≤ length rows
      → (packed (gives n) ≡ parse_of s rows) × (rows_put rows (listed (items_at s 4)) ≡ parse_rows s rows)

accepted_is : (g h : MessageHeader) (n : ℕ) (head : Bool) (i : Items) → checked_of (cond head (refused BufferTooShort) (under g i)) ≡ Ok (h, n)
    → (i ≡ items (listed i)) × ((length (listed i) ≡ n) × (cond head (refused BufferTooShort) (under g i) ≡ message g (listed i)))
accepted_is g h n true i e = let z : ◌≡◌ {A = ℕ} 0 1 = cc in absurd (omega arith)
accepted_is g h n false (items xs) e =
    let both : ◌≡◌ {A = MessageHeader × ℕ} (g, length xs) (h, n) = cc in
    (refl, (ap (λ (p : MessageHeader × ℕ). p.1) both, refl))
accepted_is g h n false (stopped r) e = let z : ◌≡◌ {A = ℕ} 0 1 = cc in absurd (omega arith)

pub check_accepts : (s : List ℕ) (h : MessageHeader) (n : ℕ) → check_of s ≡ Ok (h, n) → Accepted s n
unfolding check_of message_of parse_of parse_rows
check_accepts s h n e =
    let a = accepted_is (header_of s) h n (leb (length s) 4) (items_at s 4) e in
    record {
      all = a.0;
      count = a.1.0;
      few = λ rows k. (rw (a.1.1, a.1.0, lt-ltb (length rows) n k), rw (a.1.1, a.1.0, lt-ltb (length rows) n k));
      enough = λ rows k. (rw (a.1.1, a.1.0, le-ltb (length rows) n k), rw (a.1.1, a.1.0, le-ltb (length rows) n k));
    }

refused_is : (g : MessageHeader) (head : Bool) (i : Items) (r : Refusal) → checked_of (cond head (refused BufferTooShort) (under g i)) ≡ Err r
    → cond head (refused BufferTooShort) (under g i) ≡ refused r
refused_is g true i r e = let k : BufferTooShort ≡ r = cc in rw k
refused_is g false (items xs) r e = let z : ◌≡◌ {A = ℕ} 0 1 = cc in absurd (omega arith)
refused_is g false (stopped q) r e = let k : q ≡ r = cc in rw k

pub check_refuses : (s : List ℕ) (r : Refusal) (rows : List (List ℕ)) → check_of s ≡ Err r
    → (packed (refusal r) ≡ parse_of s rows) × (rows ≡ parse_rows s rows)
unfolding check_of message_of parse_of parse_rows
check_refuses s r rows e =
    let k = refused_is (header_of s) (leb (length s) 4) (items_at s 4) r e in
    (rw k, rw k)
