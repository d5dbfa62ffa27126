-- The submessages of a datagram from a place on: what the header of one that is read says; those of an id, ACKNACKs or FRAGMENTs, counted one header at a time, and no more of them than
-- submessages.
use Prim.Native.Nat.{ℕ, zero, suc, ◌+◌, ◌-◌, ◌≤◌, ◌<◌}
use mathlib.Core.Path.{◌≡◌, refl, sym, ap, ◌∙◌}
use mathlib.Core.Bool.{Bool, true, false, cond}
use mathlib.Core.List.{List, ◌∷◌}
use native.Mathlib.Decide.{dec_le}
use native.Mathlib.Nat.{lt_of_not-le}
use native.Mathlib.Omega.{arith}
use borrow.Author.Tests.{eqb-true, ltb-true, ltb-false, lt-ltb, le-ltb}
use mir.Val.{bool_byte}
use lib.Dec.{eqb, ltb}
use lib.ListN.{get_or, length}
use Rattle.codec.specs.Bytes.{word_at}
use Rattle.codec.specs.Layouts.{least_of, layout_at, create_at, create_of, status_at, status_of}
use Rattle.codec.specs.Submessages.{kind_of, code_of, id_of}
use Rattle.codec.specs.Reading.{payload_at, read_at, Item, Items, items, stopped, before, onward, items_at}
use Rattle.codec.specs.declared.layouts.Cursor.{Cursor}
use Rattle.codec.specs.declared.layouts.Span.{Span}
use Rattle.codec.specs.declared.submessages.Submessage.{Submessage}
use Rattle.codec.proofs.Either.{either}
use Rattle.codec.proofs.reading.Laws.{payload_placed, read_payload, read_short, items_more}
use Rattle.agent.specs.Host.{one_of, headers_in, headers_at, ids_at, unbound}
use Rattle.agent.specs.declared.judge.Start.{Start}
use Rattle.std.specs.Prelude.{Err, Ok, Result}
use Rattle.codec.specs.declared.submessages.ObjectKind.{ObjectKind}
use Rattle.codec.specs.declared.refusals.Refusal.{Refusal}
use Rattle.codec.specs.declared.submessages.StatusCode.{StatusCode}

-- ---- what the header of a submessage that is read says: its id is the submessage's own, and the next one begins behind its length

abbrev Own : ℕ → Result (Submessage × Span × Cursor) Refusal → Type 0
Own id (Ok (m, x, c)) = id ≡ id_of m
Own id (Err r) = Unit

module _ (s : List ℕ) (id p len : ℕ) where
  own_create : id ≡ 1 → (k : Result ObjectKind Refusal) → Own id (create_of s p len k)
  own_create e (Ok k) = e
  own_create e (Err r) = tt

  own_status : id ≡ 5 → (k : Result StatusCode Refusal) → Own id (status_of s p len k)
  own_status e (Ok k) = e
  own_status e (Err r) = tt

  own_layout : Own id (layout_at s id p len)
  unfolding layout_at create_at status_at
  own_layout =
      let E = Own id in
      either E (eqb id 0) _ _ (λ e. eqb-true id 0 e) (λ _.
      either E (eqb id 1) _ _ (λ e. own_create (eqb-true id 1 e) (kind_of _)) (λ _.
      either E (eqb id 2) _ _ (λ e. eqb-true id 2 e) (λ _.
      either E (eqb id 5) _ _ (λ e. own_status (eqb-true id 5 e) (code_of _)) (λ _.
      either E (eqb id 7) _ _ (λ e. eqb-true id 7 e) (λ _.
      either E (eqb id 8) _ _ (λ e. eqb-true id 8 e) (λ _.
      either E (eqb id 9) _ _ (λ e. eqb-true id 9 e) (λ _.
      either E (eqb id 13) _ _ (λ e. eqb-true id 13 e) (λ _.
      either E (eqb id 14) _ _ (λ e. eqb-true id 14 e) (λ _.
      either E (eqb id 15) _ _ (λ e. eqb-true id 15 e) (λ _. tt))))))))))

  own_payload : Own id (payload_at s id p len)
  unfolding payload_at
  own_payload =
      let E = Own id in
      either E (ltb (length s) (p + len)) _ _ (λ _. tt) (λ _.
      either E (eqb (least_of id) 255) _ _ (λ _. tt) (λ _.
      either E (ltb len (least_of id)) _ _ (λ _. tt) (λ _. own_layout)))

pub record Says (s : List ℕ) (at : ℕ) (m : Submessage) (c : Cursor) : Type 0 where
  pub own : get_or s at 0 ≡ id_of m
  pub next : c.at ≡ at + 4 + word_at s (at + 2)
  pub within : c.at ≤ length s

pub read_says_lem : (s : List ℕ) (at : ℕ) (m : Submessage) (x : Span) (c : Cursor) → read_at s at ≡ Ok (m, x, c) → Says s at m c
read_says_lem s at m x c e =
    let id = get_or s at 0 in
    let len = word_at s (at + 2) in
    elim (dec_le (at + 4) (length s)) [
      | yes h ↦
          let laid : payload_at s id (at + 4) len ≡ Ok (m, x, c) = sym (read_payload s at id len h refl refl) ∙ e in
          let k = payload_placed s id (at + 4) len m x c laid in
          let fits = k.0 in
          let next = k.1.0 in
          record { own = rw laid at (own_payload s id (at + 4) len); next = next; within = omega (arith, next, fits) }
      | no h ↦ let z : ◌≡◌ {A = ℕ} 0 1 = cc (read_short s at (lt_of_not-le h)) in absurd (omega arith)
    ]

-- ---- the count

-- the items behind the first
pub item_first : (x : Item) (i : Items) (ys : List Item) → before x i ≡ items ys → (zs : List Item) × (i ≡ items zs) × (length ys ≡ suc (length zs))
item_first x (items zs) ys e = let p : x ∷ zs ≡ ys = cc in (zs, refl, sym (ap length p))
item_first x (stopped r) ys e = let z : ◌≡◌ {A = ℕ} 0 1 = cc in absurd (omega arith)

pub one_few : (id b : ℕ) → one_of id b ≤ 1
one_few id b = go (eqb b id)
  where
    go : (c : Bool) → cond c 1 0 ≤ 1
    go true = omega arith
    go false = omega arith

-- the code's answer for one
pub one_byte : (id b n : ℕ) → n ≡ bool_byte (eqb b id) → n ≡ one_of id b
one_byte id b n e = e ∙ elim (eqb b id) as (λ c. bool_byte c ≡ cond c 1 0) [ true ↦ refl | false ↦ refl ]

-- where the next submessage begins
abbrev pub next : List ℕ → ℕ → ℕ
next d at = at + 4 + word_at d (at + 2)

-- over the headers, one after the other
module _ (one : ℕ → ℕ → ℕ) (none : ℕ) (d : List ℕ) where
  in_end : (n at : ℕ) → length d < at + 4 → headers_in one none n d at ≡ none
  unfolding headers_in
  in_end zero at h = refl
  in_end (suc n) at h = rw (lt-ltb (length d) (at + 4) h)

  in_more : (n at : ℕ) → at + 4 ≤ length d → headers_in one none (suc n) d at ≡ one at (headers_in one none n d (next d at))
  unfolding headers_in
  in_more n at h = rw (le-ltb (length d) (at + 4) h)

  -- any count that is large enough gives the same
  fuel : (k j at : ℕ) → length d - at ≤ k → length d - at ≤ j → headers_in one none k d at ≡ headers_in one none j d at
  fuel zero j at hk hj = let h : length d < at + 4 = omega arith in in_end zero at h ∙ sym (in_end j at h)
  fuel (suc k) zero at hk hj = let h : length d < at + 4 = omega arith in in_end (suc k) at h ∙ sym (in_end zero at h)
  fuel (suc k) (suc j) at hk hj = go (ltb (length d) (at + 4)) refl (λ p a b. fuel k j p a b)
    where
      go : (b : Bool) → ltb (length d) (at + 4) ≡ b → ((p : ℕ) → length d - p ≤ k → length d - p ≤ j → headers_in one none k d p ≡ headers_in one none j d p)
          → headers_in one none (suc k) d at ≡ headers_in one none (suc j) d at
      go true e same = let h = ltb-true (length d) (at + 4) e in in_end (suc k) at h ∙ sym (in_end (suc j) at h)
      go false e same =
          let h = ltb-false (length d) (at + 4) e in
          in_more k at h ∙ (ap (one at) (same (next d at) (omega (arith, h, hk)) (omega (arith, h, hj))) ∙ sym (in_more j at h))

  pub headers_end : (at : ℕ) → length d < at + 4 → headers_at one none d at ≡ none
  headers_end at h = in_end (length d - at) at h

  pub headers_more : (at : ℕ) → at + 4 ≤ length d → headers_at one none d at ≡ one at (headers_at one none d (next d at))
  headers_more at h =
      let n = length d - (at + 1) in
      let s : length d - at ≡ suc n = omega (arith, h) in
      ap (λ (m : ℕ). headers_in one none m d at) s
      ∙ (in_more n at h ∙ ap (one at) (fuel n (length d - next d at) (next d at) (omega arith) (omega arith)))

  -- where a submessage is read, those from it on are it and those behind it
  pub headers_read : (at : ℕ) (m : Submessage) (x : Span) (c : Cursor) → read_at d at ≡ Ok (m, x, c) → headers_at one none d at ≡ one at (headers_at one none d c.at)
  headers_read at m x c e =
      let k = read_says_lem d at m x c e in
      let n = k.next in
      let w = k.within in
      headers_more at (omega (arith, n, w)) ∙ ap (λ (p : ℕ). one at (headers_at one none d p)) (sym n)

module _ (id : ℕ) (d : List ℕ) where
  -- whether one stands at a place
  abbrev pub one_at : ℕ → ℕ
  one_at at = one_of id (get_or d at 0)

  -- it, and those behind it
  abbrev more : ℕ → ℕ → ℕ
  more at n = one_at at + n

  pub ids_read : (at : ℕ) (m : Submessage) (x : Span) (c : Cursor) → read_at d at ≡ Ok (m, x, c) → ids_at id d at ≡ one_at at + ids_at id d c.at
  ids_read at m x c e = headers_read more 0 d at m x c e

  -- no more than submessages
  in_few : (n at : ℕ) (ys : List Item) → items_at d at ≡ items ys → headers_in more 0 n d at ≤ length ys
  unfolding headers_in
  in_few zero at ys i = omega arith
  in_few (suc n) at ys i = go (ltb (length d) (at + 4)) refl (λ p zs j. in_few n p zs j)
    where
      Rest : Type 0
      Rest = (p : ℕ) (zs : List Item) → items_at d p ≡ items zs → headers_in more 0 n d p ≤ length zs

      by : (q : Result (Submessage × Span × Cursor) Refusal) → read_at d at ≡ q → onward q (items_at d) ≡ items ys → Rest → one_at at + headers_in more 0 n d (next d at) ≤ length ys
      by (Ok (m, x, c)) e j rest =
          let k = item_first _ (items_at d c.at) ys j in
          let a = rest (next d at) k.0 (ap (items_at d) (sym (read_says_lem d at m x c e).next) ∙ k.1) in
          let b = one_few id (get_or d at 0) in
          let l = k.2 in
          omega (arith, a, b, l)
      by (Err x) e j rest = let z : ◌≡◌ {A = ℕ} 0 1 = cc in absurd (omega arith)

      go : (b : Bool) → ltb (length d) (at + 4) ≡ b → Rest → headers_in more 0 (suc n) d at ≤ length ys
      go true e rest = let s = in_end more 0 d (suc n) at (ltb-true (length d) (at + 4) e) in omega (arith, s)
      go false e rest =
          let h = ltb-false (length d) (at + 4) e in
          let s = in_more more 0 d n at h in
          let a = by (read_at d at) refl (sym (items_more d at (omega (arith, h))) ∙ i) rest in
          omega (arith, s, a)

  pub ids_few : (at : ℕ) (ys : List Item) → items_at d at ≡ items ys → ids_at id d at ≤ length ys
  ids_few at ys i = in_few (length d - at) at ys i

  -- the loop: those counted so far and those from here on are all
  module _ (from at n : ℕ) (all : n + ids_at id d at ≡ ids_at id d from) where
    pub ids_again : at + 4 ≤ length d → n ≤ at → (k : ℕ) → k ≡ one_at at → k ≤ 1 → (l : ℕ) → l ≡ word_at d (at + 2)
        → (n + k + ids_at id d (at + 4 + l) ≡ ids_at id d from) × (n + k ≤ at + 4 + l)
    ids_again h low k q few l e =
        let m = headers_more more 0 d at h in
        let s = ap (λ (j : ℕ). ids_at id d (at + 4 + j)) e in
        (omega (arith, all, m, q, s), omega (arith, low, few))

    pub ids_done : length d < at + 4 → n ≡ ids_at id d from
    ids_done h = let e = headers_end more 0 d at h in omega (arith, all, e)

-- whether an ACKNACK, 0x0E, stands at a place
abbrev pub asks_at : List ℕ → ℕ → ℕ
asks_at d at = one_at 0x0E d at

-- what has a bound: no rebuilt submessage waits, and no FRAGMENT, 0x0F, stands from the place on
module _ (x : Start) (d : List ℕ) where
  pub is_bound : unbound x d ≡ false → (x.left_at ≡ x.left_end) × (ids_at 0x0F d x.at ≡ 0)
  is_bound e = go (eqb x.left_at x.left_end) refl e
    where
      go : (b : Bool) → eqb x.left_at x.left_end ≡ b → cond b (ltb 0 (ids_at 0x0F d x.at)) true ≡ false → (x.left_at ≡ x.left_end) × (ids_at 0x0F d x.at ≡ 0)
      go true q z = let h = ltb-false 0 (ids_at 0x0F d x.at) z in (eqb-true x.left_at x.left_end q, omega (arith, h))
      go false q z = let n : ◌≡◌ {A = ℕ} 0 1 = cc in absurd (omega (arith, n))
