-- "1 to 5": a datagram is refused with one of these numbers, and with no other.
use Prim.Native.Nat.{ℕ, zero, suc, ◌+◌, ◌-◌, ◌≤◌}
use mathlib.Core.Path.{◌≡◌, subst}
use mathlib.Core.Bool.{Bool, true, false, cond}
use mathlib.Core.List.{List, []}
use native.Mathlib.Omega.{arith}
use lib.Dec.{eqb, leb, ltb}
use lib.ListN.{length, get_or}
use Rattle.codec.specs.Answers.{refused_as}
use Rattle.codec.specs.Grammar.{reading_of, reading}
use Rattle.codec.specs.Header.{header_of, sub_header_of, sub_header_read}
use Rattle.codec.specs.Layouts.{least_of, create_of, create_at, status_of, status_at, layout_at}
use Rattle.codec.specs.Reading.{Item, Items, items, stopped, before, onward, payload_at, behind, read_at, items_in, items_at, Message, message, refused, under, message_of}
use Rattle.codec.specs.Refusals.{number_of}
use Rattle.codec.specs.Submessages.{kind_of, code_of}
use Rattle.codec.specs.declared.header.MessageHeader.{MessageHeader}
use Rattle.codec.specs.declared.refusals.Refusal.TheVariants.{BufferTooShort}
use Rattle.std.specs.Prelude.{Err, Ok, Result}
use Rattle.codec.specs.declared.layouts.Cursor.{Cursor}
use Rattle.codec.specs.declared.submessages.ObjectKind.{ObjectKind}
use Rattle.codec.specs.declared.refusals.Refusal.{Refusal}
use Rattle.codec.specs.declared.layouts.Span.{Span}
use Rattle.codec.specs.declared.submessages.StatusCode.{StatusCode}
use Rattle.codec.specs.declared.submessages.Submessage.{Submessage}

pub record OfWire (number : ℕ) : Type 0 where
  pub least : 1 ≤ number
  pub most : number ≤ 5

either : {A : Type 0} (C : A → Type 0) (b : Bool) (x y : A) → C x → C y → C (cond b x y)
either C true x y p q = p
either C false x y p q = q

-- ---- one submessage

abbrev InParsed : Result (Submessage × Span × Cursor) Refusal → Type 0
InParsed (Ok (m, x, c)) = Unit {0}
InParsed (Err r) = OfWire (number_of r)

abbrev InKind : Result ObjectKind Refusal → Type 0
InKind (Ok k) = Unit {0}
InKind (Err r) = OfWire (number_of r)

abbrev InCode : Result StatusCode Refusal → Type 0
InCode (Ok k) = Unit {0}
InCode (Err r) = OfWire (number_of r)

kind_wire : (b : ℕ) → InKind (kind_of b)
unfolding kind_of
kind_wire b =
    either InKind (eqb b 1) _ _ tt (either InKind (eqb b 2) _ _ tt (either InKind (eqb b 3) _ _ tt (either InKind (eqb b 4) _ _ tt
    (either InKind (eqb b 5) _ _ tt (either InKind (eqb b 6) _ _ tt (record { least = omega arith; most = omega arith }))))))

code_wire : (b : ℕ) → InCode (code_of b)
unfolding code_of
code_wire b =
    either InCode (eqb b 0) _ _ tt (either InCode (eqb b 1) _ _ tt (either InCode (eqb b 2) _ _ tt (either InCode (eqb b 3) _ _ tt
    (either InCode (eqb b 4) _ _ tt (record { least = omega arith; most = omega arith })))))

module _ (s : List ℕ) where
  create_wire : (p len : ℕ) (k : Result ObjectKind Refusal) → InKind k → InParsed (create_of s p len k)
  create_wire p len (Ok k) h = tt
  create_wire p len (Err r) h = h

  status_wire : (p len : ℕ) (k : Result StatusCode Refusal) → InCode k → InParsed (status_of s p len k)
  status_wire p len (Ok k) h = tt
  status_wire p len (Err r) h = h

  layout_wire : (id p len : ℕ) → InParsed (layout_at s id p len)
  unfolding layout_at create_at status_at
  layout_wire id p len =
      either InParsed (eqb id 0x00) _ _ tt
      (either InParsed (eqb id 0x01) _ _ (create_wire p len (kind_of (get_or s (p + 2) 0)) (kind_wire (get_or s (p + 2) 0)))
      (either InParsed (eqb id 0x02) _ _ tt
      (either InParsed (eqb id 0x05) _ _ (status_wire p len (code_of (get_or s (p + 2) 0)) (code_wire (get_or s (p + 2) 0)))
      (either InParsed (eqb id 0x07) _ _ tt
      (either InParsed (eqb id 0x08) _ _ tt
      (either InParsed (eqb id 0x09) _ _ tt
      (either InParsed (eqb id 0x0D) _ _ tt
      (either InParsed (eqb id 0x0E) _ _ tt
      (either InParsed (eqb id 0x0F) _ _ tt
      (record { least = omega arith; most = omega arith }))))))))))

  payload_wire : (id p len : ℕ) → InParsed (payload_at s id p len)
  unfolding payload_at
  payload_wire id p len =
      either InParsed (ltb (length s) (p + len)) _ _ (record { least = omega arith; most = omega arith })
      (either InParsed (eqb (least_of id) 255) _ _ (record { least = omega arith; most = omega arith })
      (either InParsed (ltb len (least_of id)) _ _ (record { least = omega arith; most = omega arith })
      (layout_wire id p len)))

  read_wire : (at : ℕ) → InParsed (read_at s at)
  unfolding read_at sub_header_read
  read_wire at = by (ltb (length s) (at + 4))
    where
      by : (b : Bool) → InParsed (behind s at (cond b (Err BufferTooShort) (Ok (sub_header_of s at))))
      by true = record { least = omega arith; most = omega arith }
      by false = payload_wire (sub_header_of s at).submessage_id (at + 4) (sub_header_of s at).length

  -- ---- all of them

  abbrev InItems : Items → Type 0
  InItems (items xs) = Unit {0}
  InItems (stopped r) = OfWire (number_of r)

  before_wire : (x : Item) (i : Items) → InItems i → InItems (before x i)
  before_wire x (items xs) h = tt
  before_wire x (stopped r) h = h

  onward_wire : (q : Result (Submessage × Span × Cursor) Refusal) (go : ℕ → Items) → InParsed q → ((at : ℕ) → InItems (go at)) → InItems (onward q go)
  onward_wire (Ok (m, x, c)) go h k = before_wire (record { says = m; span = x }) (go c.at) (k c.at)
  onward_wire (Err r) go h k = h

  items_wire : (left at : ℕ) → InItems (items_in left s at)
  unfolding items_in
  items_wire zero at = tt
  items_wire (suc left) at =
      either InItems (ltb at (length s)) (onward (read_at s at) (λ next. items_in left s next)) (items [])
      (onward_wire (read_at s at) (λ next. items_in left s next) (read_wire at) (λ next. items_wire left next)) tt

  abbrev pub InMessage : Message → Type 0
  InMessage (message h xs) = Unit {0}
  InMessage (refused r) = OfWire (number_of r)

  under_wire : (h : MessageHeader) (i : Items) → InItems i → InMessage (under h i)
  under_wire h (items xs) k = tt
  under_wire h (stopped r) k = k

  pub message_wire : InMessage (message_of s)
  unfolding message_of items_at
  message_wire =
      either InMessage (leb (length s) 4) (refused BufferTooShort) (under (header_of s) (items_at s 4)) (record { least = omega arith; most = omega arith })
      (under_wire (header_of s) (items_at s 4) (items_wire (length s - 4) 4))

  pub reading_wire : (number byte : ℕ) → reading s ≡ refused_as number byte → OfWire number
  unfolding reading
  reading_wire number byte e = by (message_of s) message_wire e
    where
      by : (m : Message) → InMessage m → reading_of s m ≡ refused_as number byte → OfWire number
      by (message h xs) k e = let z : ◌≡◌ {A = ℕ} 0 1 = cc in let n : ⊥ = omega arith in absurd n
      by (refused r) k e = let z : number_of r ≡ number = cc in subst OfWire z k
