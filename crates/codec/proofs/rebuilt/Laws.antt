-- Laws of rebuilt bytes: the check a submessage at a time, and what a check that passes says of the submessages.
use Prim.Native.Nat.{ℕ, suc, ◌+◌, ◌-◌, ◌≤◌, ◌<◌}
use mathlib.Core.Path.{◌≡◌, refl, sym, ◌∙◌}
use mathlib.Core.Bool.{Bool, true, false, cond, ◌||◌}
use mathlib.Core.List.{List, [], ◌∷◌, map}
use native.Mathlib.Omega.{arith}
use borrow.Author.Tests.{eqb-true, eq-eqb, ne_eqb}
use lib.Dec.{eqb}
use lib.ListN.{get_or, length}
use Rattle.codec.specs.Layouts.{layout_at, create_at, create_of, status_at, status_of}
use Rattle.codec.specs.Submessages.{id_of, kind_of, code_of}
use Rattle.codec.specs.Reading.{read_at, end_at, Item, Items, items, stopped, before, items_at}
use Rattle.codec.specs.Grammar.{said_in}
use Rattle.codec.specs.Rebuilt.{barred, barred_id, any_barred, rebuilt_by, rebuilt_at, rebuilt_of, rebuilt_reading}
use Rattle.codec.specs.declared.refusals.Refusal.{Refusal}
use Rattle.codec.specs.declared.refusals.Refusal.TheVariants.{BufferTooShort, NotInFragments}
use Rattle.codec.specs.declared.submessages.Submessage.{Submessage}
use Rattle.codec.specs.declared.submessages.Submessage.TheVariants.{CreateClient, Create, Delete, Status, WriteData, ReadData, Data, Heartbeat, Acknack, Fragment}
use Rattle.codec.proofs.Either.{either}
use Rattle.codec.proofs.failures.Laws.{ended}
use Rattle.codec.proofs.reading.Laws.{items_end, items_more}
use Rattle.std.specs.Prelude.{Err, Ok, Result}
use Rattle.codec.specs.declared.layouts.Cursor.{Cursor}
use Rattle.codec.specs.declared.submessages.ObjectKind.{ObjectKind}
use Rattle.codec.specs.declared.layouts.Span.{Span}
use Rattle.codec.specs.declared.submessages.StatusCode.{StatusCode}

-- ---- the id of a submessage that was read tells whether it is barred

barred_own : (m : Submessage) → barred m ≡ barred_id (id_of m)
barred_own (CreateClient p) = refl
barred_own (Create p) = refl
barred_own (Delete p) = refl
barred_own (Status p) = refl
barred_own (WriteData p) = refl
barred_own (ReadData p) = refl
barred_own (Data p) = refl
barred_own (Heartbeat p) = refl
barred_own (Acknack p) = refl
barred_own (Fragment p) = refl

-- the id under which a layout was read is the submessage's own
abbrev Own : ℕ → Result (Submessage × Span × Cursor) Refusal → Type 0
Own id (Ok (m, x, c)) = id_of m ≡ id
Own id (Err r) = Unit

module _ (s : List ℕ) (p len : ℕ) where
  own_create : (id : ℕ) → 1 ≡ id → (k : Result ObjectKind Refusal) → Own id (create_of s p len k)
  own_create id e (Ok k) = e
  own_create id e (Err r) = tt

  own_status : (id : ℕ) → 5 ≡ id → (k : Result StatusCode Refusal) → Own id (status_of s p len k)
  own_status id e (Ok k) = e
  own_status id e (Err r) = tt

  own_layout : (id : ℕ) → Own id (layout_at s id p len)
  unfolding layout_at create_at status_at
  own_layout id =
      let O = Own id in
      let is : (k : ℕ) → eqb id k ≡ true → k ≡ id = λ k e. sym (eqb-true id k e) in
      either O (eqb id 0) _ _ (is 0) (λ _.
      either O (eqb id 1) _ _ (λ e. own_create id (is 1 e) (kind_of _)) (λ _.
      either O (eqb id 2) _ _ (is 2) (λ _.
      either O (eqb id 5) _ _ (λ e. own_status id (is 5 e) (code_of _)) (λ _.
      either O (eqb id 7) _ _ (is 7) (λ _.
      either O (eqb id 8) _ _ (is 8) (λ _.
      either O (eqb id 9) _ _ (is 9) (λ _.
      either O (eqb id 13) _ _ (is 13) (λ _.
      either O (eqb id 14) _ _ (is 14) (λ _.
      either O (eqb id 15) _ _ (is 15) (λ _. tt))))))))))

-- ---- the check from a place on, where `n` submessages stand before it and `met` says whether one of them is barred

or_assoc : (a b c : Bool) → (a || (b || c)) ≡ ((a || b) || c)
or_assoc true b c = refl
or_assoc false b c = refl

abbrev pub on_from : Bool → ℕ → Items → Result ℕ Refusal
on_from met n (items xs) = cond (met || any_barred xs) (Err NotInFragments) (Ok (n + length xs))
on_from met n (stopped r) = Err r

pub from_none : (i : Items) → on_from false 0 i ≡ rebuilt_by i
from_none (items xs) = let e : 0 + length xs ≡ length xs = omega arith in rw e
from_none (stopped r) = refl

from_before : (met : Bool) (n : ℕ) (x : Item) (i : Items) → on_from met n (before x i) ≡ on_from (met || barred x.says) (n + 1) i
from_before met n x (items xs) =
    let e : n + suc (length xs) ≡ n + 1 + length xs = omega arith in
    rw (e, or_assoc met (barred x.says) (any_barred xs))
from_before met n x (stopped r) = refl

pub from_stopped : (s : List ℕ) (at n : ℕ) (met : Bool) (r : Refusal) → at < length s → read_at s at ≡ Err r → on_from met n (items_at s at) ≡ Err r
from_stopped s at n met r k e = rw (items_more s at k, e)

-- no failure: one submessage more, and its id tells whether it is barred
pub from_past : (s : List ℕ) (at : ℕ) (met : Bool) (n e : ℕ) → at < length s → end_at s at ≡ Ok e
    → on_from met n (items_at s at) ≡ on_from (met || barred_id (get_or s at 0)) (n + 1) (items_at s e)
from_past s at met n e k d =
    let id = get_or s at 0 in
    let w = ended s at e d in
    let own : Own id (Ok (w.says, w.span, w.behind)) = rw w.read at (rw w.laid at (own_layout s (at + 4) (e - (at + 4)) id)) in
    rw (items_more s at k, w.read) (from_before met n (record { says = w.says; span = w.span }) (items_at s w.behind.at) ∙ rw (barred_own w.says, own, w.end))

-- the end: 17 where one was barred, else the count
pub from_end : (s : List ℕ) (at n : ℕ) (met : Bool) → length s ≤ at → on_from met n (items_at s at) ≡ cond met (Err NotInFragments) (Ok n)
from_end s at n true k = rw (items_end s at k)
from_end s at n false k = let e : n + 0 ≡ n = omega arith in rw (items_end s at k, e)

-- ---- the whole

pub whole_none : (s : List ℕ) → length s ≡ 0 → Err BufferTooShort ≡ rebuilt_of s
unfolding rebuilt_of
whole_none s h = rw (eq-eqb (length s) 0 h)

pub whole_some : (s : List ℕ) → (length s ≡ 0 → ⊥) → rebuilt_at s 0 ≡ rebuilt_of s
unfolding rebuilt_of
whole_some s h = rw (ne_eqb (length s) 0 h)

-- ---- a check that passes

passed_by : (xs : List Item) (n : ℕ) (b : Bool) → any_barred xs ≡ b → cond b (Err NotInFragments) (Ok (length xs)) ≡ Ok n
    → (any_barred xs ≡ false) × (length xs ≡ n)
passed_by xs n true e d = let z : ◌≡◌ {A = ℕ} 0 1 = cc in absurd (omega arith)
passed_by xs n false e d = (e, cc)

reads_by : (i : Items) (n : ℕ) → rebuilt_by i ≡ Ok n → (xs : List Item) × (i ≡ items xs) × (any_barred xs ≡ false) × (length xs ≡ n)
reads_by (items xs) n e = let p = passed_by xs n (any_barred xs) refl e in (xs, refl, p.0, p.1)
reads_by (stopped r) n e = let z : ◌≡◌ {A = ℕ} 0 1 = cc in absurd (omega arith)

-- every submessage reads, none is barred, and they are as many as it says
pub rebuilt_reads : (s : List ℕ) (at n : ℕ) → rebuilt_at s at ≡ Ok n
    → (xs : List Item) × (items_at s at ≡ items xs) × (any_barred xs ≡ false) × (length xs ≡ n)
unfolding rebuilt_at
rebuilt_reads s at n e = reads_by (items_at s at) n e

-- and back
pub rebuilt_is : (s : List ℕ) (at : ℕ) (xs : List Item) → items_at s at ≡ items xs → any_barred xs ≡ false → rebuilt_at s at ≡ Ok (length xs)
unfolding rebuilt_at
rebuilt_is s at xs e b = rw (e, b)

pub rebuilt_bars : (s : List ℕ) (at : ℕ) (xs : List Item) → items_at s at ≡ items xs → any_barred xs ≡ true → rebuilt_at s at ≡ Err NotInFragments
unfolding rebuilt_at
rebuilt_bars s at xs e b = rw (e, b)

-- of the whole: there are bytes, and what they say is what those submessages say
pub some_bytes : (s : List ℕ) (n : ℕ) → rebuilt_of s ≡ Ok n → length s ≡ 0 → ⊥
some_bytes s n e z = let w : ◌≡◌ {A = ℕ} 0 1 = cc (whole_none s z) in omega arith

pub whole_reads : (s : List ℕ) (n : ℕ) → rebuilt_of s ≡ Ok n → rebuilt_at s 0 ≡ Ok n
whole_reads s n e = whole_some s (some_bytes s n e) ∙ e

pub reading_passed : (s : List ℕ) (n : ℕ) (xs : List Item) → rebuilt_of s ≡ Ok n → items_at s 0 ≡ items xs → rebuilt_reading s ≡ map (said_in s) xs
unfolding rebuilt_reading
reading_passed s n xs e i = rw (e, i)

-- refused bytes say nothing
pub reading_refused : (s : List ℕ) (r : Refusal) → rebuilt_of s ≡ Err r → rebuilt_reading s ≡ []
unfolding rebuilt_reading
reading_refused s r e = rw e

-- where none is barred, neither is the first, nor one of the others
first_of : (a b : Bool) → (a || b) ≡ false → (a ≡ false) × (b ≡ false)
first_of true b e = let z : ◌≡◌ {A = ℕ} 0 1 = cc in absurd (omega arith)
first_of false b e = (refl, e)

pub none_barred : (x : Item) (xs : List Item) → any_barred (x ∷ xs) ≡ false → (barred x.says ≡ false) × (any_barred xs ≡ false)
none_barred x xs e = first_of (barred x.says) (any_barred xs) e
