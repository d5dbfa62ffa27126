-- Laws of a store's entries and checks, as the code meets them.
use Prim.Native.Nat.{ℕ, zero, suc, ◌+◌, ◌*◌, ◌-◌, ◌≤◌, ◌<◌}
use mathlib.Core.Path.{◌≡◌, refl, sym}
use mathlib.Core.Bool.{Bool, true, false, cond, ◌||◌, true≢false}
use mathlib.Core.List.{List, [], ◌∷◌, ◌++◌}
use native.Mathlib.Nat.{mul-le-mul, mul-le-mul_right, suc-mul}
use native.Mathlib.Numerals.{add-one}
use native.Mathlib.Omega.{arith}
use borrow.Author.Tests.{ltb-true, ltb-false, lt-ltb, le-ltb, eqb-false}
use lib.Dec.{ltb, eqb}
use lib.ListN.{get_or, length, take, drop, set, replicate, length-append, length-take, length-drop, drop_of_length-le}
use lib.Seq.{drop-cons, drop-drop, get_or-take, length-take-le}
use Rattle.codec.specs.Bytes.{put_at}
use Rattle.codec.specs.Cutting.{joined}
use Rattle.codec.specs.Reassembly.{under_need, new_of, new_lengths, store_over, grown, recounted, slot_over, insert_check, insert_check_of, insert_of, insert_slots, insert_lengths, is_free, is_past, any_of, bytes_held, bodies_held, payload_of, over_limit, assemble_check, assemble_of, assemble_out}
use Rattle.codec.specs.declared.reassembly.ReassemblyBuffer.{ReassemblyBuffer}
use Rattle.codec.specs.declared.refusals.Refusal.{Refusal}
use Rattle.codec.specs.declared.refusals.Refusal.TheVariants.{FragmentNumber, MissingFragments, OutputTooShort, StoreFull, OverLimit}
use Rattle.codec.proofs.bytes.Laws.{put_behind, put_nothing, put_short, put_fits}
use Rattle.std.specs.List.{list_any}
use Rattle.std.specs.Prelude.{Err, Ok, Result}

-- two numbers of 16 bits have a product of 32
pub small_product : (a b : ℕ) → a < 65536 → b < 65536 → a * b ≤ 4294836225
small_product a b ha hb =
    let x : a ≤ 65535 = omega arith in
    let y : b ≤ 65535 = omega arith in
    mul-le-mul x y

-- slot i of n ends where the next begins, within them
pub slot_ends : (i n width : ℕ) → i < n → i * width + width ≤ n * width
slot_ends i n width h = rw (← suc-mul i width) (mul-le-mul_right width h)

-- the entries from the i-th of the first n on
module _ (l : List ℕ) (n i : ℕ) where
  entries_step : i < n → n ≤ length l → drop i (take n l) ≡ get_or l i 0 ∷ drop (i + 1) (take n l)
  entries_step below fits =
      let e = length-take-le n l fits in
      rw (add-one i, ← get_or-take n l i 0 below) (drop-cons (take n l) i 0 (omega arith))

  entries_end : n ≤ i → drop i (take n l) ≡ []
  entries_end h =
      let e = length-take n l in
      let s : length (take n l) ≤ i = omega arith in
      drop_of_length-le (take n l) s

-- what `any` and `contains` answer
pub any_same : (test : ℕ → Bool) (es : List ℕ) → list_any test es ≡ any_of test es
unfolding any_of
any_same test [] = refl
any_same test (held ∷ more) = rw (any_same test more)

-- neither of two
pub neither : (x y : Bool) → (x || y) ≡ false → (x ≡ false) × (y ≡ false)
neither false y e = (refl, e)
neither true y e = absurd (true≢false e)

-- where a search finds nothing
none_in : (test : ℕ → Bool) (es : List ℕ) → any_of test es ≡ false → (i : ℕ) → i < length es → test (get_or es i 0) ≡ false
unfolding any_of
none_in test [] e i h = absurd (omega arith)
none_in test (held ∷ more) e zero h = (neither (test held) (any_of test more) e).0
none_in test (held ∷ more) e (suc i) h = none_in test more (neither (test held) (any_of test more) e).1 i (omega arith)

pub none_at : (test : ℕ → Bool) (l : List ℕ) (n i : ℕ) → any_of test (take n l) ≡ false → i < n → n ≤ length l → test (get_or l i 0) ≡ false
none_at test l n i e below fits =
    let s = length-take-le n l fits in
    rw (← get_or-take n l i 0 below) (none_in test (take n l) e i (omega arith))

-- a search that says yes has found one
any_step : (test : ℕ → Bool) (held : ℕ) (more : List ℕ) → (any_of test more ≡ true → (k : ℕ) × (k < length more) × (test (get_or more k 0) ≡ true))
    → (t : Bool) → test held ≡ t → (t || any_of test more) ≡ true → (k : ℕ) × (k < suc (length more)) × (test (get_or (held ∷ more) k 0) ≡ true)
any_step test held more found true e so = (0, omega arith, e)
any_step test held more found false e so = let f = found so in (suc f.0, omega (arith, f.1), f.2)

any_in : (test : ℕ → Bool) (es : List ℕ) → any_of test es ≡ true → (k : ℕ) × (k < length es) × (test (get_or es k 0) ≡ true)
unfolding any_of
any_in test [] e = absurd (true≢false (sym e))
any_in test (held ∷ more) e = any_step test held more (any_in test more) (test held) refl e

pub any_at : (test : ℕ → Bool) (l : List ℕ) (n : ℕ) → any_of test (take n l) ≡ true → n ≤ length l → (k : ℕ) × (k < n) × (test (get_or l k 0) ≡ true)
any_at test l n e fits =
    let f = any_in test (take n l) e in
    let s = length-take-le n l fits in
    let below : f.0 < n = omega (arith, f.1) in
    (f.0, below, rw (get_or-take n l f.0 0 below) at f.2)

-- a slot that isn't free holds a body, whose length fits
module _ (l : List ℕ) (n i : ℕ) where
  pub held_some : any_of is_free (take n l) ≡ false → i < n → n ≤ length l → 0 < get_or l i 0
  held_some e below fits =
      let h = eqb-false (get_or l i 0) 0 (none_at is_free l n i e below fits) in
      omega arith

  pub held_fits : (width : ℕ) → any_of (is_past width) (take n l) ≡ false → i < n → n ≤ length l → get_or l i 0 ≤ width + 1
  held_fits width e below fits = ltb-false (width + 1) (get_or l i 0) (none_at (is_past width) l n i e below fits)

-- the bytes held, from entry i on
pub bytes_next : (l : List ℕ) (n i : ℕ) → i < n → n ≤ length l
    → bytes_held (drop i (take n l)) ≡ (get_or l i 0 - 1) + bytes_held (drop (i + 1) (take n l))
unfolding bytes_held
bytes_next l n i below fits = rw (entries_step l n i below fits)

pub bytes_end : (l : List ℕ) (n i : ℕ) → n ≤ i → bytes_held (drop i (take n l)) ≡ 0
unfolding bytes_held
bytes_end l n i h = rw (entries_end l n i h)

-- the bodies held, from slot i on
pub bodies_next : (width : ℕ) (slots l : List ℕ) (n i : ℕ) → i < n → n ≤ length l
    → bodies_held width (drop (i * width) slots) (drop i (take n l))
    ≡ take (get_or l i 0 - 1) (drop (i * width) slots) ∷ bodies_held width (drop ((i + 1) * width) slots) (drop (i + 1) (take n l))
unfolding bodies_held
bodies_next width slots l n i below fits =
    rw (entries_step l n i below fits, drop-drop width (i * width) slots, add-one i, suc-mul i width)

pub bodies_end : (width : ℕ) (slots l : List ℕ) (n i : ℕ) → n ≤ i → bodies_held width slots (drop i (take n l)) ≡ []
unfolding bodies_held
bodies_end width slots l n i h = rw (entries_end l n i h)

-- a write of the bodies from slot i on is one of the first and then of the others
module _ (out : List ℕ) (at width : ℕ) (slots l : List ℕ) (n i : ℕ) where
  pub join_next : i < n → n ≤ length l → at ≤ length out → i * width + (get_or l i 0 - 1) ≤ length slots
      → put_at (put_at out at (take (get_or l i 0 - 1) (drop (i * width) slots))) (at + (get_or l i 0 - 1)) (joined (bodies_held width (drop ((i + 1) * width) slots) (drop (i + 1) (take n l))))
      ≡ put_at out at (joined (bodies_held width (drop (i * width) slots) (drop i (take n l))))
  unfolding joined
  join_next below fits room there =
      let e = length-drop (i * width) slots in
      let s : length (take (get_or l i 0 - 1) (drop (i * width) slots)) ≡ get_or l i 0 - 1 = length-take-le (get_or l i 0 - 1) (drop (i * width) slots) (omega arith) in
      rw (bodies_next width slots l n i below fits)
      (rw s at (put_behind out at (take (get_or l i 0 - 1) (drop (i * width) slots)) (joined (bodies_held width (drop ((i + 1) * width) slots) (drop (i + 1) (take n l)))) room))

  pub join_end : n ≤ i → put_at out at (joined (bodies_held width (drop (i * width) slots) (drop i (take n l)))) ≡ out
  unfolding joined
  join_end h = rw (bodies_end width (drop (i * width) slots) l n i h) (put_nothing out at)

-- the payload is as long as its bodies together
length_joined : (width : ℕ) (slots es : List ℕ) → length es * width ≤ length slots → any_of (is_past width) es ≡ false
    → length (joined (bodies_held width slots es)) ≡ bytes_held es
unfolding joined bodies_held bytes_held any_of
length_joined width slots [] there e = refl
length_joined width slots (held ∷ more) there e =
    let t = neither (is_past width held) (any_of (is_past width) more) e in
    let h = ltb-false (width + 1) held t.0 in
    let m = suc-mul (length more) width in
    let d = length-drop width slots in
    let behind = length_joined width (drop width slots) more (omega arith) t.1 in
    rw (length-append (take (held - 1) slots) (joined (bodies_held width (drop width slots) more)), length-take-le (held - 1) slots (omega arith), behind)

-- a store that no check of 16 stops
pub store_fits : (b : ReassemblyBuffer) (slots lengths : ℕ) → store_over b slots lengths ≡ false
    → (b.total_fragments * b.width ≤ slots) × (b.total_fragments ≤ lengths) × (b.received_count ≤ b.total_fragments)
unfolding store_over under_need
store_fits b slots lengths e =
    let t = neither (under_need b.total_fragments b.width slots lengths) (ltb b.total_fragments b.received_count) e in
    let u = neither (ltb slots (b.total_fragments * b.width)) (ltb lengths b.total_fragments) t.0 in
    (ltb-false _ _ u.0, ltb-false _ _ u.1, ltb-false _ _ t.1)

pub need_fits : (total width slots lengths : ℕ) → under_need total width slots lengths ≡ false → (total * width ≤ slots) × (total ≤ lengths)
unfolding under_need
need_fits total width slots lengths e =
    let u = neither (ltb slots (total * width)) (ltb lengths total) e in
    (ltb-false _ _ u.0, ltb-false _ _ u.1)

-- each answer of an insert's check, by the tests that lead to it
module _ (b : ReassemblyBuffer) (slots lengths held nr len : ℕ) where
  pub insert_need : under_need b.total_fragments b.width slots lengths ≡ true → Err OverLimit ≡ insert_check b slots lengths held nr len
  unfolding insert_check store_over
  insert_need e = rw e

  module _ (enough : under_need b.total_fragments b.width slots lengths ≡ false) where
    pub insert_count : b.total_fragments < b.received_count → Err OverLimit ≡ insert_check b slots lengths held nr len
    unfolding insert_check store_over
    insert_count h = rw (enough, lt-ltb _ _ h)

    module _ (counted : b.received_count ≤ b.total_fragments) where
      pub insert_number : b.total_fragments ≤ nr → Err FragmentNumber ≡ insert_check b slots lengths held nr len
      unfolding insert_check store_over
      insert_number h = rw (enough, le-ltb _ _ counted, le-ltb _ _ h)

      module _ (below : nr < b.total_fragments) where
        pub insert_entry : b.width + 1 < held → Err OverLimit ≡ insert_check b slots lengths held nr len
        unfolding insert_check store_over slot_over
        insert_entry h = rw (enough, le-ltb _ _ counted, lt-ltb _ _ below, lt-ltb _ _ h)

        module _ (entry : held ≤ b.width + 1) where
          pub insert_grown : b.total_fragments < grown b.received_count held → Err OverLimit ≡ insert_check b slots lengths held nr len
          unfolding insert_check store_over slot_over
          insert_grown h = rw (enough, le-ltb _ _ counted, lt-ltb _ _ below, le-ltb _ _ entry, lt-ltb _ _ h)

          module _ (more : grown b.received_count held ≤ b.total_fragments) where
            pub insert_long : b.width < len → Err StoreFull ≡ insert_check b slots lengths held nr len
            unfolding insert_check store_over slot_over
            insert_long h = rw (enough, le-ltb _ _ counted, lt-ltb _ _ below, le-ltb _ _ entry, le-ltb _ _ more, lt-ltb _ _ h)

            pub insert_passes : len ≤ b.width → (Ok tt) ≡ insert_check b slots lengths held nr len
            unfolding insert_check store_over slot_over
            insert_passes h = rw (enough, le-ltb _ _ counted, lt-ltb _ _ below, le-ltb _ _ entry, le-ltb _ _ more, le-ltb _ _ h)

-- each answer of the check of 16 alone
module _ (b : ReassemblyBuffer) (slots : ℕ) (lengths : List ℕ) where
  pub over_need : under_need b.total_fragments b.width slots (length lengths) ≡ true → true ≡ over_limit b slots lengths
  unfolding over_limit store_over
  over_need e = rw e

  module _ (enough : under_need b.total_fragments b.width slots (length lengths) ≡ false) where
    pub over_count : b.total_fragments < b.received_count → true ≡ over_limit b slots lengths
    unfolding over_limit store_over
    over_count h = rw (enough, lt-ltb _ _ h)

    pub over_past : b.received_count ≤ b.total_fragments → any_of (is_past b.width) (take b.total_fragments lengths) ≡ over_limit b slots lengths
    unfolding over_limit store_over
    over_past h = rw (enough, le-ltb _ _ h)

-- each answer of an assembly's check
module _ (b : ReassemblyBuffer) (slots : ℕ) (lengths : List ℕ) where
  pub assemble_need : under_need b.total_fragments b.width slots (length lengths) ≡ true → Err OverLimit ≡ assemble_check b slots lengths
  unfolding assemble_check over_limit store_over
  assemble_need e = rw e

  module _ (enough : under_need b.total_fragments b.width slots (length lengths) ≡ false) where
    pub assemble_count : b.total_fragments < b.received_count → Err OverLimit ≡ assemble_check b slots lengths
    unfolding assemble_check over_limit store_over
    assemble_count h = rw (enough, lt-ltb _ _ h)

    module _ (counted : b.received_count ≤ b.total_fragments) where
      pub assemble_past : any_of (is_past b.width) (take b.total_fragments lengths) ≡ true → Err OverLimit ≡ assemble_check b slots lengths
      unfolding assemble_check over_limit store_over
      assemble_past e = rw (enough, le-ltb _ _ counted, e)

      module _ (within : any_of (is_past b.width) (take b.total_fragments lengths) ≡ false) where
        pub assemble_few : b.received_count < b.total_fragments → Err MissingFragments ≡ assemble_check b slots lengths
        unfolding assemble_check over_limit store_over
        assemble_few h = rw (enough, le-ltb _ _ counted, within, lt-ltb _ _ h)

        module _ (full : b.total_fragments ≤ b.received_count) where
          pub assemble_free : any_of is_free (take b.total_fragments lengths) ≡ true → Err MissingFragments ≡ assemble_check b slots lengths
          unfolding assemble_check over_limit store_over
          assemble_free e = rw (enough, le-ltb _ _ counted, within, le-ltb _ _ full, e)

          pub assemble_passes : any_of is_free (take b.total_fragments lengths) ≡ false → (Ok tt) ≡ assemble_check b slots lengths
          unfolding assemble_check over_limit store_over
          assemble_passes e = rw (enough, le-ltb _ _ counted, within, le-ltb _ _ full, e)

-- what is known where an insert's check passes
pub record Fits (b : ReassemblyBuffer) (slots lengths held nr len : ℕ) : Type 0 where
  pub there : b.total_fragments * b.width ≤ slots
  pub entries : b.total_fragments ≤ lengths
  pub below : nr < b.total_fragments
  pub entry : held ≤ b.width + 1
  pub count : grown b.received_count held ≤ b.total_fragments
  pub body : len ≤ b.width

insert_picks : (x y z w : Bool) (p q r s : Refusal)
    → ◌≡◌ {A = Result (Unit {0}) Refusal} (cond x (Err p) (cond y (cond z (Err q) (cond w (Err r) (Ok tt))) (Err s))) (Ok tt)
    → (x ≡ false) × (y ≡ true) × (z ≡ false) × (w ≡ false)
insert_picks false true false false p q r s e = (refl, refl, refl, refl)
insert_picks true y z w p q r s e = let i : ◌≡◌ {A = ℕ} 0 1 = cc in absurd (omega arith)
insert_picks false false z w p q r s e = let i : ◌≡◌ {A = ℕ} 0 1 = cc in absurd (omega arith)
insert_picks false true true w p q r s e = let i : ◌≡◌ {A = ℕ} 0 1 = cc in absurd (omega arith)
insert_picks false true false true p q r s e = let i : ◌≡◌ {A = ℕ} 0 1 = cc in absurd (omega arith)

pub insert_fits : (b : ReassemblyBuffer) (slots lengths held nr len : ℕ) → insert_check b slots lengths held nr len ≡ (Ok tt)
    → Fits b slots lengths held nr len
unfolding insert_check slot_over
insert_fits b slots lengths held nr len e =
    let t = insert_picks (store_over b slots lengths) (ltb nr b.total_fragments) (slot_over b held) (ltb b.width len) _ _ _ _ e in
    let s = store_fits b slots lengths t.0 in
    let u = neither (is_past b.width held) (ltb b.total_fragments (grown b.received_count held)) t.2 in
    record {
      there = s.0;
      entries = s.1;
      below = ltb-true _ _ t.1;
      entry = ltb-false _ _ u.0;
      count = ltb-false _ _ u.1;
      body = ltb-false _ _ t.3;
    }

-- each answer of `insert`
module _ (b : ReassemblyBuffer) (slots lengths : List ℕ) (nr : ℕ) (body : List ℕ) where
  pub insert_refused : (why : Refusal) → insert_check_of b slots lengths nr body ≡ Err why
      → (Err why ≡ insert_of b slots lengths nr body) × ((slots ≡ insert_slots b slots lengths nr body) × (lengths ≡ insert_lengths b slots lengths nr body))
  unfolding insert_of insert_slots insert_lengths
  insert_refused why e = rw e (refl, (refl, refl))

  pub insert_held : insert_check_of b slots lengths nr body ≡ (Ok tt)
      → (Ok ((recounted b (get_or lengths nr 0)), (eqb (grown b.received_count (get_or lengths nr 0)) b.total_fragments))
      ≡ insert_of b slots lengths nr body)
      × ((put_at slots (nr * b.width) body ≡ insert_slots b slots lengths nr body) × (set lengths nr (length body + 1) ≡ insert_lengths b slots lengths nr body))
  unfolding insert_of insert_slots insert_lengths
  insert_held e = rw e (refl, (refl, refl))

-- each answer of `new`
module _ (total width : ℕ) (slots lengths : List ℕ) where
  pub new_refused : under_need total width (length slots) (length lengths) ≡ true
      → (Err OverLimit ≡ new_of total width slots lengths) × (lengths ≡ new_lengths total width slots lengths)
  unfolding new_of new_lengths
  new_refused e = rw e (refl, refl)

  pub new_made : under_need total width (length slots) (length lengths) ≡ false
      → (Ok (record { total_fragments = total; received_count = 0; width = width }) ≡ new_of total width slots lengths)
      × (replicate total 0 ++ drop total lengths ≡ new_lengths total width slots lengths)
  unfolding new_of new_lengths
  new_made e = rw e (refl, refl)

-- what is known where an assembly's check passes
pub record Whole (b : ReassemblyBuffer) (slots : ℕ) (lengths : List ℕ) : Type 0 where
  pub there : b.total_fragments * b.width ≤ slots
  pub entries : b.total_fragments ≤ length lengths
  pub within : any_of (is_past b.width) (take b.total_fragments lengths) ≡ false
  pub all : any_of is_free (take b.total_fragments lengths) ≡ false

assemble_picks : (x y : Bool) (p q : Refusal) → ◌≡◌ {A = Result (Unit {0}) Refusal} (cond x (Err p) (cond y (Err q) (Ok tt))) (Ok tt)
    → (x ≡ false) × (y ≡ false)
assemble_picks false false p q e = (refl, refl)
assemble_picks true y p q e = let i : ◌≡◌ {A = ℕ} 0 1 = cc in absurd (omega arith)
assemble_picks false true p q e = let i : ◌≡◌ {A = ℕ} 0 1 = cc in absurd (omega arith)

pub assemble_whole : (b : ReassemblyBuffer) (slots : ℕ) (lengths : List ℕ) → assemble_check b slots lengths ≡ (Ok tt) → Whole b slots lengths
unfolding assemble_check over_limit
assemble_whole b slots lengths e =
    let es = take b.total_fragments lengths in
    let t = assemble_picks (store_over b slots (length lengths) || any_of (is_past b.width) es) (ltb b.received_count b.total_fragments || any_of is_free es) _ _ e in
    let u = neither (store_over b slots (length lengths)) (any_of (is_past b.width) es) t.0 in
    let s = store_fits b slots (length lengths) u.0 in
    record {
      there = s.0;
      entries = s.1;
      within = u.1;
      all = (neither (ltb b.received_count b.total_fragments) (any_of is_free es) t.1).1;
    }

-- each answer of `assemble`
module _ (b : ReassemblyBuffer) (slots lengths out : List ℕ) where
  pub assemble_refused : (why : Refusal) → assemble_check b (length slots) lengths ≡ Err why
      → (Err why ≡ assemble_of b slots lengths out) × (out ≡ assemble_out b slots lengths out)
  unfolding assemble_of assemble_out
  assemble_refused why e = rw e (refl, refl)

  pub length_payload : assemble_check b (length slots) lengths ≡ (Ok tt)
      → length (payload_of b slots lengths) ≡ bytes_held (take b.total_fragments lengths)
  unfolding payload_of
  length_payload e =
      let w = assemble_whole b (length slots) lengths e in
      length_joined b.width slots (take b.total_fragments lengths) (rw (length-take-le b.total_fragments lengths w.entries) w.there) w.within

  pub assemble_short : assemble_check b (length slots) lengths ≡ (Ok tt) → length out < bytes_held (take b.total_fragments lengths)
      → (Err OutputTooShort ≡ assemble_of b slots lengths out) × (out ≡ assemble_out b slots lengths out)
  unfolding assemble_of assemble_out
  assemble_short e h = let n = length_payload e in rw e (put_short out 0 (payload_of b slots lengths) (omega arith))

  pub assemble_written : assemble_check b (length slots) lengths ≡ (Ok tt) → bytes_held (take b.total_fragments lengths) ≤ length out
      → (Ok (bytes_held (take b.total_fragments lengths)) ≡ assemble_of b slots lengths out)
      × (put_at out 0 (payload_of b slots lengths) ≡ assemble_out b slots lengths out)
  unfolding assemble_of assemble_out
  assemble_written e h = let n = length_payload e in rw (e, ← n) (put_fits out 0 (payload_of b slots lengths) (omega arith))

-- the checks, as the code meets them
pub ruleset insert_laws = (insert_need, insert_count, insert_number, insert_entry, insert_grown, insert_long, insert_passes)

-- 16 of a store as a whole
pub ruleset over_laws = (need_fits, over_need, over_count, over_past)

-- 16, then 11
pub ruleset assemble_laws = (need_fits, assemble_need, assemble_count, assemble_past, assemble_few, assemble_free, assemble_passes)
