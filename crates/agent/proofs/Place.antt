-- The place of an open call in its datagram: its `rest` is what stands in the datagram from a place on.
use mathlib.Core.Path.{◌≡◌, refl, sym, ap, ◌∙◌}
use Prim.Native.Nat.{ℕ, zero, suc, ◌-◌, ◌≤◌, ◌<◌}
use mathlib.Core.Bool.{Bool, true, false, cond}
use mathlib.Core.List.{List, [], ◌∷◌, map, map-map}
use native.Mathlib.Omega.{arith}
use native.Mathlib.Decide.{dec_le}
use native.Mathlib.Nat.{lt_of_not-le}
use lib.Dec.{leb}
use lib.ListN.{length}
use Rattle.codec.specs.Header.{header_of}
use Rattle.codec.specs.Reading.{part_of, Item, Items, items, stopped, before, onward, read_at, items_at, refused, under, message_of}
use Rattle.codec.specs.Answers.{Answer, gives, refused_as, refusal}
use Rattle.codec.specs.Grammar.{Said, said_in, says, reading_of, reading}
use Rattle.codec.specs.declared.header.MessageHeader.{MessageHeader}
use Rattle.codec.specs.declared.layouts.Span.{Span}
use Rattle.codec.specs.declared.layouts.Cursor.{Cursor}
use Rattle.codec.specs.declared.refusals.Refusal.{Refusal}
use Rattle.codec.specs.declared.refusals.Refusal.TheVariants.{BufferTooShort}
use Rattle.codec.specs.declared.submessages.Submessage.{Submessage}
use Rattle.codec.proofs.reading.Laws.{items_more, items_end, read_placed}
use Rattle.isolation.specs.Rules.{done, calls, Sub, opens, names}
use Rattle.isolation.proofs.Simulation.{none_some}
use Rattle.sessions.specs.View.{Local}
use Rattle.moves.specs.Calls.{Call}
use Rattle.agent.specs.Brings.{Opening, In, in_of, sub_from, sub_of, message_from}
use Rattle.agent.specs.RulesFragments.{Working, handle}
use Rattle.agent.specs.Step.{Tables, Open, chosen, open_as, keep, act, deliver, run}
use Rattle.agent.specs.declared.state.Moment.{Moment}
use Rattle.agent.specs.Place.{subs_from, subs_at, ins_from, ins_at}
use Rattle.std.specs.Prelude.{Err, Ok, Result, Option, None, Some}

pub items_not : (xs : List Item) (r : Refusal) → stopped r ≡ items xs → ⊥
items_not xs r e = let z : ◌≡◌ {A = ℕ} 0 1 = cc in omega arith

says_not : (h : MessageHeader) (xs : List Said) (r : Refusal) → refusal r ≡ says h xs → ⊥
says_not h xs r e = let z : ◌≡◌ {A = ℕ} 0 1 = cc in omega arith

-- ---- one submessage at a moment

module _ (moment : Moment) (stream : ℕ) (s : List ℕ) where
  pub subs_end : (at : ℕ) → length s ≤ at → subs_at moment stream s at ≡ []
  subs_end at h = ap (λ (i : Items). subs_from moment stream s i) (items_end s at h)

  -- at a place where a submessage is read and the rest reads too
  pub subs_more : (at : ℕ) (m : Submessage) (x : Span) (c : Cursor) (ys : List Item) → at < length s → read_at s at ≡ Ok (m, x, c) → items_at s c.at ≡ items ys
      → subs_at moment stream s at ≡ sub_from moment stream m (part_of s x) ∷ subs_at moment stream s c.at
  subs_more at m x c ys h e f =
      ap (λ (i : Items). subs_from moment stream s i) (items_more s at h ∙ ap (λ (q : Result (Submessage × Span × Cursor) Refusal). onward q (items_at s)) e ∙ ap (λ (i : Items). before (record { says = m; span = x }) i) f)
      ∙ ap (λ (i : Items). sub_from moment stream m (part_of s x) ∷ subs_from moment stream s i) (sym f)

  -- W6: rebuilt submessages alike
  pub ins_end : (at : ℕ) → length s ≤ at → ins_at moment stream s at ≡ []
  ins_end at h = ap (λ (i : Items). ins_from moment stream s i) (items_end s at h)

  pub ins_more : (at : ℕ) (m : Submessage) (x : Span) (c : Cursor) (ys : List Item) → at < length s → read_at s at ≡ Ok (m, x, c) → items_at s c.at ≡ items ys
      → ins_at moment stream s at ≡ in_of moment stream m (part_of s x) ∷ ins_at moment stream s c.at
  ins_more at m x c ys h e f =
      ap (λ (i : Items). ins_from moment stream s i) (items_more s at h ∙ ap (λ (q : Result (Submessage × Span × Cursor) Refusal). onward q (items_at s)) e ∙ ap (λ (i : Items). before (record { says = m; span = x }) i) f)
      ∙ ap (λ (i : Items). in_of moment stream m (part_of s x) ∷ ins_from moment stream s i) (sym f)

-- a whole datagram stands behind its header's four bytes
pub whole_as : (moment : Moment) (s : List ℕ) (h : MessageHeader) (xs : List Said) → reading s ≡ says h xs → (message_from moment h xs).subs ≡ subs_at moment h.stream_id s 4
unfolding reading message_of
whole_as moment s h xs e = go (leb (length s) 4) (items_at s 4) e
  where
    said : Answer (MessageHeader × List Said) → List Said
    said (gives x) = x.1
    said (refused_as number byte) = []

    go : (b : Bool) (i : Items) → reading_of s (cond b (refused BufferTooShort) (under (header_of s) i)) ≡ says h xs → map (sub_of moment h.stream_id) xs ≡ subs_from moment h.stream_id s i
    go true i e = absurd (says_not h xs BufferTooShort e)
    go false (stopped r) e = absurd (says_not h xs r e)
    go false (items ys) e = let z : map (said_in s) ys ≡ xs = ap said e in rw (← z) (map-map (sub_of moment h.stream_id) (said_in s) ys)

-- ---- a run that hands out a call

-- the place behind the call's submessage
pub record Place (moment : Moment) (stream : ℕ) (s : List ℕ) (from : ℕ) (w : Open) : Type 0 where
  pub at : ℕ
  pub ahead : from < at
  pub within : at ≤ length s
  pub reads : (ys : List Item) × (items_at s at ≡ items ys)
  pub rest : w.rest ≡ subs_at moment stream s at

abbrev rest_in : Option (Call × Open) → List (Sub Opening In)
rest_in None = []
rest_in (Some x) = x.1.rest

module _ (max id : ℕ) (moment : Moment) (stream : ℕ) (s : List ℕ) where
  later : (from at : ℕ) (w : Open) → from < at → Place moment stream s at w → Place moment stream s from w
  later from at w h p = let a = p.ahead in record { at = p.at; ahead = omega (arith, a, h); within = p.within; reads = p.reads; rest = p.rest }

  -- one submessage, with what stands behind it from a place on
  one_place : (from at : ℕ) (x : Sub Opening In) (t : Tables) (c : Call) (w : Open) (ys : List Item) → from < at → at ≤ length s → items_at s at ≡ items ys
      → ((t' : Tables) → (run max id (subs_at moment stream s at) t').stop ≡ Some (c, w) → Place moment stream s at w)
      → (run max id (x ∷ subs_at moment stream s at) t).stop ≡ Some (c, w) → Place moment stream s from w
  unfolding run
  one_place from at (opens o) t c w ys h k f more e = later from at w h (more (open_as o t (chosen max t)) e)
  one_place from at (names i) t c w ys h k f more e = go (t.at id) e
    where
      acts : (m : Working) → (act id (subs_at moment stream s at) t m (λ t'. run max id (subs_at moment stream s at) t')).stop ≡ Some (c, w) → Place moment stream s from w
      acts (done l bs) e = later from at w h (more (keep id l t) e)
      acts (calls l bs c' p) e =
          record { at = at; ahead = h; within = k; reads = (ys, f); rest = sym (ap rest_in e) }

      go : (x : Option Local) → (deliver id (subs_at moment stream s at) t x (λ l. handle l i) (λ t'. run max id (subs_at moment stream s at) t')).stop ≡ Some (c, w) → Place moment stream s from w
      go None e = later from at w h (more t e)
      go (Some l) e = acts (handle l i) e

  ended : (at : ℕ) (t : Tables) (c : Call) (w : Open) → length s ≤ at → (run max id (subs_at moment stream s at) t).stop ≡ Some (c, w) → Place moment stream s at w
  unfolding run
  ended at t c w k e =
      let z : (run max id [] t).stop ≡ Some (c, w) = sym (ap (λ (ss : List (Sub Opening In)). (run max id ss t).stop) (subs_end moment stream s at k)) ∙ e in
      absurd (none_some z)

  -- wherever a run over a datagram stops, a place in the datagram says what is left
  pub run_place : (left at : ℕ) (xs : List Item) (t : Tables) (c : Call) (w : Open) → length s - at ≤ left → items_at s at ≡ items xs
      → (run max id (subs_at moment stream s at) t).stop ≡ Some (c, w) → Place moment stream s at w
  run_place zero at xs t c w h e f = ended at t c w (omega arith) f
  run_place (suc left) at xs t c w h e f = by (dec_le (length s) at) (λ at' ys t' k g f'. run_place left at' ys t' c w k g f')
    where
      Below : Type 0
      Below = (at' : ℕ) (ys : List Item) (t' : Tables) → length s - at' ≤ left → items_at s at' ≡ items ys → (run max id (subs_at moment stream s at') t').stop ≡ Some (c, w) → Place moment stream s at' w

      inside : at < length s → Below → (q : Result (Submessage × Span × Cursor) Refusal) → read_at s at ≡ q → Place moment stream s at w
      inside k below (Err r) g = absurd (items_not xs r (sym (items_more s at k ∙ ap (λ (q : Result (Submessage × Span × Cursor) Refusal). onward q (items_at s)) g) ∙ e))
      inside k below (Ok (m, x, c')) g = on (items_at s c'.at) refl
        where
          on : (i : Items) → items_at s c'.at ≡ i → Place moment stream s at w
          on (stopped r) j = absurd (items_not xs r (sym (items_more s at k ∙ ap (λ (q : Result (Submessage × Span × Cursor) Refusal). onward q (items_at s)) g ∙ ap (λ (i : Items). before (record { says = m; span = x }) i) j) ∙ e))
          on (items ys) j =
              let p = read_placed s at m x c' g in
              let a = p.ahead in
              one_place at c'.at (sub_from moment stream m (part_of s x)) t c w ys (omega (arith, a)) p.within j
              (λ t' f'. below c'.at ys t' (omega (arith, a, h)) j f')
              (sym (ap (λ (ss : List (Sub Opening In)). (run max id ss t).stop) (subs_more moment stream s at m x c' ys k g j)) ∙ f)

      by : Dec (length s ≤ at) → Below → Place moment stream s at w
      by (yes k) below = ended at t c w k f
      by (no k) below = inside (lt_of_not-le k) below (read_at s at) refl
