-- Inserts one after the other: the store stays within its limits, its count is the number of slots that hold a body, and each slot
-- holds the body of the last insert of its number.
use Prim.Native.Nat.{ℕ, ◌+◌, ◌*◌, ◌≤◌, ◌<◌}
use mathlib.Core.Path.{◌≡◌, refl, sym, ap, ◌∙◌}
use mathlib.Core.Bool.{Bool, true, false, cond, not, ◌&&◌}
use mathlib.Core.List.{List, [], ◌∷◌}
use native.Mathlib.Omega.{arith}
use borrow.Author.Tests.{ltb-true, ltb-false, le-ltb, eqb-true, eqb-false}
use lib.Dec.{ltb, eqb}
use lib.ListN.{get_or, length, take, drop, set, replicate, length-set, length-append, length-replicate}
use lib.Seq.{length-take-le, get_or-take, get_or-set_same, get_or-set_other, take-set-lt, take_at}
use Rattle.codec.specs.Bytes.{put_at}
use Rattle.codec.specs.Reassembly.{under_need, new_lengths, store_over, grown, slot_over, insert_check, insert_check_of, is_past}
use Rattle.codec.specs.Inserts.{Store, Piece, insert_into, inserts, Slot, free, holds, slots_of, Sound, last_of}
use Rattle.codec.specs.declared.refusals.Refusal.{Refusal}
use Rattle.codec.specs.declared.refusals.Refusal.TheVariants.{FragmentNumber, StoreFull}
use Rattle.codec.proofs.bytes.Laws.{length_put}
use Rattle.codec.proofs.reassembly.Laws.{slot_ends, none_at, need_fits, new_made, insert_refused, insert_held}
use Rattle.codec.proofs.reassembly.View.{held_most, length_slots, within_set, slots_set, held_set, none_held, all_free, none_past}
use Rattle.std.specs.Prelude.{Err, Ok}

module _ (total width : ℕ) where
  -- a store of that total and width
  abbrev pub made : ℕ → List ℕ → List ℕ → Store
  made received slots lengths = record {
    buffer = record { total_fragments = total; received_count = received; width = width };
    slots = slots;
    lengths = lengths;
  }

  -- its slots
  abbrev pub view : List ℕ → List ℕ → List Slot
  view slots lengths = slots_of width slots (take total lengths)

  abbrev pub Good : ℕ → List ℕ → List ℕ → Type 0
  Good received slots lengths = Sound (made received slots lengths)

  module _ {received : ℕ} {slots lengths : List ℕ} (good : Good received slots lengths) where
    pub length_view : length (view slots lengths) ≡ total
    length_view = length_slots width slots (take total lengths) ∙ length-take-le total lengths good.entries

    -- an insert's count stays within the total
    grown_fits : (nr : ℕ) → nr < total → grown received (get_or lengths nr 0) ≤ total
    grown_fits nr below =
        let e = length-take-le total lengths good.entries in
        let g = held_set width [] slots (take total lengths) nr (omega arith) in
        let m = held_most (set (view slots lengths) nr (holds [])) in
        let l : length (set (view slots lengths) nr (holds [])) ≡ length (view slots lengths) = length-set (view slots lengths) nr (holds []) in
        rw (good.counted, ← get_or-take total lengths nr 0 below, ← g) (omega (arith, length_view))

    -- no check of 16 stops it
    pub store_good : store_over (made received slots lengths).buffer (length slots) (length lengths) ≡ false
    unfolding store_over under_need
    store_good =
        let l = length_view in
        let m = held_most (view slots lengths) in
        rw (le-ltb (length slots) (total * width) good.there, le-ltb (length lengths) total good.entries) (le-ltb total received (omega (arith, good.counted)))

    slot_good : (nr : ℕ) → nr < total → slot_over (made received slots lengths).buffer (get_or lengths nr 0) ≡ false
    unfolding slot_over
    slot_good nr below =
        rw (none_at (is_past width) lengths total nr good.within below good.entries) (le-ltb total (grown received (get_or lengths nr 0)) (grown_fits nr below))

    -- it refuses only 10 and 14
    pub check_good : (nr : ℕ) (body : List ℕ) (t : Bool) → ltb nr total ≡ t
        → insert_check_of (made received slots lengths).buffer slots lengths nr body
        ≡ cond t (cond (ltb width (length body)) (Err StoreFull) (Ok tt)) (Err FragmentNumber)
    unfolding insert_check_of insert_check
    check_good nr body true e = rw (store_good, e, slot_good nr (ltb-true nr total e))
    check_good nr body false e = rw (store_good, e)

  -- what an insert makes of such a store
  pub record After (received : ℕ) (slots lengths : List ℕ) (p : Piece) : Type 0 where
    pub count : ℕ
    pub bytes : List ℕ
    pub sizes : List ℕ
    pub is : insert_into (made received slots lengths) p ≡ made count bytes sizes
    pub good : Good count bytes sizes
    pub slot : view bytes sizes ≡ cond (ltb p.nr total && not (ltb width (length p.body))) (set (view slots lengths) p.nr (holds p.body)) (view slots lengths)

  module _ {received : ℕ} {slots lengths : List ℕ} (good : Good received slots lengths) (p : Piece) where
    -- a refusal leaves all as it was
    refuses : (why : Refusal) → insert_check_of (made received slots lengths).buffer slots lengths p.nr p.body ≡ Err why
        → (ltb p.nr total && not (ltb width (length p.body))) ≡ false → After received slots lengths p
    unfolding insert_into
    refuses why e out =
        let q = insert_refused (made received slots lengths).buffer slots lengths p.nr p.body why e in
        record {
          count = received;
          bytes = slots;
          sizes = lengths;
          is = rw (← q.0, ← q.1.0, ← q.1.1);
          good = good;
          slot = rw out;
        }

    -- the body is kept
    keeps : insert_check_of (made received slots lengths).buffer slots lengths p.nr p.body ≡ (Ok tt) → p.nr < total → length p.body ≤ width
        → (ltb p.nr total && not (ltb width (length p.body))) ≡ true → After received slots lengths p
    unfolding insert_into
    keeps e below small in-it =
        let q = insert_held (made received slots lengths).buffer slots lengths p.nr p.body e in
        let n = length-take-le total lengths good.entries in
        let ends = slot_ends p.nr total width below in
        let there = good.there in
        let entry : take total (set lengths p.nr (length p.body + 1)) ≡ set (take total lengths) p.nr (length p.body + 1) =
        take-set-lt total lengths p.nr (length p.body + 1) below in
        let put : length (put_at slots (p.nr * width) p.body) ≡ length slots = length_put slots (p.nr * width) p.body (omega arith) in
        let sized : length (set lengths p.nr (length p.body + 1)) ≡ length lengths = length-set lengths p.nr (length p.body + 1) in
        let now : view (put_at slots (p.nr * width) p.body) (set lengths p.nr (length p.body + 1)) ≡ set (view slots lengths) p.nr (holds p.body) =
        rw entry (slots_set width p.body small slots (take total lengths) p.nr (omega arith) (rw n there) good.within) in
        record {
          count = grown received (get_or lengths p.nr 0);
          bytes = put_at slots (p.nr * width) p.body;
          sizes = set lengths p.nr (length p.body + 1);
          is = rw (← q.0, ← q.1.0, ← q.1.1);
          good = record {
            there = rw put there;
            entries = rw sized good.entries;
            within = rw entry (within_set width p.body small (take total lengths) p.nr good.within);
            counted = rw (now, held_set width p.body slots (take total lengths) p.nr (omega arith), get_or-take total lengths p.nr 0 below, good.counted);
          };
          slot = rw in-it now;
        }

    goes : (t u : Bool) → ltb p.nr total ≡ t → ltb width (length p.body) ≡ u → After received slots lengths p
    goes true false e f = keeps (check_good good p.nr p.body true e ∙ rw f) (ltb-true _ _ e) (ltb-false _ _ f) (rw (e, f))
    goes true true e f = refuses StoreFull (check_good good p.nr p.body true e ∙ rw f) (rw (e, f))
    goes false u e f = refuses FragmentNumber (check_good good p.nr p.body false e) (rw e)

    pub step : After received slots lengths p
    step = goes (ltb p.nr total) (ltb width (length p.body)) refl refl

  -- a slot after an insert that was kept or not
  slot_at : (v : List Slot) (nr k : ℕ) (x : Slot) (q : Bool) → k < total → length v ≡ total → (t u : Bool) → ltb nr total ≡ t → eqb nr k ≡ u
      → get_or (cond (t && q) (set v nr x) v) k free ≡ cond (u && q) x (get_or v k free)
  slot_at v nr k x true below l true true e f = let z : nr ≡ k = eqb-true nr k f in rw z (get_or-set_same v k x free (omega arith))
  slot_at v nr k x true below l true false e f = get_or-set_other v nr k x free (λ z. eqb-false nr k f (sym z))
  slot_at v nr k x false below l true true e f = refl
  slot_at v nr k x false below l true false e f = refl
  slot_at v nr k x q below l false true e f = let z = eqb-true nr k f in let n = ltb-false nr total e in absurd (omega arith)
  slot_at v nr k x q below l false false e f = refl

  -- what inserts one after the other make of it
  pub record Ran (received : ℕ) (slots lengths : List ℕ) (ps : List Piece) : Type 0 where
    pub count : ℕ
    pub bytes : List ℕ
    pub sizes : List ℕ
    pub is : inserts (made received slots lengths) ps ≡ made count bytes sizes
    pub good : Good count bytes sizes
    pub last : (k : ℕ) → k < total → get_or (view bytes sizes) k free ≡ last_of width k ps (get_or (view slots lengths) k free)

  pub run : (received : ℕ) (slots lengths : List ℕ) → Good received slots lengths → (ps : List Piece) → Ran received slots lengths ps
  unfolding inserts last_of
  run received slots lengths good [] = record { count = received; bytes = slots; sizes = lengths; is = refl; good = good; last = λ k h. refl }
  run received slots lengths good (p ∷ more) =
      let a = step good p in
      let n = run a.count a.bytes a.sizes a.good more in
      record {
        count = n.count;
        bytes = n.bytes;
        sizes = n.sizes;
        is = rw a.is n.is;
        good = n.good;
        last = λ k h.
            n.last k h
            ∙ ap (last_of width k more)
            (rw a.slot (slot_at (view slots lengths) p.nr k (holds p.body) (not (ltb width (length p.body))) h (length_view good) (ltb p.nr total) (eqb p.nr k) refl refl));
      }

  -- a new store
  module _ (slots lengths : List ℕ) (enough : under_need total width (length slots) (length lengths) ≡ false) where
    new_entries_lem : take total (new_lengths total width slots lengths) ≡ replicate total 0
    new_entries_lem = rw (← (new_made total width slots lengths enough).1) (take_at (replicate total 0) (drop total lengths) total (length-replicate total 0))

    pub new_good : Good 0 slots (new_lengths total width slots lengths)
    new_good =
        let n = need_fits total width (length slots) (length lengths) enough in
        record {
          there = n.0;
          entries = rw (← (new_made total width slots lengths enough).1) (rw (length-append (replicate total 0) (drop total lengths), length-replicate {A = ℕ} total 0) (omega arith));
          within = rw new_entries_lem (none_past width total);
          counted = rw new_entries_lem (sym (none_held width total slots));
        }

    pub new_free : (k : ℕ) → get_or (view slots (new_lengths total width slots lengths)) k free ≡ free
    new_free k = rw new_entries_lem (all_free width total slots k)
