-- The tables as the agent's definitions have them, and the square of CREATE_CLIENT.
use Prim.Native.Nat.{ℕ, zero, suc, ◌+◌, ◌<◌, ◌≤◌}
use mathlib.Core.Path.{◌≡◌, refl, sym, ap, ◌∙◌, subst}
use mathlib.Core.Logic.{◌≢◌}
use mathlib.Core.Bool.{Bool, true, false, cond}
use native.Mathlib.Omega.{arith}
use borrow.Author.Tests.{eqb-true, eqb-false, ltb-true, lt-ltb, ne_eqb}
use lib.Dec.{eqb, ltb}
use Rattle.codec.specs.declared.refusals.Refusal.TheVariants.{SessionFull}
use Rattle.sessions.specs.Table.{is_free}
use Rattle.sessions.specs.Opening.{after, live_from, live_of, free_from, free_of, taken_as, chosen_of, created_of}
use Rattle.sessions.specs.View.{Tables, Local, start_of, local_of, absent}
use Rattle.sessions.specs.Calls.{SoundStream, SoundTables, LeadsTo, create_tables}
use Rattle.sessions.proofs.Chosen.{found_by_lem}
use Rattle.sessions.proofs.Reached.{free_view, created_when}
use Rattle.sessions.proofs.SoundStreams.{stream_lasts}
use Rattle.sessions.proofs.Steps.{create_led}
use Rattle.sessions.proofs.ViewTable.{open_here, open_elsewhere}
use Rattle.agent.specs.Run.{pointer_of, id_opened}
use Rattle.agent.specs.Step as agent
use Rattle.agent.specs.Step.{with_id, next_free, chosen, open_as, keep}
use Rattle.agent.specs.Whole.{session_in}
use Rattle.std.specs.Prelude.{Err, Ok, Result, Option, None, Some}
use Rattle.codec.specs.declared.refusals.Refusal.{Refusal}

-- ---- the view: 256 ids, of which the rows beyond are never read

abbrev pub view_of : ℕ → Tables → agent.Tables
view_of next t = record { next = next; at = session_in t }

pub at_in : (t : Tables) (id : ℕ) → id < 256 → session_in t id ≡ local_of t id
at_in t id h = rw (lt-ltb id 256 h) refl

-- another session for an id, and the others as they were
module _ (t t' : Tables) (id : ℕ) (id< : id < 256) (x : Option Local) (here : local_of t' id ≡ x) (elsewhere : (j : ℕ) → j < 256 → j ≢ id → local_of t' j ≡ local_of t j) where
  with_at : (j : ℕ) → with_id id x (session_in t) j ≡ session_in t' j
  with_at j = by (eqb j id) refl
    where
      by : (b : Bool) → eqb j id ≡ b → cond b x (session_in t j) ≡ session_in t' j
      by true e = let q : j ≡ id = eqb-true j id e in rw q (sym here ∙ sym (at_in t' id id<))
      by false e = in_table (ltb j 256) refl
        where
          in_table : (c : Bool) → ltb j 256 ≡ c → cond c (local_of t j) None ≡ cond c (local_of t' j) None
          in_table true h = sym (elsewhere j (ltb-true j 256 h) (eqb-false j id e))
          in_table false h = refl

  pub with_view : ◌≡◌ {A = ℕ → Option Local} (with_id id x (session_in t)) (session_in t')
  with_view = λ i j. with_at j i

pub keep_view : (next : ℕ) (t t' : Tables) (id : ℕ) (l : Local) → id < 256 → local_of t' id ≡ Some l → ((j : ℕ) → j < 256 → j ≢ id → local_of t' j ≡ local_of t j) → keep id l (view_of next t) ≡ view_of next t'
keep_view next t t' id l h e f = λ i. record { next = next; at = with_view t t' id h (Some l) e f i }

-- ---- which id is taken

after_in : (i : ℕ) → 1 ≤ i → i ≤ 255 → (1 ≤ after i) × (after i ≤ 255)
after_in i a b = by (eqb i 255) refl
  where
    by : (f : Bool) → eqb i 255 ≡ f → (1 ≤ cond f 1 (i + 1)) × (cond f 1 (i + 1) ≤ 255)
    by true e = (omega arith, omega arith)
    by false e = let q : i ≢ 255 = eqb-false i 255 e in (omega arith, omega (arith, q))

module _ (t : Tables) where
  free_at : (i : ℕ) → i < 256 → absent (session_in t i) ≡ is_free t.sessions i
  free_at i h = ap absent (at_in t i h) ∙ sym (free_view t i)

  live_same : (n i : ℕ) → i + n ≤ 256 → live_from (λ i. absent (session_in t i)) i n ≡ live_from (is_free t.sessions) i n
  unfolding live_from
  live_same zero i h = refl
  live_same (suc n) i h = rw (free_at i (omega arith), live_same n (suc i) (omega arith)) refl

  free_same : (n i : ℕ) → 1 ≤ i → i ≤ 255 → id_opened (taken_as (free_from (is_free t.sessions) i n)) ≡ next_free (session_in t) i n
  unfolding free_from next_free
  free_same zero i a b = refl
  free_same (suc n) i a b = by (session_in t i) (free_at i (omega arith)) (free_same n (after i) (after_in i a b).0 (after_in i a b).1)
    where
      by : (x : Option Local) → absent x ≡ is_free t.sessions i → id_opened (taken_as (free_from (is_free t.sessions) (after i) n)) ≡ next_free (session_in t) (after i) n
          → ◌≡◌ {A = Option ℕ} (id_opened (taken_as (cond (is_free t.sessions i) i (free_from (is_free t.sessions) (after i) n))))
          (elim x [ None ↦ Some i | Some l ↦ next_free (session_in t) (after i) n ])
      by None e later = rw (← e, ne_eqb i 0 (λ z. omega arith)) refl
      by (Some l) e later = rw (← e) later

module _ (t : Tables) (max : ℕ) (sound : SoundTables SoundStream max t) (next : ℕ) (max≤ : max ≤ 255) (low : 1 ≤ next) (high : next ≤ 255) where
  abbrev made : Result (ℕ × ℕ) Refusal
  made = created_of t.sessions t.streams max next

  made_is : made ≡ chosen_of t.sessions max next
  made_is = created_when t.sessions t.streams max next sound.sessions_need_lem sound.streams_need_lem max≤ (omega arith)

  pub chosen_view : id_opened made ≡ chosen max (view_of next t)
  unfolding chosen_of live_of free_of chosen
  chosen_view =
      ap id_opened made_is
      ∙ by (ltb (live_from (is_free t.sessions) 1 255) max)
      ∙ ap (λ (k : ℕ). cond (ltb k max) (next_free (session_in t) next 255) None) (sym (live_same t 255 1 (omega arith)))
    where
      by : (b : Bool) → id_opened (cond b (taken_as (free_from (is_free t.sessions) next 255)) (Err SessionFull)) ≡ cond b (next_free (session_in t) next 255) None
      by true = free_same t 255 next low high
      by false = refl

  -- an id that is opened is 1 to 255, and the pointer goes on from there
  abbrev Opens : Result (ℕ × ℕ) Refusal → Type 0
  Opens (Ok (id, n)) = (n ≡ after id) × (1 ≤ id) × (id ≤ 255)
  Opens (Err r) = Unit {0}

  made_opens : Opens made
  unfolding chosen_of
  made_opens = subst Opens (sym made_is) (by (ltb (live_of t.sessions) max) (eqb (free_of t.sessions next) 0) refl)
    where
      by : (a b : Bool) → eqb (free_of t.sessions next) 0 ≡ b → Opens (cond a (cond b (Err SessionFull) (Ok ((free_of t.sessions next), (after (free_of t.sessions next))))) (Err SessionFull))
      by true true e = tt
      by true false e = let f = found_by_lem t.sessions next low high (eqb-false (free_of t.sessions next) 0 e) in (refl, f.1, f.2)
      by false b e = tt

  pub pointer_in : (1 ≤ pointer_of made next) × (pointer_of made next ≤ 255)
  pointer_in = by made made_opens
    where
      by : (c : Result (ℕ × ℕ) Refusal) → Opens c → (1 ≤ pointer_of c next) × (pointer_of c next ≤ 255)
      by (Ok (id, n)) o = let a = after_in id o.1 o.2 in rw o.0 a
      by (Err r) o = (low, high)

  module _ (key time : ℕ) where
    pub creates_led : LeadsTo SoundStream max t (create_tables made t key time)
    creates_led = create_led SoundStream stream_lasts max t sound max next key time (omega arith) (omega arith)

    pub open_view : open_as (record { time = time; key = key }) (view_of next t) (id_opened made) ≡ view_of (pointer_of made next) (create_tables made t key time)
    open_view = by made made_opens
      where
        by : (c : Result (ℕ × ℕ) Refusal) → Opens c → open_as (record { time = time; key = key }) (view_of next t) (id_opened c) ≡ view_of (pointer_of c next) (create_tables c t key time)
        by (Ok (id, n)) o =
            let h : id < 256 = omega (arith, o.2) in
            λ i. record {
              next = sym o.0 i;
              at = with_view t (create_tables (Ok (id, n)) t key time) id h (Some (start_of id key time))
                  (open_here t id n key time sound.sessions_need_lem sound.streams_need_lem h)
                  (λ j l q. open_elsewhere t id n key time sound.sessions_need_lem sound.streams_need_lem h j q) i;
            }
        by (Err r) o = refl
