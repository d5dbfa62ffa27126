-- Legs of a run: one submessage at a time; rebuilt submessages (W6) are a leg; and a run is its legs with the FRAGMENT behind each.
use Prim.Native.Nat.{ℕ, zero, suc, ◌-◌, ◌≤◌, ◌<◌}
use mathlib.Core.Path.{◌≡◌, refl, sym, ap, ◌∙◌, subst}
use mathlib.Core.Bool.{Bool, true, false, cond, true≢false}
use mathlib.Core.List.{List, [], ◌++◌, append_assoc, append-nil}
use native.Mathlib.Omega.{arith}
use lib.ListN.{length}
use Rattle.codec.specs.Reading.{read_at}
use Rattle.codec.specs.Rebuilt.{rebuilt_of}
use Rattle.sessions.specs.Table.{named_of}
use Rattle.sessions.specs.View.{Tables}
use Rattle.moves.specs.Rows.{Rows, asks_of}
use Rattle.moves.specs.declared.handle.Opening.{Opening}
use Rattle.moves.specs.declared.handle.Opening.TheVariants.{Client, Fragment, Other, Unread}
use Rattle.agent.specs.Lent.{lent, rows_of, with_rows, rebuilt_part}
use Rattle.agent.specs.Step.{Reply}
use Rattle.agent.specs.Run.{Turned, Acted, count_replies, put_replies, is_live, passed, taken_of, delivered, inside_by, inside_turned, work_in, work_at, left_by, with_acted, gathers, gathered_len, fragment_turned, sub_turned, turned, goes_on, before, run_at}
use Rattle.agent.specs.Legs.{step_of, plain_leg, Led, led_by, led, is_kept, is_entering, leads_on, leg_in, leg_at, leg_turned, kept_by}
use Rattle.agent.specs.declared.leg.Mode.{Mode}
use Rattle.agent.specs.declared.leg.Mode.TheVariants.{Datagram, Rebuilt as RebuiltOnes}
use Rattle.agent.specs.declared.leg.Leg.{Leg}
use Rattle.agent.specs.declared.leg.Step.{Step as Way}
use Rattle.agent.specs.declared.leg.Step.TheVariants.{Greets, Keeps, Delivers, Passes}
use Rattle.agent.specs.declared.turn.Frame.{Frame}
use Rattle.agent.specs.declared.turn.Ran.{Ran}
use Rattle.agent.specs.declared.turn.Taken.{Taken}
use Rattle.agent.proofs.Acknacks.{read_says_lem}
use Rattle.agent.proofs.Counted.{count_behind, put_replies_behind}
use Rattle.agent.proofs.Loops.{Loop, whole_told, whole_further, whole_ended, Steps, steps_of, Left, left_again, left_end}
use Rattle.agent.proofs.Turns.{Leaves, passed_leaves, opening_leaves, delivered_leaves, fragment_leaves, goes_within}
use Rattle.agent.proofs.Running.{run_end, run_more}
use Rattle.std.specs.Prelude.{Err, None, Ok, Option, Result, Some}
use Rattle.codec.specs.declared.layouts.Cursor.{Cursor}
use Rattle.codec.specs.declared.refusals.Refusal.{Refusal}
use Rattle.codec.specs.declared.layouts.Span.{Span}
use Rattle.codec.specs.declared.submessages.Submessage.{Submessage}

-- ---- one submessage

-- the place behind the FRAGMENT that ends a leg, else the run's
abbrev place_of : Option Taken → ℕ → ℕ
place_of None at = at
place_of (Some y) at = y.at

module _ (f : Frame) (t : Rows) (h s : List ℕ) (r : Ran) (x : Taken) where
  pub way_leaves : (k : Way) → Leaves f r x.at (led_by k f t h s r x).leg.ran (led_by k f t h s r x).replies
  way_leaves Greets = opening_leaves f (lent t.sessions t.streams t.objects [] [] [] []) r x.asked.key x.at
  way_leaves Keeps = passed_leaves f r x.at
  way_leaves Delivers = delivered_leaves f t h s r x (named_of t.sessions f.session_id)
  way_leaves Passes = passed_leaves f r x.at

  way_placed : (k : Way) → place_of (led_by k f t h s r x).leg.found (led_by k f t h s r x).leg.ran.at ≡ (led_by k f t h s r x).leg.ran.at
  way_placed Greets = refl
  way_placed Keeps = refl
  way_placed Delivers = refl
  way_placed Passes = refl

-- where the run is then, and its replies counted
pub record Leads (f : Frame) (s : List ℕ) (r : Ran) (x : Led) : Type 0 where
  pub ahead : r.at < x.leg.ran.at
  pub told : x.leg.ran.wrote ≡ count_replies f.room r.wrote x.replies

pub leads : (m : Mode) (f : Frame) (t : Rows) (h s : List ℕ) (r : Ran) → r.at < length s → Leads f s r (led m f t h s r)
unfolding led
leads m f t h s r l = go (read_at s r.at) refl
  where
    go : (q : Result (Submessage × Span × Cursor) Refusal) → read_at s r.at ≡ q → Leads f s r (led_by (step_of m (taken_of q (length s)).asked.opening) f t h s r (taken_of q (length s)))
    go (Ok (y, x, c)) e =
        let k = way_leaves f t h s r (taken_of (Ok (y, x, c)) (length s)) (step_of m (asks_of y).opening) in
        let said = read_says_lem s r.at y x c e in
        let p = k.place in
        let n = said.next in
        record { ahead = omega (arith, n, p); told = k.told }
    go (Err x) e = record { ahead = l; told = (passed_leaves f r (length s)).told }

led_placed : (m : Mode) (f : Frame) (t : Rows) (h s : List ℕ) (r : Ran) → place_of (led m f t h s r).leg.found (led m f t h s r).leg.ran.at ≡ (led m f t h s r).leg.ran.at
unfolding led
led_placed m f t h s r = let x = taken_of (read_at s r.at) (length s) in way_placed f t h s r x (step_of m x.asked.opening)

pub led_as_lem : (m : Mode) (f : Frame) (t : Rows) (h s : List ℕ) (r : Ran) → let x = taken_of (read_at s r.at) (length s) in led_by (step_of m x.asked.opening) f t h s r x ≡ led m f t h s r
unfolding led
led_as_lem m f t h s r = refl

-- all that a submessage leaves, where what it was matched to is equal to what it is
pub as_led : (room : ℕ) (out out' : List ℕ) (at : ℕ) (x y : Led) → x ≡ y → out' ≡ put_replies room out at x.replies
    → (x.leg ≡ y.leg) × (x.rows.sessions ≡ y.rows.sessions) × (x.rows.streams ≡ y.rows.streams) × (x.rows.objects ≡ y.rows.objects)
    × (out' ≡ put_replies room out at y.replies)
as_led room out out' at x y e written = (
  ap (λ (t : Led). t.leg) e,
  ap (λ (t : Led). t.rows.sessions) e,
  ap (λ (t : Led). t.rows.streams) e,
  ap (λ (t : Led). t.rows.objects) e,
  written ∙ ap (λ (t : Led). put_replies room out at t.replies) e,
)

-- ---- all of them

-- what a leg works over, and the FRAGMENT that has ended it
pub record Stage : Type 0 where
  pub rows : Rows
  pub found : Option Taken

abbrev pub staged : Rows → Stage
staged t = record { rows = t; found = None }

after_first : (b c : Bool) → cond b false c ≡ true → c ≡ true
after_first true c e = absurd (true≢false (sym e))
after_first false c e = e

leads_goes : (m : Mode) (s : List (List ℕ)) (id len : ℕ) (l : Leg) → leads_on m s id len l ≡ true → goes_on len l.ran ≡ true
leads_goes m s id len l e =
    let b = cond (is_entering m) (is_live (named_of s id)) false in
    after_first b (goes_on len l.ran) (after_first (is_kept l.found) (cond b false (goes_on len l.ran)) e)

module _ (m : Mode) (f : Frame) (h s : List ℕ) where
  abbrev leg_of : Ran → Stage → Leg
  leg_of r w = record { ran = r; found = w.found }

  abbrev goes : Ran → Stage → Bool
  goes r w = leads_on m w.rows.sessions f.session_id (length s) (leg_of r w)

  abbrev rested : Ran → Stage → Led
  rested r w = record { leg = leg_of r w; rows = w.rows; replies = [] }

  abbrev followed : Led → Led → Led
  followed x y = record { leg = y.leg; rows = y.rows; replies = x.replies ++ y.replies }

  abbrev stage_of : Led → Stage
  stage_of x = record { rows = x.rows; found = x.leg.found }

  pub leg_none : (r : Ran) (w : Stage) → leg_in zero m f h s (leg_of r w) w.rows ≡ rested r w
  unfolding leg_in
  leg_none r w = refl

  pub leg_one : (n : ℕ) (r : Ran) (w : Stage)
      → leg_in (suc n) m f h s (leg_of r w) w.rows
      ≡ cond (goes r w) (followed (led m f w.rows h s r) (leg_in n m f h s (led m f w.rows h s r).leg (led m f w.rows h s r).rows)) (rested r w)
  unfolding leg_in
  leg_one n r w = refl

  pub within : (r : Ran) (w : Stage) → goes r w ≡ true → r.at < length s
  within r w e = goes_within (length s) r (leads_goes m w.rows.sessions f.session_id (length s) (leg_of r w) e)

  abbrev pub leg_loop : Loop Stage Led
  leg_loop =
      record {
        len = length s;
        room = f.room;
        goes = goes;
        turn = λ r w. led m f w.rows h s r;
        ran = λ x. x.leg.ran;
        state = stage_of;
        replies = λ x. x.replies;
        still = rested;
        join = followed;
        all = λ n r w. leg_in n m f h s (leg_of r w) w.rows;
        whole = λ r w. leg_in (length s - r.at) m f h s (leg_of r w) w.rows;
        still_is = λ r w. (refl, refl, refl);
        join_is = λ x y. (refl, refl, refl);
        none_left = leg_none;
        one_more = leg_one;
        whole_is = λ r w. refl;
        within = within;
        ahead = λ r w e. (leads m f w.rows h s r (within r w e)).ahead;
        told = λ r w e. (leads m f w.rows h s r (within r w e)).told;
      }

  abbrev pub leg_steps : Steps Stage Led
  leg_steps = steps_of leg_loop

  leg_told : (r : Ran) (t : Rows) → (leg_at m f h s r t).leg.ran.wrote ≡ count_replies f.room r.wrote (leg_at m f h s r t).replies
  unfolding leg_at
  leg_told r t = whole_told leg_loop r (staged t)

  leg_further : (r : Ran) (t : Rows) → goes r (staged t) ≡ true → r.at < (leg_at m f h s r t).leg.ran.at
  unfolding leg_at
  leg_further r t e = whole_further leg_loop r (staged t) e

  pub leg_ended : (r : Ran) (t : Rows) → leads_on m (leg_at m f h s r t).rows.sessions f.session_id (length s) (leg_at m f h s r t).leg ≡ false
  unfolding leg_at
  leg_ended r t = whole_ended leg_loop r (staged t)

  in_placed : (n : ℕ) (l : Leg) (t : Rows) → place_of l.found l.ran.at ≡ l.ran.at
      → place_of (leg_in n m f h s l t).leg.found (leg_in n m f h s l t).leg.ran.at ≡ (leg_in n m f h s l t).leg.ran.at
  unfolding leg_in
  in_placed zero l t e = e
  in_placed (suc n) l t e =
      go (leads_on m t.sessions f.session_id (length s) l) (in_placed n (led m f t h s l.ran).leg (led m f t h s l.ran).rows (led_placed m f t h s l.ran))
    where
      x : Led
      x = led m f t h s l.ran

      y : Led
      y = leg_in n m f h s x.leg x.rows

      go : (b : Bool) → place_of y.leg.found y.leg.ran.at ≡ y.leg.ran.at
          → let z = cond b (followed x y) (record { leg = l; rows = t; replies = [] }) in place_of z.leg.found z.leg.ran.at ≡ z.leg.ran.at
      go true k = k
      go false k = e

  leg_placed : (r : Ran) (t : Rows) → place_of (leg_at m f h s r t).leg.found (leg_at m f h s r t).leg.ran.at ≡ (leg_at m f h s r t).leg.ran.at
  unfolding leg_at
  leg_placed r t = in_placed (length s - r.at) (plain_leg r) t refl

-- what the loop of `lead` keeps
module _ (m : Mode) (f : Frame) (h s : List ℕ) (start : Ran) (t : Rows) (out : List ℕ) (l : Leg) (t' : Rows) (w : List ℕ) where
  abbrev stage : Stage
  stage = record { rows = t'; found = l.found }

  abbrev led_all : Led
  led_all = leg_at m f h s start t

  abbrev pub Keeps-on : Type 0
  Keeps-on = Left (leg_steps m f h s) start (staged t) out l.ran stage w

  pub lead_done : Keeps-on → leads_on m t'.sessions f.session_id (length s) l ≡ false
      → (l ≡ led_all.leg) × (t'.sessions ≡ led_all.rows.sessions) × (t'.streams ≡ led_all.rows.streams) × (t'.objects ≡ led_all.rows.objects)
      × (w ≡ put_replies f.room out start.wrote led_all.replies)
  unfolding leg_at
  lead_done left e =
      let (a, u, b) = left_end (leg_steps m f h s) start (staged t) out l.ran stage w left e in (
        λ i. record { ran = a i; found = (u i).found },
        ap (λ (z : Stage). z.rows.sessions) u,
        ap (λ (z : Stage). z.rows.streams) u,
        ap (λ (z : Stage). z.rows.objects) u,
        b,
      )

-- ---- rebuilt submessages are a leg

abbrev pub led_as : Acted → Led
led_as a = record { leg = plain_leg a.ran; rows = a.rows; replies = a.replies }

module _ (f : Frame) (h s : List ℕ) where
  inside_way : (o : Opening) (t : Rows) (r : Ran) (x : Taken) → led_by (step_of RebuiltOnes o) f t h s r x ≡ led_as (inside_by o f t h s r x)
  inside_way Client t r x = refl
  inside_way Fragment t r x = refl
  inside_way Other t r x = refl
  inside_way Unread t r x = refl

  inside_led : (t : Rows) (r : Ran) → led RebuiltOnes f t h s r ≡ led_as (inside_turned f t h s r)
  unfolding led inside_turned
  inside_led t r = let x = taken_of (read_at s r.at) (length s) in inside_way x.asked.opening t r x

  in_work : (n : ℕ) (r : Ran) (t : Rows) → leg_in n RebuiltOnes f h s (plain_leg r) t ≡ led_as (work_in n f h s r t)
  unfolding leg_in work_in
  in_work zero r t = refl
  in_work (suc n) r t = go (goes_on (length s) r) (in_work n (inside_turned f t h s r).ran (inside_turned f t h s r).rows)
    where
      x : Acted
      x = inside_turned f t h s r

      y : Acted
      y = work_in n f h s x.ran x.rows

      onward : Led → Led
      onward z = let v = leg_in n RebuiltOnes f h s z.leg z.rows in record { leg = v.leg; rows = v.rows; replies = z.replies ++ v.replies }

      go : (b : Bool) → leg_in n RebuiltOnes f h s (plain_leg x.ran) x.rows ≡ led_as y
          → cond b (onward (led RebuiltOnes f t h s r)) (record { leg = plain_leg r; rows = t; replies = [] })
          ≡ led_as (cond b (record { ran = y.ran; rows = y.rows; replies = x.replies ++ y.replies }) (record { ran = r; rows = t; replies = [] }))
      go true e = ap onward (inside_led t r) ∙ ap (λ (v : Led). record { leg = v.leg; rows = v.rows; replies = x.replies ++ v.replies }) e
      go false e = refl

  pub leg_work : (r : Ran) (t : Rows) → leg_at RebuiltOnes f h s r t ≡ led_as (work_at f h s r t)
  unfolding leg_at work_at
  leg_work r t = in_work (length s - r.at) r t

-- ---- a datagram's submessage is one of a leg, with the FRAGMENT behind it

left_passed : (o : Result ℕ Refusal) (f : Frame) (h s : List ℕ) (n : ℕ) (r : Ran) (at : ℕ) (t : Rows) → left_by o f h s n r at t ≡ left_by o f h s n (passed r at) at t
left_passed (Ok k) f h s n r at t = refl
left_passed (Err x) f h s n r at t = refl

module _ (f : Frame) (d : List ℕ) where
  abbrev kept : Led → Tables → Turned
  kept y t = before (leg_turned y t) (λ r' t'. kept_by y.leg.found f d r' t')

  fragment_passed : (t : Tables) (r : Ran) (x : Taken) → fragment_turned f t d r x ≡ fragment_turned f t d (passed r x.at) x
  unfolding fragment_turned
  fragment_passed t r x =
      let v = gathers f t d x in
      let n = gathered_len f t d x in
      let s = rebuilt_part v.rebuilt n in
      ap (with_acted v) (left_passed (rebuilt_of s) f v.held s n r x.at (rows_of v))

  sub_led : (o : Opening) (t : Tables) (r : Ran) (x : Taken) → sub_turned o f t d r x ≡ kept (led_by (step_of Datagram o) f (rows_of t) t.held d r x) t
  sub_led Client t r x = refl
  sub_led Fragment t r x = fragment_passed t r x
  sub_led Other t r x =
      let y = delivered (named_of t.sessions f.session_id) f (rows_of t) t.held d r x in
      ap (λ (rs : List Reply). record { ran = y.ran; tables = with_rows t y.rows; replies = rs }) (sym (append-nil y.replies))
  sub_led Unread t r x = refl

  turned_led : (t : Tables) (r : Ran) → turned f t d r ≡ kept (led Datagram f (rows_of t) t.held d r) t
  unfolding turned led
  turned_led t r = let x = taken_of (read_at d r.at) (length d) in sub_led x.asked.opening t r x

  -- ---- a run is its legs

  abbrev pub strode : Ran → Tables → Turned
  strode r t = kept (leg_at Datagram f t.held d r (rows_of t)) t

  abbrev rest : Turned → Turned
  rest x = before x (λ r t. run_at f d r t)

  -- a leg that a FRAGMENT has ended is at its end
  leg_rests : (n : ℕ) (h : List ℕ) (l : Leg) (t : Rows) → is_kept l.found ≡ true → leg_in n Datagram f h d l t ≡ record { leg = l; rows = t; replies = [] }
  unfolding leg_in
  leg_rests zero h l t e = refl
  leg_rests (suc n) h l t e = rw e refl

  -- the first submessage of a leg, and the rest of it
  abbrev further : ℕ → List ℕ → Led → Led
  further n h x = let y = leg_in n Datagram f h d x.leg x.rows in record { leg = y.leg; rows = y.rows; replies = x.replies ++ y.replies }

  first_led : (n : ℕ) (t : Tables) (a : Ran) (g : Option Taken) (w : Rows) (rs : List Reply)
      → run_at f d a (with_rows t w) ≡ rest (kept (leg_in n Datagram f t.held d (plain_leg a) w) t)
      → let x : Led = record { leg = record { ran = a; found = g }; rows = w; replies = rs } in rest (kept x t) ≡ rest (kept (further n t.held x) t)
  first_led n t a None w rs later =
      let y = leg_in n Datagram f t.held d (plain_leg a) w in
      let k = kept_by y.leg.found f d y.leg.ran (with_rows t y.rows) in
      let q = run_at f d k.ran k.tables in
      let assoc = ap (λ (zs : List Reply). zs ++ q.replies) (append_assoc rs y.replies k.replies) ∙ append_assoc rs (y.replies ++ k.replies) q.replies in
      ap (λ (v : Turned). record { ran = v.ran; tables = v.tables; replies = (rs ++ []) ++ v.replies }) later
      ∙ ap (λ (zs : List Reply). record { ran = q.ran; tables = q.tables; replies = zs }) (ap (λ (zs : List Reply). zs ++ ((y.replies ++ k.replies) ++ q.replies)) (append-nil rs) ∙ sym assoc)
  first_led n t a (Some u) w rs later =
      let l : Leg = record { ran = a; found = Some u } in
      ap (λ (zs : List Reply). rest (kept (record { leg = l; rows = w; replies = zs }) t)) (sym (append-nil rs))
      ∙ ap (λ (y : Led). rest (kept (record { leg = y.leg; rows = y.rows; replies = rs ++ y.replies }) t)) (sym (leg_rests n t.held l w refl))

  in_legs : (n : ℕ) (r : Ran) (t : Tables) → length d - r.at ≤ n → run_at f d r t ≡ rest (kept (leg_in n Datagram f t.held d (plain_leg r) (rows_of t)) t)
  unfolding leg_in
  in_legs zero r t h = refl
  in_legs (suc n) r t h = go (goes_on (length d) r) refl (λ k. in_legs n x.leg.ran (with_rows t x.rows) k)
    where
      x : Led
      x = led Datagram f (rows_of t) t.held d r

      go : (b : Bool) → goes_on (length d) r ≡ b
          → (length d - x.leg.ran.at ≤ n → run_at f d x.leg.ran (with_rows t x.rows) ≡ rest (kept (leg_in n Datagram f t.held d (plain_leg x.leg.ran) x.rows) t))
          → run_at f d r t ≡ rest (kept (cond b (further n t.held x) (record { leg = plain_leg r; rows = rows_of t; replies = [] })) t)
      go true e later =
          let w = goes_within (length d) r e in
          let a = (leads Datagram f (rows_of t) t.held d r w).ahead in
          run_more f d r t e
          ∙ (ap rest (turned_led t r) ∙ first_led n t x.leg.ran x.leg.found x.rows x.replies (later (omega (arith, a, w, h))))
      go false e later = refl

  pub run_strides : (r : Ran) (t : Tables) → run_at f d r t ≡ before (strode r t) (λ r' t'. run_at f d r' t')
  unfolding leg_at
  run_strides r t = in_legs (length d - r.at) r t (omega arith)

  -- ---- what a leg with the FRAGMENT behind it leaves

  kept_leaves : (g : Option Taken) (r : Ran) (t : Tables) → Leaves f r (place_of g r.at) (kept_by g f d r t).ran (kept_by g f d r t).replies
  kept_leaves None r t = passed_leaves f r r.at
  kept_leaves (Some x) r t = fragment_leaves f t d r x

  pub strode_told : (r : Ran) (t : Tables) → (strode r t).ran.wrote ≡ count_replies f.room r.wrote (strode r t).replies
  strode_told r t =
      let y = leg_at Datagram f t.held d r (rows_of t) in
      let k = kept_by y.leg.found f d y.leg.ran (with_rows t y.rows) in
      (kept_leaves y.leg.found y.leg.ran (with_rows t y.rows)).told
      ∙ (ap (λ (w : ℕ). count_replies f.room w k.replies) (leg_told Datagram f t.held d r (rows_of t)) ∙ sym (count_behind f.room r.wrote y.replies k.replies))

  pub strode_ahead : (r : Ran) (t : Tables) → goes_on (length d) r ≡ true → r.at < (strode r t).ran.at
  strode_ahead r t e =
      let y = leg_at Datagram f t.held d r (rows_of t) in
      let p = (kept_leaves y.leg.found y.leg.ran (with_rows t y.rows)).place in
      let q = leg_placed Datagram f t.held d r (rows_of t) in
      let a = leg_further Datagram f t.held d r (rows_of t) e in
      omega (arith, p, q, a)

  pub run_ends : (r : Ran) (t : Tables) → goes_on (length d) r ≡ false → ((run_at f d r t).ran ≡ r) × ((run_at f d r t).tables ≡ t) × ((run_at f d r t).replies ≡ [])
  run_ends r t e =
      let k = run_end f d r t e in
      (ap (λ (x : Turned). x.ran) k, ap (λ (x : Turned). x.tables) k, ap (λ (x : Turned). x.replies) k)

  pub run_goes : (r : Ran) (t : Tables)
      → let x = strode r t in let y = run_at f d x.ran x.tables in ((run_at f d r t).ran ≡ y.ran) × ((run_at f d r t).tables ≡ y.tables) × ((run_at f d r t).replies ≡ x.replies ++ y.replies)
  run_goes r t =
      let k = run_strides r t in
      (ap (λ (x : Turned). x.ran) k, ap (λ (x : Turned). x.tables) k, ap (λ (x : Turned). x.replies) k)

  abbrev pub run_steps : Steps Tables Turned
  run_steps =
      record {
        len = length d;
        room = f.room;
        goes = λ r t. goes_on (length d) r;
        turn = strode;
        ran = λ x. x.ran;
        state = λ x. x.tables;
        replies = λ x. x.replies;
        whole = λ r t. run_at f d r t;
        ends = run_ends;
        goes_on = λ r t e. run_goes r t;
        within = λ r t e. goes_within (length d) r e;
        ahead = strode_ahead;
        told = λ r t e. strode_told r t;
      }

-- ---- what the loop of `run` keeps

module _ (f : Frame) (d : List ℕ) (start : Ran) (t : Tables) (out : List ℕ) (r : Ran) (t' : Tables) (w : List ℕ) where
  abbrev y : Led
  y = leg_at Datagram f t'.held d r (rows_of t')

  abbrev k : Turned
  k = kept_by y.leg.found f d y.leg.ran (with_rows t' y.rows)

  pub run_again : Left (run_steps f d) start t out r t' w → goes_on (length d) r ≡ true
      → Left (run_steps f d) start t out k.ran k.tables (put_replies f.room (put_replies f.room w r.wrote y.replies) y.leg.ran.wrote k.replies)
  run_again left e =
      let next = left_again (run_steps f d) start t out r t' w left e in
      let written = ap (λ (n : ℕ). put_replies f.room (put_replies f.room w r.wrote y.replies) n k.replies) (leg_told Datagram f t'.held d r (rows_of t'))
      ∙ sym (put_replies_behind f.room w r.wrote y.replies k.replies) in
      subst (λ (v : List ℕ). Left (run_steps f d) start t out k.ran k.tables v) (sym written) next
