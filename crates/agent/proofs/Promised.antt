-- What holds of every call of the host: refusals change nothing, 13 exactly if the output is too short, the output, and no 16 behind set-up.
use Prim.Native.Nat.{ℕ, ◌<◌, ◌≤◌}
use mathlib.Core.Path.{◌≡◌, refl, sym, ap, ◌∙◌, subst}
use mathlib.Core.Logic.{◌≢◌}
use mathlib.Core.Bool.{Bool, true, false, cond}
use mathlib.Core.List.{List, [], ◌∷◌, ◌++◌, map, append-nil}
use native.Mathlib.Omega.{arith}
use borrow.Author.Tests.{ltb-true, ltb-false, le-ltb}
use lib.Dec.{leb, ltb}
use lib.ListN.{length}
use Rattle.codec.specs.Bytes.{put_at}
use Rattle.codec.specs.Grammar.{Said, reading}
use Rattle.codec.specs.Answers.{Answer as Read, gives, refused_as}
use Rattle.codec.specs.declared.header.MessageHeader.{MessageHeader}
use Rattle.isolation.specs.Claim as claim
use Rattle.codec.specs.declared.refusals.Refusal.TheVariants.{OverLimit, WindowFault}
use Rattle.hours.specs.Windows.{Window, week_minutes, is_open, all_fit, checked_of}
use Rattle.hours.specs.Week.{is_minute}
use Rattle.sessions.specs.Need.{stores_fit}
use Rattle.sessions.specs.Setup.{set_up_of}
use Rattle.sessions.specs.View.{Tables}
use Rattle.moves.specs.Calls.{fits}
use Rattle.agent.specs.Brings.{moment_of, message_from}
use Rattle.agent.specs.declared.state.Given.{Given}
use Rattle.agent.specs.Rules.{rules}
use Rattle.agent.specs.Step as step
use Rattle.agent.specs.Step.{Open, joined_replies, run, continued, settle, begin}
use Rattle.agent.specs.Host.{set_up_by, set_up_as}
use Rattle.agent.specs.Claim as lists
use Rattle.agent.specs.Whole as whole
use Rattle.agent.specs.Whole.{State, Event, datagram, answer, removal, sweep, Did, step_of, opens_as, agent_of, event_of, Hosted, set_up_with, set_up_answer}
use Rattle.agent.specs.declared.state.Agent.{Agent}
use Rattle.agent.proofs.Laws.{went, went_not}
use Rattle.agent.proofs.Shown.{joined_replies_same}
use Rattle.agent.proofs.SquareStep.{Inv, step_square}
use Rattle.agent.proofs.WholeInStep.{Holds, holds_empty, holds_step}
use Rattle.agent.proofs.WireNumbers.{OfWire, reading_wire}
use Rattle.agent.proofs.Planned.{number_in, said_by, refusing, Plan, stops, goes, carry, Good, planned}
use Rattle.std.specs.Prelude.{Err, None, Ok, Option, Some}

-- ---- in any state

-- a plan that goes, with an output
module _ (st st' : State) (q : step.Result) (out : List ℕ) where
  abbrev gone : Bool → Did
  gone c = cond c (refusing st out 13 0) (record { state = st'; out = put_at out 0 (said_by q); result = q })

  gone_keeps : went q ≡ true → (c : Bool) (number byte : ℕ) → (gone c).result ≡ step.refused number byte → ((gone c).state ≡ st) × ((gone c).out ≡ out)
  gone_keeps g true number byte z = (refl, refl)
  gone_keeps g false number byte z = absurd (went_not q number byte g z)

  gone_shows : (c : Bool) → ltb (length out) (length (said_by q)) ≡ c → (length (said_by (gone c).result) ≤ length out) × ((gone c).out ≡ put_at out 0 (said_by (gone c).result))
  unfolding put_at
  gone_shows true e = (omega arith, refl)
  gone_shows false e = (ltb-false (length out) (length (said_by q)) e, refl)

  gone_13 : went q ≡ true → (c : Bool) → ltb (length out) (length (said_by q)) ≡ c → (byte : ℕ) → (gone c).result ≡ step.refused 13 byte → length out < length (said_by q)
  gone_13 g true e byte z = ltb-true (length out) (length (said_by q)) e
  gone_13 g false e byte z = absurd (went_not q 13 byte g z)

  gone_only : went q ≡ true → (c : Bool) (number byte : ℕ) → (gone c).result ≡ step.refused number byte → number ≡ 13
  gone_only g true number byte z = let k : 13 ≡ number = ap number_in z in sym k
  gone_only g false number byte z = absurd (went_not q number byte g z)

-- "a refusal changes no table and no lent byte"
pub refused_keeps : (st : State) (e : Event) (out : List ℕ) (number byte : ℕ) → (step_of st e out).result ≡ step.refused number byte → ((step_of st e out).state ≡ st) × ((step_of st e out).out ≡ out)
refused_keeps st e out number byte z = let p = planned st e in rw (p.carries out) (by p.plan p.good (sym (ap (λ (d : Did). d.result) (p.carries out)) ∙ z))
  where
    by : (p : Plan) → Good p → (carry st p out).result ≡ step.refused number byte → ((carry st p out).state ≡ st) × ((carry st p out).out ≡ out)
    by (stops n b) g z = (refl, refl)
    by (goes st' q) g z = gone_keeps st st' q out g (ltb (length out) (length (said_by q))) number byte z

-- 13, "lent output shorter than the result": the same call with another output
abbrev pub with_output : State → Did → List ℕ → Did
with_output st d out =
    cond (ltb (length out) (length (said_by d.result))) (refusing st out 13 0) (record { state = d.state; out = put_at out 0 (said_by d.result); result = d.result })

-- a call that an output lets go is refused with any other as 13 exactly if that is too short for the same replies, else it does the same
pub refused_13 : (st : State) (e : Event) (out out' : List ℕ) → went (step_of st e out').result ≡ true → step_of st e out ≡ with_output st (step_of st e out') out
refused_13 st e out out' h =
    let p = planned st e in
    p.carries out ∙ by p.plan (sym (ap (λ (d : Did). went d.result) (p.carries out')) ∙ h) ∙ ap (λ (d : Did). with_output st d out) (sym (p.carries out'))
  where
    no : false ≡ true → ⊥
    no e = let z : ◌≡◌ {A = ℕ} 0 1 = cc in omega arith

    by : (p : Plan) → went (carry st p out').result ≡ true → carry st p out ≡ with_output st (carry st p out') out
    by (stops n b) h = absurd (no h)
    by (goes st' q) h = on (ltb (length out') (length (said_by q))) h
      where
        on : (c : Bool) → went (gone st st' q out' c).result ≡ true → carry st (goes st' q) out ≡ with_output st (gone st st' q out' c) out
        on true h = absurd (no h)
        on false h = refl

-- and it is refused as 13 only where an output would let it go, and this one is too short for what it then says
pub only_short : (st : State) (e : Event) (out : List ℕ) (byte : ℕ) → (step_of st e out).result ≡ step.refused 13 byte
    → (out' : List ℕ) × (went (step_of st e out').result ≡ true) × (length out < length (said_by (step_of st e out').result))
only_short st e out byte z = let p = planned st e in by p.plan p.good p.carries (sym (ap (λ (d : Did). d.result) (p.carries out)) ∙ z)
  where
    by : (p : Plan) → Good p → ((out : List ℕ) → step_of st e out ≡ carry st p out) → (carry st p out).result ≡ step.refused 13 byte
        → (out' : List ℕ) × (went (step_of st e out').result ≡ true) × (length out < length (said_by (step_of st e out').result))
    by (stops n b) g c z = absurd (g (ap number_in z))
    by (goes st' q) g c z =
        let bytes = said_by q in
        let same : (step_of st e bytes).result ≡ q = ap (λ (d : Did). d.result) (c bytes ∙ ap (gone st st' q bytes) (le-ltb (length bytes) (length bytes) (omega arith))) in
        (bytes, ap went same ∙ g, rw same (gone_13 st st' q out g (ltb (length out) (length bytes)) refl byte z))

-- no other refusal looks at the output
pub same_refusal : (st : State) (e : Event) (out : List ℕ) (number byte : ℕ) → number ≢ 13 → (step_of st e out).result ≡ step.refused number byte
    → (out' : List ℕ) → (step_of st e out').result ≡ step.refused number byte
same_refusal st e out number byte h z out' = let p = planned st e in ap (λ (d : Did). d.result) (p.carries out') ∙ by p.plan p.good (sym (ap (λ (d : Did). d.result) (p.carries out)) ∙ z)
  where
    by : (p : Plan) → Good p → (carry st p out).result ≡ step.refused number byte → (carry st p out').result ≡ step.refused number byte
    by (stops n b) g z = z
    by (goes st' q) g z = absurd (h (gone_only st st' q out g (ltb (length out) (length (said_by q))) number byte z))

-- ---- no reply is hidden

put_none : (out : List ℕ) → out ≡ put_at out 0 []
unfolding put_at
put_none out = refl

module _ (t : Tables) (hours : List ℕ) (ws : List Window) (max timeout : ℕ) (a : Agent) where
  abbrev A : claim.Agent (rules (is_open ws) timeout)
  A = whole.agent t hours ws max timeout a

  -- what a call writes into the lent output: the bytes of its replies as term 3 has them, and the ids that a sweep lists
  abbrev pub written_by : State → Hosted → List ℕ
  written_by st e = lists.out_bytes (is_open ws) max timeout (claim.outs_of (rules (is_open ws) timeout) (A.step st e).1) ++ lists.ids_in (is_open ws) max timeout (step_of st e.event e.out).result

  said_same : (w : Option Open) (q : step.Result) → said_by q ≡ lists.out_bytes (is_open ws) max timeout (claim.outs_of (rules (is_open ws) timeout) (lists.result_of (is_open ws) max timeout w q)) ++ lists.ids_in (is_open ws) max timeout q
  unfolding lists.out_bytes
  said_same w (step.refused number byte) = refl
  said_same w (step.ran rs c) = joined_replies_same (is_open ws) max timeout rs ∙ sym (append-nil (lists.out_bytes (is_open ws) max timeout (map (lists.out_of (is_open ws) max timeout) rs)))
  said_same w (step.removed b) = refl
  said_same w (step.swept ids) = refl

  -- the lent output after any call, in any state: what it writes, for which there is room; then what stood there before
  pub shown : (st : State) (e : Hosted) → (length (written_by st e) ≤ length e.out) × ((step_of st e.event e.out).out ≡ put_at e.out 0 (written_by st e))
  shown st e =
      let d = step_of st e.event e.out in
      subst (λ (bs : List ℕ). (length bs ≤ length e.out) × (d.out ≡ put_at e.out 0 bs)) (said_same (opens_as d.state.lent d.state.tables.rebuilt d.state.agent.waits) d.result) (shows e.event e.out)
    where
      carried : (p : Plan) (out : List ℕ) → (length (said_by (carry st p out).result) ≤ length out) × ((carry st p out).out ≡ put_at out 0 (said_by (carry st p out).result))
      carried (stops n b) out = nothing out
        where
          nothing : (out : List ℕ) → (length (said_by (step.refused n b)) ≤ length out) × (out ≡ put_at out 0 [])
          nothing out = (omega arith, put_none out)
      carried (goes st' q) out = gone_shows st st' q out (ltb (length out) (length (said_by q))) refl

      shows : (e : Event) (out : List ℕ) → (length (said_by (step_of st e out).result) ≤ length out) × ((step_of st e out).out ≡ put_at out 0 (said_by (step_of st e out).result))
      shows e out = let p = planned st e in rw (p.carries out) (carried p.plan out)

-- ---- behind set-up

-- what a call may be refused with: 1 to 5, 12, 13, 14, 15, 20
pub data Listed : ℕ → Type 0 where
  wire : (number : ℕ) → OfWire number → Listed number
  too_long_lem : Listed 12
  output_short : Listed 13
  store_full : Listed 14
  out_of_turn : Listed 15
  no_such_minute : Listed 20

abbrev ListedIn : step.Result → Type 0
ListedIn (step.refused number byte) = Listed number
ListedIn (step.ran rs c) = Unit {0}
ListedIn (step.removed b) = Unit {0}
ListedIn (step.swept ids) = Unit {0}

finish_listed : (st : step.Agent) (out : List ℕ) (st' : step.Agent) (bytes : List ℕ) (q : step.Result) → ListedIn q → ListedIn (step.finish st out st' bytes q).result
finish_listed st out st' bytes q h = by (ltb (length out) (length bytes))
  where
    by : (c : Bool) → ListedIn (cond c (step.refuse st out 13 0) (record { agent = st'; out = put_at out 0 bytes; result = q })).result
    by true = output_short
    by false = h

settle_listed : (st : step.Agent) (out : List ℕ) (r : step.Ran) → ListedIn (settle st out r).result
settle_listed st out r =
    finish_listed st out (step.with_tables st r.tables (step.open_of r.stop)) (joined_replies r.replies) (step.ran r.replies (step.call_of r.stop)) tt

begin_listed : (st : step.Agent) (out : List ℕ) (given : Given) (bytes : List ℕ) (x : Read (MessageHeader × List Said)) → reading bytes ≡ x → ListedIn (begin st out given x).result
begin_listed st out given bytes (refused_as number byte) e = wire number (reading_wire bytes number byte e)
begin_listed st out given bytes (gives x) e = let m = message_from (moment_of st.is_open given) x.0 x.1 in settle_listed st out (run st.max m.header m.subs st.tables)

stepped_listed : (w : Option Open) (st : step.Agent) (e : step.Event) (out : List ℕ) → ListedIn (step.stepped w st e out).result
stepped_listed None st (step.datagram given bytes) out = by (is_minute given.day given.minute)
  where
    by : (b : Bool) → ListedIn (cond b (begin st out given (reading bytes)) (step.refuse st out 20 0)).result
    by true = begin_listed st out given bytes (reading bytes) refl
    by false = no_such_minute
stepped_listed None st (step.answer a) out = out_of_turn
stepped_listed None st (step.removal id) out =
    finish_listed st out (step.with_locals st (step.with_id id None st.tables.at)) [] (step.removed (step.is_live (st.tables.at id))) tt
stepped_listed None st (step.sweep now) out =
    let is = step.lapsed_ids st.timeout now st.tables.at in
    finish_listed st out (step.with_locals st (λ i. step.stays st.timeout now (st.tables.at i))) is (step.swept is) tt
stepped_listed (Some w) st (step.datagram given bytes) out = out_of_turn
stepped_listed (Some w) st (step.answer a) out = by (fits w.pending.asked.task a) (step.too_long w.pending.asked a) (step.over_held w a st.tables)
  where
    by : (b c d : Bool)
        → ListedIn (cond b (cond c (step.refuse st out 12 0) (cond d (step.refuse st out 14 0) (settle st out (continued st.max w a st.tables)))) (step.refuse st out 15 0)).result
    by true true d = too_long_lem
    by true false true = store_full
    by true false false = settle_listed st out (continued st.max w a st.tables)
    by false c d = out_of_turn
stepped_listed (Some w) st (step.removal id) out = out_of_turn
stepped_listed (Some w) st (step.sweep now) out = out_of_turn

step_listed : (st : step.Agent) (e : step.Event) (out : List ℕ) → ListedIn (step.step st e out).result
unfolding step.step
step_listed st e out = stepped_listed st.waits st e out

-- the refusals of a state for which the invariant holds
pub listed : (st : State) → Inv st → (e : Event) (out : List ℕ) (number byte : ℕ) → (step_of st e out).result ≡ step.refused number byte → Listed number
listed st v e out number byte z = subst ListedIn (sym (step_square st v e out).result ∙ z) (step_listed (agent_of st) (event_of e) out)

listed_16 : (number : ℕ) → Listed number → number ≢ 16
listed_16 number (wire n h) e = let z = h.most in omega (arith, z, e)
listed_16 number too_long_lem e = omega (arith, e)
listed_16 number output_short e = omega (arith, e)
listed_16 number store_full e = omega (arith, e)
listed_16 number out_of_turn e = omega (arith, e)
listed_16 number no_such_minute e = omega (arith, e)

-- whatever stood in the tables that set-up accepts, no call behind it is refused as 16
module _ (t : Tables) (hours : List ℕ) (ws : List Window) (max timeout : ℕ) (a : Agent) (made : set_up_with t hours ws max timeout ≡ Ok a) where
  abbrev whole_agent : claim.Agent (rules (is_open ws) timeout)
  whole_agent = whole.agent t hours ws max timeout a

  -- the state that a list of calls leads to
  abbrev pub state_after : List Hosted → State
  state_after H = (claim.reached (rules (is_open ws) timeout) whole_agent (claim.set_up (rules (is_open ws) timeout) whole_agent) H).state

  pub inv_after : (H : List Hosted) → Inv (state_after H)
  inv_after H = (on H (claim.set_up (rules (is_open ws) timeout) whole_agent) (holds_empty t hours ws max timeout a made)).0
    where
      on : (H : List Hosted) (p : claim.Point (rules (is_open ws) timeout) whole_agent) → Holds t hours ws max timeout a made p.state → Holds t hours ws max timeout a made (claim.reached (rules (is_open ws) timeout) whole_agent p H).state
      on [] p v = v
      on (e ∷ H) p v = on H (claim.next (rules (is_open ws) timeout) whole_agent p e) (holds_step t hours ws max timeout a made p.state e v)

  pub never_16 : (H : List Hosted) (e : Hosted) (byte : ℕ) → (step_of (state_after H) e.event e.out).result ≡ step.refused 16 byte → ⊥
  never_16 H e byte z = listed_16 16 (listed (state_after H) (inv_after H) e.event e.out 16 byte z) refl

-- 16, "`max_clients` over 255, lent store under its documented need", then 19 of the windows: set-up is refused exactly so, and else the agent is empty
pub set_up_answers : (t : Tables) (hours : List ℕ) (ws : List Window) (max timeout : ℕ)
    → set_up_answer (set_up_with t hours ws max timeout)
    ≡ cond (stores_fit (length t.sessions) (length t.streams) (length t.objects) (length t.held) (length t.parts) (length t.lengths) (length t.rebuilt) max)
    (cond (leb week_minutes (length hours)) (cond (all_fit ws) (gives (record { max_clients = max; timeout_ms = timeout; next = 1; waits = None })) (refused_as 19 0)) (refused_as 16 0))
    (refused_as 16 0)
unfolding set_up_of checked_of
set_up_answers t hours ws max timeout =
    by (stores_fit (length t.sessions) (length t.streams) (length t.objects) (length t.held) (length t.parts) (length t.lengths) (length t.rebuilt) max)
    (leb week_minutes (length hours)) (all_fit ws)
  where
    fresh : Agent
    fresh = record { max_clients = max; timeout_ms = timeout; next = 1; waits = None }

    by : (b c f : Bool)
        → set_up_answer (set_up_as (set_up_by (cond b (Ok 1) (Err OverLimit)) (cond c (cond f (Ok tt) (Err WindowFault)) (Err OverLimit))) max timeout)
        ≡ cond b (cond c (cond f (gives fresh) (refused_as 19 0)) (refused_as 16 0)) (refused_as 16 0)
    by true true true = refl
    by true true false = refl
    by true false f = refl
    by false c f = refl
