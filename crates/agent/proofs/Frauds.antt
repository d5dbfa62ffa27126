-- Document 01, "Which frauds are shut out?": wrong agents over the real rules, each with the list H and the clause that stop it.
use Rattle.std.specs.Prelude.{Option, None, Some}
use mathlib.Core.Path.{◌≡◌, refl, sym, ap}
use Prim.Native.Nat.{ℕ, ◌<◌, ◌≤◌}
use native.Mathlib.Omega.{arith}
use mathlib.Core.Bool.{Bool, true, cond}
use Rattle.std.specs.Option.{option_map}
use mathlib.Core.List.{List, [], ◌∷◌, map}
use borrow.Author.Tests.{lt-ltb, le-ltb}
use lib.Dec.{eqb}
use lib.ListN.{length, get_or, set, take, replicate}
use Rattle.codec.specs.Answers.{Answer as Read, gives, refused_as}
use Rattle.codec.specs.Bytes.{word_at, quad_at, le16}
use Rattle.codec.specs.Grammar.{Said, reading}
use Rattle.codec.specs.Header.{header_of, header_bytes, sub_header_read, sub_header_of}
use Rattle.codec.specs.Layouts.{least_of, create_at, layout_at}
use Rattle.codec.specs.Reading.{part_of, payload_at, read_at, items_in, items_at, message_of}
use Rattle.codec.specs.Submessages.{kind_of}
use Rattle.codec.specs.Writing.{fixed_bytes, payload_bytes, sub_bytes, message_bytes}
use Rattle.codec.specs.declared.header.MessageHeader.{MessageHeader}
use Rattle.isolation.specs.Rules as iso
use Rattle.isolation.specs.Machine.{Trace}
use Rattle.isolation.specs.Claim as claim
use Rattle.isolation.proofs.Simulation.{none_some}
use Rattle.isolation.proofs.Refine.{stops}
use Rattle.isolation.proofs.Theorem.{term3_of}
use Rattle.hours.specs.Week.{is_minute}
use Rattle.sessions.specs.Opening.{live_from}
use Rattle.sessions.specs.View.{Local}
use Rattle.moves.specs.Calls.{created}
use Rattle.agent.specs.Brings.{Opening, In}
use Rattle.agent.specs.declared.state.Given.{Given}
use Rattle.agent.specs.RulesFragments.{onto}
use Rattle.agent.specs.Rules.{rules, handles_of}
use Rattle.agent.specs.Step.{Open, Agent, empty_agent, next_free, chosen, opened, run, Event, datagram, answer, removal, sweep, Did, ran, joined_replies, with_tables, begin, step}
use Rattle.agent.specs.Claim.{Hosted, result_of, agent}
use Rattle.agent.proofs.Honest.{honest}
use Rattle.agent.proofs.InStep.{D, state_of}

-- one client at a time, a timeout of 9, and every minute open
abbrev always : ℕ → ℕ → Bool
always day minute = true

abbrev R : iso.Rules
R = rules always 9

abbrev A : claim.Agent R
A = agent always 1 9

abbrev Stepped : Type 0
Stepped = Agent × iso.Result R

-- the agent with another step
abbrev stepping : (Agent → Hosted → Stepped) → claim.Agent R
stepping f = record { State = Agent; Event = Hosted; empty = A.empty; table = A.table; step = f; host_call = A.host_call }

-- ---- the host's calls: datagrams at time 100, on weekday 0 in minute 0, and an answer, with room for 64 bytes

abbrev at_100 : Given
at_100 = record { time = 100; day = 0; minute = 0 }

abbrev hosted : Event → Hosted
hosted e = record { event = e; out = replicate 64 0 }

abbrev client_bytes_lem : List ℕ
client_bytes_lem = 1 ∷ 0 ∷ 0 ∷ 0 ∷ 0 ∷ 0 ∷ 5 ∷ 0 ∷ 1 ∷ 2 ∷ 3 ∷ 4 ∷ 0 ∷ []

-- CREATE_CLIENT: session 1
abbrev client : Hosted
client = hosted (datagram at_100 client_bytes_lem)

-- to session 1: the submessages' bytes
abbrev to_1 : List ℕ → Hosted
to_1 bytes = hosted (datagram at_100 (1 ∷ 0 ∷ 0 ∷ 0 ∷ bytes))

-- WRITE_DATA to an object that isn't there
abbrev write_7 : Hosted
write_7 = to_1 (7 ∷ 0 ∷ 2 ∷ 0 ∷ 7 ∷ 0 ∷ [])

-- two DELETEs
abbrev delete_8_9 : Hosted
delete_8_9 = to_1 (2 ∷ 0 ∷ 2 ∷ 0 ∷ 8 ∷ 0 ∷ 2 ∷ 0 ∷ 2 ∷ 0 ∷ 9 ∷ 0 ∷ [])

-- CREATE of Participant 1, which calls the bridge, and a DELETE behind it; the bridge's answer
abbrev create_1_delete_9 : Hosted
create_1_delete_9 = to_1 (1 ∷ 0 ∷ 5 ∷ 0 ∷ 1 ∷ 0 ∷ 1 ∷ 0 ∷ 0 ∷ 2 ∷ 0 ∷ 2 ∷ 0 ∷ 9 ∷ 0 ∷ [])

abbrev created_5 : Hosted
created_5 = hosted (answer (created 5))

-- ---- the session that CREATE_CLIENT opens as the first call

abbrev asking : Opening
asking = record { time = 100; key = 0x04030201 }

abbrev message : iso.Message Opening In
message = record { header = 1; subs = iso.opens asking ∷ [] }

abbrev session : (f : Agent → Hosted → Stepped) (later : List Hosted)
    → (claim.works_on R (λ t. None) (A.host_call client)).0 ≡ Some message → claim.status_at R 0 (claim.outs_of R (f A.empty client).1) ≡ Some 1
    → claim.Session R (stepping f) (client ∷ later)
session f later b g =
    record { before = []; call = client; later = later; whole = refl; message = message; number = 0; client = asking; behind = []; id = 1; brings = b; asks = refl; granted = g }

-- ---- the frauds

-- takes every call, and does nothing
abbrev idle : Agent → Hosted → Stepped
idle st e = (st, iso.ran [] None)

-- "one that leaves all tables untouched"
abbrev untouched : Agent → Hosted → Stepped
untouched st e = let r = A.step st e in (with_tables r.0 st.tables r.0.waits, r.1)

-- "one replying STATUS OK to everything": a reply that is a STATUS has code 0
abbrev pleasing : iso.Out R → iso.Out R
pleasing (iso.opened x bytes) = iso.opened x bytes
pleasing (iso.reply id bytes) = iso.reply id (cond (eqb (get_or bytes 4 0) 5) (set bytes 10 0) bytes)

abbrev all_pleasing : iso.Result R → iso.Result R
all_pleasing (iso.refused n) = iso.refused n
all_pleasing (iso.ran os c) = iso.ran (map pleasing os) c

abbrev pleased : Agent → Hosted → Stepped
pleased st e = let r = A.step st e in (r.0, all_pleasing r.1)

-- "An agent that handles the first submessage and skips the others"
abbrev first_of : Read (MessageHeader × List Said) → Read (MessageHeader × List Said)
first_of (gives m) = gives (m.0, take 1 m.1)
first_of (refused_as number byte) = refused_as number byte

abbrev first_stepped : Option Open → Agent → Event → List ℕ → Did
first_stepped None st (datagram given bytes) out = begin st out given (first_of (reading bytes))
first_stepped None st (answer a) out = step st (answer a) out
first_stepped None st (removal id) out = step st (removal id) out
first_stepped None st (sweep now) out = step st (sweep now) out
first_stepped (Some w) st e out = step st e out

abbrev first_only : Agent → Hosted → Stepped
first_only st e = let d = first_stepped st.waits st e.event e.out in (d.agent, result_of always 1 9 d.agent.waits d.result)

-- it skips the others too: what stands behind a bridge call is forgotten
abbrev forgot : Open → Open
forgot w = record { session = w.session; pending = w.pending; rest = [] }

abbrev forgetful : Agent → Hosted → Stepped
forgetful st e = let r = A.step st e in (with_tables r.0 r.0.tables (option_map forgot r.0.waits), r.1)

-- "refusal of every datagram": here, of every call
abbrev refusing : Agent → Hosted → Stepped
refusing st e = (st, iso.refused 1)

abbrev Stopped : (Agent → Hosted → Stepped) → List Hosted → Type 0
Stopped f H = claim.Isolated R (stepping f) H → ⊥

pub record ShutOut : Type 0 where
  -- by `greets`: the CREATE_CLIENT is passed over
  pub idle_stopped : Stopped idle []
  -- by `alone`: the machine has tables
  pub untouched_stopped : Stopped untouched (client ∷ [])
  -- by `alone`: the machine replies ERR_UNKNOWN_REF
  pub pleased_stopped : Stopped pleased (client ∷ write_7 ∷ [])
  -- by `alone`: the machine replies twice
  pub first_only_stopped : Stopped first_only (client ∷ delete_8_9 ∷ [])
  -- by `alone`: the machine replies to the DELETE too
  pub forgetful_stopped : Stopped forgetful (client ∷ create_1_delete_9 ∷ created_5 ∷ [])
  -- "Term 3 by itself would let the idle ones through": those that refuse, since a refused call feeds the machine nothing.
  pub refusing_passes : claim.Term3 R (stepping refusing) (handles_of always 9)
  -- Term 2 stops them: the code's answer is that of `step`, which opens session 1 where the STATUS has room; nor is "table full" said to this first client.
  pub client_granted : (max timeout : ℕ) (is_open : ℕ → ℕ → Bool) (given : Given) (out : List ℕ) → 0 < max → 11 ≤ length out → is_minute given.day given.minute ≡ true
      → (step (empty_agent max timeout is_open) (datagram given client_bytes_lem) out).result ≡ ran (opened (Some 1) ∷ []) None

-- what the traces of an agent and of a machine are told apart by: whether the session is live; the code of a first STATUS; the number of replies
abbrev liveness : Option Local → ℕ
liveness None = 0
liveness (Some l) = 1

abbrev first_code : List (List ℕ) → ℕ
first_code [] = 0
first_code (r ∷ rs) = get_or r 10 0

pub frauds : ShutOut
unfolding reading message_of items_at items_in read_at sub_header_read sub_header_of payload_at least_of layout_at create_at kind_of header_of word_at quad_at part_of step run onto chosen next_free live_from joined_replies message_bytes header_bytes sub_bytes payload_bytes fixed_bytes le16
frauds = record {
  idle_stopped = λ v. none_some (sym (v.greets client));
  untouched_stopped = λ v. let e : ◌≡◌ {A = ℕ} 0 1 = ap (λ (t : Trace R). liveness t.table) (v.alone (session untouched [] refl refl)) in omega arith;
  pleased_stopped = λ v. let e : ◌≡◌ {A = ℕ} 0 1 = ap (λ (t : Trace R). first_code t.replies) (v.alone (session pleased (write_7 ∷ []) refl refl)) in omega arith;
  first_only_stopped = λ v. let e : ◌≡◌ {A = ℕ} 1 2 = ap (λ (t : Trace R). length t.replies) (v.alone (session first_only (delete_8_9 ∷ []) refl refl)) in omega arith;
  forgetful_stopped = λ v. let e : ◌≡◌ {A = ℕ} 1 2 = ap (λ (t : Trace R). length t.replies) (v.alone (session forgetful (create_1_delete_9 ∷ created_5 ∷ []) refl refl)) in omega arith;
  refusing_passes = term3_of R (handles_of always 9) (honest always 9) (D always 1 9) (stepping refusing) (record {
    Inv = λ st. Unit {0};
    inv_empty = tt;
    inv_step = λ st e v. tt;
    abs = state_of always 1 9;
    abs_empty = refl;
    abs_table = λ s st. refl;
    in_step = λ st e v. stops 1 refl refl;
  });
  client_granted = λ max timeout is_open given out g h m. rw (m, lt-ltb 0 max g, le-ltb (length out) 11 h);
}
