-- Laws of the step: a refused call leaves everything as it was, and the output keeps its length; how long a STATUS and an ACKNACK are.
use Rattle.std.specs.Prelude.{Option, None, Some}
use mathlib.Core.Path.{◌≡◌, refl}
use Prim.Native.Nat.{ℕ, ◌+◌, ◌≤◌}
use mathlib.Core.Bool.{Bool, true, false, cond}
use mathlib.Core.List.{List, [], ◌++◌}
use native.Mathlib.Omega.{arith}
use borrow.Author.Tests.{ltb-false}
use lib.Dec.{ltb}
use lib.ListN.{length, drop, length-append, length-drop}
use Rattle.codec.specs.Bytes.{le16, put_at}
use Rattle.codec.specs.Header.{header_bytes}
use Rattle.codec.specs.Writing.{fixed_bytes, payload_bytes, sub_bytes, message_bytes}
use Rattle.codec.specs.Answers.{Answer as Read, gives, refused_as}
use Rattle.codec.specs.Grammar.{Said, reading}
use Rattle.codec.specs.declared.header.MessageHeader.{MessageHeader}
use Rattle.codec.specs.declared.submessages.StatusCode.{StatusCode}
use Rattle.moves.specs.Calls.{fits}
use Rattle.moves.specs.Replies.{status_bytes, acknack_bytes}
use Rattle.hours.specs.Week.{is_minute}
use Rattle.agent.specs.declared.state.Given.{Given}
use Rattle.agent.specs.Brings.{moment_of, message_from}
use Rattle.agent.specs.Step.{Open, Agent, with_id, Ran, run, continued, Event, datagram, answer, removal, sweep, Result, refused, ran, removed, swept, Did, refuse, finish, joined_replies, call_of, open_of, with_tables, settle, begin, too_long, over_held, is_live, stays, lapsed_ids, with_locals, stepped, step}

-- ---- a refused call changes nothing; the output keeps its length

record Kept (st : Agent) (out : List ℕ) (d : Did) : Type 0 where
  nothing : (number byte : ℕ) → d.result ≡ refused number byte → (d.agent ≡ st) × (d.out ≡ out)
  long : length d.out ≡ length out

-- a result that is no refusal
abbrev pub went : Result → Bool
went (refused number byte) = false
went (ran rs c) = true
went (removed b) = true
went (swept ids) = true

pub went_not : (q : Result) (number byte : ℕ) → went q ≡ true → q ≡ refused number byte → ⊥
went_not (refused n b) number byte w e = let z : ◌≡◌ {A = ℕ} 0 1 = cc in omega arith
went_not (ran rs c) number byte w e = let z : ◌≡◌ {A = ℕ} 0 1 = cc in omega arith
went_not (removed b) number byte w e = let z : ◌≡◌ {A = ℕ} 0 1 = cc in omega arith
went_not (swept ids) number byte w e = let z : ◌≡◌ {A = ℕ} 0 1 = cc in omega arith

refuse_keeps : (st : Agent) (out : List ℕ) (number byte : ℕ) → Kept st out (refuse st out number byte)
refuse_keeps st out number byte = record { nothing = λ n b e. (refl, refl); long = refl }

put_long : (out bytes : List ℕ) → length bytes ≤ length out → length (put_at out 0 bytes) ≡ length out
unfolding put_at
put_long out bytes h =
    let a = length-append ([] ++ bytes) (drop (0 + length bytes) out) in
    let b = length-drop (0 + length bytes) out in
    let c : length ([] ++ bytes) ≡ length bytes = refl in
    omega (arith, a, b, c, h)

finish_keeps : (st : Agent) (out : List ℕ) (st' : Agent) (bytes : List ℕ) (q : Result) → went q ≡ true → Kept st out (finish st out st' bytes q)
finish_keeps st out st' bytes q w = go (ltb (length out) (length bytes)) refl
  where
    go : (b : Bool) → ltb (length out) (length bytes) ≡ b → Kept st out (cond b (refuse st out 13 0) (record { agent = st'; out = put_at out 0 bytes; result = q }))
    go true e = refuse_keeps st out 13 0
    go false e = record { nothing = λ n b z. absurd (went_not q n b w z); long = put_long out bytes (ltb-false (length out) (length bytes) e) }

settle_keeps : (st : Agent) (out : List ℕ) (r : Ran) → Kept st out (settle st out r)
settle_keeps st out r = finish_keeps st out (with_tables st r.tables (open_of r.stop)) (joined_replies r.replies) (ran r.replies (call_of r.stop)) refl

begin_keeps : (st : Agent) (out : List ℕ) (given : Given) (x : Read (MessageHeader × List Said)) → Kept st out (begin st out given x)
begin_keeps st out given (refused_as number byte) = refuse_keeps st out number byte
begin_keeps st out given (gives x) = let m = message_from (moment_of st.is_open given) x.0 x.1 in settle_keeps st out (run st.max m.header m.subs st.tables)

stepped_keeps : (w : Option Open) (st : Agent) (e : Event) (out : List ℕ) → Kept st out (stepped w st e out)
stepped_keeps None st (datagram given bytes) out = go (is_minute given.day given.minute)
  where
    go : (b : Bool) → Kept st out (cond b (begin st out given (reading bytes)) (refuse st out 20 0))
    go true = begin_keeps st out given (reading bytes)
    go false = refuse_keeps st out 20 0
stepped_keeps None st (answer a) out = refuse_keeps st out 15 0
stepped_keeps None st (removal id) out = finish_keeps st out (with_locals st (with_id id None st.tables.at)) [] (removed (is_live (st.tables.at id))) refl
stepped_keeps None st (sweep now) out =
    let ids = lapsed_ids st.timeout now st.tables.at in
    finish_keeps st out (with_locals st (λ i. stays st.timeout now (st.tables.at i))) ids (swept ids) refl
stepped_keeps (Some w) st (datagram given bytes) out = refuse_keeps st out 15 0
stepped_keeps (Some w) st (answer a) out = go (fits w.pending.asked.task a) (too_long w.pending.asked a) (over_held w a st.tables)
  where
    go : (b c d : Bool) → Kept st out (cond b (cond c (refuse st out 12 0) (cond d (refuse st out 14 0) (settle st out (continued st.max w a st.tables)))) (refuse st out 15 0))
    go true true d = refuse_keeps st out 12 0
    go true false true = refuse_keeps st out 14 0
    go true false false = settle_keeps st out (continued st.max w a st.tables)
    go false c d = refuse_keeps st out 15 0
stepped_keeps (Some w) st (removal id) out = refuse_keeps st out 15 0
stepped_keeps (Some w) st (sweep now) out = refuse_keeps st out 15 0

pub refused_keeps : (st : Agent) (e : Event) (out : List ℕ) (number byte : ℕ) → (step st e out).result ≡ refused number byte → ((step st e out).agent ≡ st) × ((step st e out).out ≡ out)
unfolding step
refused_keeps st e out number byte z = (stepped_keeps st.waits st e out).nothing number byte z

pub output_long : (st : Agent) (e : Event) (out : List ℕ) → length (step st e out).out ≡ length out
unfolding step
output_long st e out = (stepped_keeps st.waits st e out).long

-- ---- how long a STATUS and an ACKNACK are

pub status_long : (session stream number : ℕ) (code : StatusCode) → length (status_bytes session stream number code) ≡ 11
unfolding message_bytes header_bytes sub_bytes payload_bytes fixed_bytes le16
status_long session stream number code = refl

pub acknack_long : (session stream first bitmap : ℕ) → length (acknack_bytes session stream first bitmap) ≡ 12
unfolding message_bytes header_bytes sub_bytes payload_bytes fixed_bytes le16
acknack_long session stream first bitmap = refl
