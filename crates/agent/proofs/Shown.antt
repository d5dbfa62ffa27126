-- No reply is hidden: the lent output after a call has the bytes of its replies, or a sweep's ids, and then what stood there before.
use Rattle.std.specs.Prelude.{Option, None, Some}
use mathlib.Core.Path.{◌≡◌, refl, sym, ap, ◌∙◌}
use Prim.Native.Nat.{ℕ, ◌≤◌}
use mathlib.Core.Bool.{Bool, true, false, cond}
use mathlib.Core.List.{List, [], ◌∷◌, ◌++◌, map, append-nil}
use native.Mathlib.Omega.{arith}
use borrow.Author.Tests.{ltb-false}
use lib.Dec.{ltb}
use lib.ListN.{length}
use Rattle.codec.specs.Bytes.{put_at}
use Rattle.codec.specs.Answers.{Answer as Read, gives, refused_as}
use Rattle.codec.specs.Grammar.{Said, reading}
use Rattle.codec.specs.declared.header.MessageHeader.{MessageHeader}
use Rattle.isolation.specs.Claim.{outs_of}
use Rattle.moves.specs.Calls.{fits}
use Rattle.moves.specs.Replies.{client_bytes}
use Rattle.hours.specs.Week.{is_minute}
use Rattle.agent.specs.declared.state.Given.{Given}
use Rattle.agent.specs.Brings.{moment_of, message_from}
use Rattle.agent.specs.Rules.{rules}
use Rattle.agent.specs.Step.{Open, Agent, Reply, opened, replied, Ran, run, continued, Event, datagram, answer, removal, sweep, Result, ran, removed, swept, Did, refuse, finish, joined_replies, call_of, open_of, with_tables, settle, begin, too_long, over_held, with_id, is_live, stays, lapsed_ids, with_locals, stepped, step}
use Rattle.agent.specs.Claim.{out_of, result_of, out_bytes, ids_in, Shown}

module _ (is_open : ℕ → ℕ → Bool) (max timeout : ℕ) where
  -- what a result says, beside the call then open
  abbrev said : Option Open → Result → List ℕ
  said w q = out_bytes is_open max timeout (outs_of (rules is_open timeout) (result_of is_open max timeout w q)) ++ ids_in is_open max timeout q

  abbrev Shows : List ℕ → Did → Type 0
  Shows out d = let bytes = said d.agent.waits d.result in (length bytes ≤ length out) × (d.out ≡ put_at out 0 bytes)

  pub joined_replies_same : (rs : List Reply) → joined_replies rs ≡ out_bytes is_open max timeout (map (out_of is_open max timeout) rs)
  unfolding joined_replies out_bytes
  joined_replies_same [] = refl
  joined_replies_same (opened x ∷ rs) = ap (λ (bs : List ℕ). client_bytes x ++ bs) (joined_replies_same rs)
  joined_replies_same (replied id bytes ∷ rs) = ap (λ (bs : List ℕ). bytes ++ bs) (joined_replies_same rs)

  refuse_shows : (st : Agent) (out : List ℕ) (number byte : ℕ) → Shows out (refuse st out number byte)
  unfolding out_bytes put_at
  refuse_shows st out number byte = (omega arith, refl)

  finish_shows : (st : Agent) (out : List ℕ) (st' : Agent) (bytes : List ℕ) (q : Result) → bytes ≡ said st'.waits q → Shows out (finish st out st' bytes q)
  finish_shows st out st' bytes q e = go (ltb (length out) (length bytes)) refl
    where
      go : (b : Bool) → ltb (length out) (length bytes) ≡ b → Shows out (cond b (refuse st out 13 0) (record { agent = st'; out = put_at out 0 bytes; result = q }))
      go true f = refuse_shows st out 13 0
      go false f = rw (← e) (ltb-false (length out) (length bytes) f, refl)

  settle_shows : (st : Agent) (out : List ℕ) (r : Ran) → Shows out (settle st out r)
  settle_shows st out r =
      finish_shows st out (with_tables st r.tables (open_of r.stop)) (joined_replies r.replies) (ran r.replies (call_of r.stop))
      (joined_replies_same r.replies ∙ sym (append-nil (out_bytes is_open max timeout (map (out_of is_open max timeout) r.replies))))

  begin_shows : (st : Agent) (out : List ℕ) (given : Given) (x : Read (MessageHeader × List Said)) → Shows out (begin st out given x)
  begin_shows st out given (refused_as number byte) = refuse_shows st out number byte
  begin_shows st out given (gives x) = let m = message_from (moment_of st.is_open given) x.0 x.1 in settle_shows st out (run st.max m.header m.subs st.tables)

  stepped_shows : (w : Option Open) (st : Agent) (e : Event) (out : List ℕ) → Shows out (stepped w st e out)
  unfolding out_bytes
  stepped_shows None st (datagram given bytes) out = go (is_minute given.day given.minute)
    where
      go : (b : Bool) → Shows out (cond b (begin st out given (reading bytes)) (refuse st out 20 0))
      go true = begin_shows st out given (reading bytes)
      go false = refuse_shows st out 20 0
  stepped_shows None st (answer a) out = refuse_shows st out 15 0
  stepped_shows None st (removal id) out = finish_shows st out (with_locals st (with_id id None st.tables.at)) [] (removed (is_live (st.tables.at id))) refl
  stepped_shows None st (sweep now) out =
      let ids = lapsed_ids st.timeout now st.tables.at in
      finish_shows st out (with_locals st (λ i. stays st.timeout now (st.tables.at i))) ids (swept ids) refl
  stepped_shows (Some w) st (datagram given bytes) out = refuse_shows st out 15 0
  stepped_shows (Some w) st (answer a) out = go (fits w.pending.asked.task a) (too_long w.pending.asked a) (over_held w a st.tables)
    where
      go : (b c d : Bool) → Shows out (cond b (cond c (refuse st out 12 0) (cond d (refuse st out 14 0) (settle st out (continued st.max w a st.tables)))) (refuse st out 15 0))
      go true true d = refuse_shows st out 12 0
      go true false true = refuse_shows st out 14 0
      go true false false = settle_shows st out (continued st.max w a st.tables)
      go false c d = refuse_shows st out 15 0
  stepped_shows (Some w) st (removal id) out = refuse_shows st out 15 0
  stepped_shows (Some w) st (sweep now) out = refuse_shows st out 15 0

  pub shown : Shown is_open max timeout
  unfolding step
  shown st e = stepped_shows st.waits st e.event e.out
