-- 14 over the lent tables is 14 over lists: "A reply that would be held is refused as 14 if over 1,024 bytes", or where its stream has no place for it.
use Prim.Native.Nat.{ℕ, ◌+◌, ◌<◌, ◌≤◌}
use mathlib.Core.Path.{◌≡◌, refl, sym, ap, ◌∙◌}
use mathlib.Core.Logic.{◌≢◌}
use mathlib.Core.Bool.{Bool, true, false, cond}
use mathlib.Core.List.{List}
use native.Mathlib.Omega.{arith}
use borrow.Author.Tests.{eqb-false, ltb-true, ltb-false, lt-ltb, le-ltb}
use lib.Dec.{eqb, ltb}
use lib.ListN.{length}
use Rattle.codec.specs.declared.refusals.Refusal.TheVariants.{StoreFull}
use Rattle.isolation.specs.Rules.{Sub}
use Rattle.sessions.specs.Table.{is_free}
use Rattle.sessions.specs.Sending.{data_slot_at, data_slot}
use Rattle.sessions.specs.View.{Tables, KeptStream, local_of, stream_in}
use Rattle.sessions.specs.Calls.{SoundTables, SoundStream}
use Rattle.sessions.proofs.SoundStreams.{stream_lasts}
use Rattle.sessions.proofs.Steps.{streams_named_lem}
use Rattle.sessions.proofs.ViewSending.{slot_placed, slot_full, slot_none}
use Rattle.sessions.proofs.ViewStreams.{no_place}
use Rattle.moves.specs.Proxy.{answer_as, task_as}
use Rattle.moves.specs.Replies.{data_bytes}
use Rattle.moves.specs.declared.proxy.BridgeAnswer.{BridgeAnswer}
use Rattle.moves.specs.declared.proxy.BridgeAnswer.TheVariants.{Created, Done, Sample, NoSample, Failed}
use Rattle.agent.specs.Brings.{Opening, In}
use Rattle.agent.specs.Step.{crowded, crowded_in, over_held}
use Rattle.agent.specs.Judge.{answer_slot, placed_judged}
use Rattle.agent.specs.Whole.{session_in}
use Rattle.agent.specs.declared.state.Pending.{Pending}
use Rattle.agent.proofs.MoveBytes.{data_long}
use Rattle.agent.proofs.Square.{shown_at, shown_live}
use Rattle.agent.proofs.SquareOpen.{view_of, at_in}
use Rattle.std.specs.Prelude.{Err, None, Ok, Result, Option, Some}
use Rattle.codec.specs.declared.refusals.Refusal.{Refusal}
use Rattle.agent.specs.declared.judge.Start.{Start}

module _ (most : ℕ) (t : Tables) (sound : SoundTables SoundStream most t) (few : most ≤ 255) (p : Pending) (id< : p.session_id < 256) (sample : List ℕ) (j : Result (Start × ℕ) Refusal) where
  abbrev id : ℕ
  id = p.session_id

  abbrev n : ℕ
  n = p.stream_id

  abbrev refused_if : Bool → Result (Start × ℕ) Refusal
  refused_if b = cond b (Err StoreFull) j

  -- a message that is not too long, on another stream than 0
  module _ (other : n ≢ 0) (len : ℕ) (short : len ≤ 1024) where
    abbrev place : Result (Option ℕ) Refusal
    place = data_slot t.sessions t.streams (length t.held) id n len

    module _ (live : is_free t.sessions id ≡ false) where
      in_stream : (x : Option KeptStream) → stream_in (shown_at t id).streams n ≡ x → placed_judged place j ≡ refused_if (crowded x)
      in_stream None e = ap (λ (a : Result (Option ℕ) Refusal). placed_judged a j) (slot_none most t sound few id id< live n len e)
      in_stream (Some k) e = by (crowded (Some k)) refl
        where
          by : (b : Bool) → crowded (Some k) ≡ b → placed_judged place j ≡ refused_if b
          by true c = ap (λ (a : Result (Option ℕ) Refusal). placed_judged a j) (slot_full most t sound few id id< live n len k other e short c)
          by false c = ap (λ (a : Result (Option ℕ) Refusal). placed_judged a j) (slot_placed most t sound few id id< live n len k other e short c).1

    -- "No such session"
    gone_place : is_free t.sessions id ≡ true → place ≡ (Ok None)
    unfolding data_slot
    gone_place e =
        ap (λ q. data_slot_at q t.sessions t.streams (length t.held) id len)
        (no_place t id (streams_named_lem SoundStream stream_lasts most t sound id id< ∙ ap (λ (b : Bool). cond b (Ok false) (Ok true)) e) n)

    in_session_lem : placed_judged place j ≡ refused_if (crowded_in n (session_in t id))
    in_session_lem = by (is_free t.sessions id) refl
      where
        by : (b : Bool) → is_free t.sessions id ≡ b → placed_judged place j ≡ refused_if (crowded_in n (session_in t id))
        by true e =
            let z : local_of t id ≡ None = rw e refl in
            ap (λ (a : Result (Option ℕ) Refusal). placed_judged a j) (gone_place e) ∙ sym (ap (λ x. refused_if (crowded_in n x)) (at_in t id id< ∙ z))
        by false e = in_stream e (stream_in (shown_at t id).streams n) refl ∙ sym (ap (λ x. refused_if (crowded_in n x)) (at_in t id id< ∙ shown_live t id e))

  -- ten bytes of headers and number are counted
  long_same : ltb 1024 (length (data_bytes id n 0 p.number.0 sample)) ≡ ltb 1014 (length sample)
  long_same = ap (ltb 1024) (data_long id n 0 p.number.0 sample) ∙ by (ltb 1014 (length sample)) refl
    where
      by : (b : Bool) → ltb 1014 (length sample) ≡ b → ltb 1024 (10 + length sample) ≡ b
      by true e = let h = ltb-true 1014 (length sample) e in lt-ltb 1024 (10 + length sample) (omega (arith, h))
      by false e = let h = ltb-false 1014 (length sample) e in le-ltb 1024 (10 + length sample) (omega (arith, h))

  sample_same : placed_judged (answer_slot p Sample t.sessions t.streams (length t.held) (length sample)) j
      ≡ refused_if (cond (eqb n 0) false (cond (ltb 1024 (length (data_bytes id n 0 p.number.0 sample))) true (crowded_in n (session_in t id))))
  sample_same =
      by (eqb n 0) refl (ltb 1014 (length sample)) refl
      ∙ sym (ap (λ (b : Bool). refused_if (cond (eqb n 0) false (cond b true (crowded_in n (session_in t id))))) long_same)
    where
      by : (b : Bool) → eqb n 0 ≡ b → (c : Bool) → ltb 1014 (length sample) ≡ c
          → placed_judged (cond b (Ok None) (cond c (Err StoreFull) (data_slot t.sessions t.streams (length t.held) id n (10 + length sample)))) j
          ≡ refused_if (cond b false (cond c true (crowded_in n (session_in t id))))
      by true e c q = refl
      by false e true q = refl
      by false e false q = let h = ltb-false 1014 (length sample) q in in_session_lem (eqb-false n 0 e) (10 + length sample) (omega (arith, h))

  pub held_same : (b : BridgeAnswer) (left : List In) (rest : List (Sub Opening In)) (next : ℕ)
      → placed_judged (answer_slot p b t.sessions t.streams (length t.held) (length sample)) j
      ≡ refused_if (over_held (record { session = id; pending = record { asked = record { stream = n; number = p.number.0; task = task_as p.task }; left = left }; rest = rest }) (answer_as b sample) (view_of next t))
  held_same Sample left rest next = sample_same
  held_same (Created h) left rest next = refl
  held_same Done left rest next = refl
  held_same NoSample left rest next = refl
  held_same Failed left rest next = refl
