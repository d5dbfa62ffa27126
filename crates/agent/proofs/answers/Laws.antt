-- The reply to an answer: composed, and held where it is DATA on a stream other than 0; and as a list of one reply or none, counted and written.
use Prim.Native.Nat.{ℕ, ◌≤◌}
use mathlib.Core.Path.{◌≡◌, refl, sym, ap, ◌∙◌}
use mathlib.Core.Bool.{Bool, true, false, cond, true≢false}
use mathlib.Core.List.{List, [], ◌∷◌, append-nil}
use native.Mathlib.Omega.{arith}
use borrow.Author.Tests.{leb-true, eq-eqb, ne_eqb}
use lib.Dec.{eqb, leb}
use lib.ListN.{length, take, replicate}
use Rattle.codec.specs.Bytes.{put_bytes}
use Rattle.codec.specs.declared.submessages.ObjectNumber.{ObjectNumber}
use Rattle.sessions.specs.Sending.{sent_streams, sent_held}
use Rattle.sessions.specs.Table.{got_of}
use Rattle.sessions.specs.declared.objects.Object.{Object}
use Rattle.moves.specs.Answers.{keeps_of, says_of, kept_sessions, kept_objects}
use Rattle.moves.specs.Replies.{data_bytes}
use Rattle.moves.specs.RowsStreams.{read_of}
use Rattle.moves.specs.declared.answers.Says.TheVariants.{Data}
use Rattle.agent.specs.Answered.{says_fits, sequence_of, says_bytes, says_streams, says_held, answered_by, answered_sessions, answered_streams, answered_objects, answered_held}
use Rattle.agent.specs.Host.{answers_now, told_by, begun_by, begun_sessions, begun_streams, begun_objects, begun_held, resumes_fit}
use Rattle.agent.specs.Run.{put_replies}
use Rattle.agent.specs.Step.{replied, joined_replies}
use Rattle.agent.specs.declared.turn.Frame.{Frame}
use Rattle.agent.proofs.Back.{line_length, line_back}
use Rattle.agent.proofs.MoveBytes.{data_long}
use Rattle.std.specs.Prelude.{Err, None, Ok, Option, Result, Some}
use Rattle.moves.specs.declared.proxy.BridgeAnswer.{BridgeAnswer}
use Rattle.sessions.specs.declared.table.ClientSession.{ClientSession}
use Rattle.codec.specs.declared.refusals.Refusal.{Refusal}
use Rattle.moves.specs.declared.proxy.Task.{Task}

pub one_long : (id : ℕ) (bytes : List ℕ) → length bytes ≡ length (joined_replies (replied id bytes ∷ []))
unfolding joined_replies
one_long id bytes = ap (λ (l : List ℕ). length l) (sym (append-nil bytes))

pub one_written : (room : ℕ) (out : List ℕ) (id : ℕ) (bytes : List ℕ) → put_bytes out 0 bytes ≡ put_replies room out 0 (replied id bytes ∷ [])
unfolding put_replies
one_written room out id bytes = refl

pub none_long : 0 ≡ length (joined_replies [])
unfolding joined_replies
none_long = refl

none_written : (room : ℕ) (out : List ℕ) → out ≡ put_replies room out 0 []
unfolding put_replies
none_written room out = refl

-- all that the answer's part of a call leaves, by whether it is one and its session is live
module _ (s x : List (List ℕ)) (o : List Object) (h out : List ℕ) (f : Frame) (sample : List ℕ) where
  abbrev id : ℕ
  id = f.session_id

  abbrev told_bytes : Option (ObjectNumber × Task × BridgeAnswer) → List ℕ
  told_bytes r = says_bytes (told_by r).says f (sequence_of s x f) (told_by r).number sample

  -- the count, the stores and the output
  abbrev pub Begun : Option (ObjectNumber × Task × BridgeAnswer) → ℕ → List (List ℕ) → List (List ℕ) → List Object → List ℕ → List ℕ → Type 0
  Begun r n s' x' o' h' out' =
      (n ≡ length (joined_replies (begun_by r s x f sample))) × (s' ≡ begun_sessions r s o f) × (x' ≡ begun_streams r s x h f sample)
      × (o' ≡ begun_objects r s o f) × (h' ≡ begun_held r s x h f sample) × (out' ≡ put_replies f.room out 0 (begun_by r s x f sample))

  pub begun_now : (r : Option (ObjectNumber × Task × BridgeAnswer)) → answers_now r (got_of s id) ≡ true
      → Begun r (length (told_bytes r)) (kept_sessions (told_by r).keeps s o id) (says_streams (told_by r).says f s x h (told_bytes r)) (kept_objects (told_by r).keeps s o id)
      (says_held (told_by r).says f s x h (told_bytes r)) (put_bytes out 0 (told_bytes r))
  begun_now None c = absurd (true≢false (sym c))
  begun_now (Some (number, task, a)) c = go (got_of s id) c
    where
      keeps : Option Object
      keeps = keeps_of number task a

      bytes : List ℕ
      bytes = says_bytes (says_of task a) f (sequence_of s x f) number sample

      go : (g : Result (Option ClientSession) Refusal) → answers_now (Some (number, task, a)) g ≡ true
          → (length bytes ≡ length (joined_replies (answered_by g f (sequence_of s x f) sample number task a)))
          × (kept_sessions keeps s o id ≡ answered_sessions g keeps s o id)
          × (says_streams (says_of task a) f s x h bytes ≡ answered_streams g (says_of task a) f s x h bytes)
          × (kept_objects keeps s o id ≡ answered_objects g keeps s o id)
          × (says_held (says_of task a) f s x h bytes ≡ answered_held g (says_of task a) f s x h bytes)
          × (put_bytes out 0 bytes ≡ put_replies f.room out 0 (answered_by g f (sequence_of s x f) sample number task a))
      go (Ok (Some y)) e = (one_long id bytes, refl, refl, refl, refl, one_written f.room out id bytes)
      go (Ok None) e = absurd (true≢false (sym e))
      go (Err r) e = absurd (true≢false (sym e))

  pub begun_not : (r : Option (ObjectNumber × Task × BridgeAnswer)) → answers_now r (got_of s id) ≡ false → Begun r 0 s x o h out
  begun_not None c = (none_long, refl, refl, refl, refl, none_written f.room out)
  begun_not (Some (number, task, a)) c = go (got_of s id) c
    where
      bytes : List ℕ
      bytes = says_bytes (says_of task a) f (sequence_of s x f) number sample

      go : (g : Result (Option ClientSession) Refusal) → answers_now (Some (number, task, a)) g ≡ false
          → (0 ≡ length (joined_replies (answered_by g f (sequence_of s x f) sample number task a))) × (s ≡ answered_sessions g (keeps_of number task a) s o id)
          × (x ≡ answered_streams g (says_of task a) f s x h bytes) × (o ≡ answered_objects g (keeps_of number task a) s o id)
          × (h ≡ answered_held g (says_of task a) f s x h bytes) × (out ≡ put_replies f.room out 0 (answered_by g f (sequence_of s x f) sample number task a))
      go (Ok (Some y)) e = absurd (true≢false e)
      go (Ok None) e = (none_long, refl, refl, refl, refl, none_written f.room out)
      go (Err r) e = (none_long, refl, refl, refl, refl, none_written f.room out)

-- a sample that fits says so of what is said
pub says_fit : (r : Option (ObjectNumber × Task × BridgeAnswer)) (stream n : ℕ) → resumes_fit r stream n ≡ true → says_fits (told_by r).says stream n ≡ true
says_fit None stream n h = refl
says_fit (Some (number, task, a)) stream n h = h

-- ---- DATA

pub sample_fits : (stream n : ℕ) → says_fits Data stream n ≡ true → n ≤ 65533
sample_fits stream n = go (eqb stream 0)
  where
    go : (b : Bool) → cond b (leb n 65533) (leb n 1014) ≡ true → n ≤ 65533
    go true e = leb-true n 65533 e
    go false e = let h = leb-true n 1014 e in omega (arith, h)

pub sample_held : (stream n : ℕ) → (stream ≡ 0 → ⊥) → says_fits Data stream n ≡ true → n ≤ 1014
sample_held stream n other e = leb-true n 1014 (ap (λ (b : Bool). cond b (leb n 65533) (leb n 1014)) (sym (ne_eqb stream 0 other)) ∙ e)

-- the number that it takes
module _ (s x : List (List ℕ)) (f : Frame) where
  abbrev numbered : Bool → ℕ
  numbered b = cond b 0 (read_of s x f.session_id f.stream_id).state.next_send_seq

  pub sequence_zero : f.stream_id ≡ 0 → 0 ≡ sequence_of s x f
  sequence_zero e = sym (ap numbered (eq-eqb f.stream_id 0 e))

  pub sequence_next : (f.stream_id ≡ 0 → ⊥) → (read_of s x f.session_id f.stream_id).state.next_send_seq ≡ sequence_of s x f
  sequence_next other = sym (ap numbered (ne_eqb f.stream_id 0 other))

-- composed in a line of 1,024 bytes, and taken again
module _ (session stream sequence number : ℕ) (sample line : List ℕ) (n : ℕ) (few : length sample ≤ 1014) (long : n ≡ length (data_bytes session stream sequence number sample)) (put : line ≡ put_bytes (replicate 1024 0) 0 (data_bytes session stream sequence number sample)) where
  abbrev composed : List ℕ
  composed = data_bytes session stream sequence number sample

  fits : length composed ≤ 1024
  fits = let l = data_long session stream sequence number sample in omega (arith, l, few)

  pub line_long : n ≤ length line
  line_long = let l : length line ≡ 1024 = ap length put ∙ line_length 1024 composed fits in omega (arith, l, long, fits)

  pub line_is : take n line ≡ data_bytes session stream sequence number sample
  line_is = ap (take n) put ∙ (ap (λ (k : ℕ). take k (put_bytes (replicate 1024 0) 0 composed)) long ∙ line_back 1024 composed fits)

-- what is left of it: nothing is held on stream 0
module _ (s x : List (List ℕ)) (h out : List ℕ) (f : Frame) (number : ObjectNumber) (sample : List ℕ) (n : ℕ) (its : n ≡ sequence_of s x f) where
  abbrev bytes_as : ℕ → List ℕ
  bytes_as k = data_bytes f.session_id f.stream_id k number.0 sample

  abbrev said : List ℕ
  said = says_bytes Data f (sequence_of s x f) number sample

  abbrev pub Leaves : List (List ℕ) → List ℕ → Type 0
  Leaves x' h' =
      (length (bytes_as n) ≡ length said) × (x' ≡ says_streams Data f s x h said) × (h' ≡ says_held Data f s x h said) × (put_bytes out 0 (bytes_as n) ≡ put_bytes out 0 said)

  pub data_zero : f.stream_id ≡ 0 → Leaves x h
  data_zero e =
      let zeroth = eq-eqb f.stream_id 0 e in (
        ap (λ (k : ℕ). length (bytes_as k)) its,
        sym (ap (λ (b : Bool). cond b x (sent_streams s x h f.session_id f.stream_id said)) zeroth),
        sym (ap (λ (b : Bool). cond b h (sent_held s x h f.session_id f.stream_id said)) zeroth),
        ap (λ (k : ℕ). put_bytes out 0 (bytes_as k)) its,
      )

  pub data_held : (f.stream_id ≡ 0 → ⊥) → Leaves (sent_streams s x h f.session_id f.stream_id (bytes_as n)) (sent_held s x h f.session_id f.stream_id (bytes_as n))
  data_held other =
      let held = ne_eqb f.stream_id 0 other in (
        ap (λ (k : ℕ). length (bytes_as k)) its,
        ap (λ (k : ℕ). sent_streams s x h f.session_id f.stream_id (bytes_as k)) its
            ∙ sym (ap (λ (b : Bool). cond b x (sent_streams s x h f.session_id f.stream_id said)) held),
        ap (λ (k : ℕ). sent_held s x h f.session_id f.stream_id (bytes_as k)) its
            ∙ sym (ap (λ (b : Bool). cond b h (sent_held s x h f.session_id f.stream_id said)) held),
        ap (λ (k : ℕ). put_bytes out 0 (bytes_as k)) its,
      )
