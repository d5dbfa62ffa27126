-- The square of HEARTBEAT and ACKNACK: both open their stream, then go by it as it is read.
use Prim.Native.Nat.{ℕ, ◌<◌, ◌≤◌}
use mathlib.Core.Path.{◌≡◌, refl, sym, ap, ◌∙◌}
use mathlib.Core.Logic.{◌≢◌}
use mathlib.Core.Bool.{Bool, true, false, cond}
use mathlib.Core.List.{List, [], ◌∷◌}
use borrow.Author.Tests.{eqb-false}
use lib.Dec.{eqb}
use lib.ListN.{length}
use Rattle.codec.specs.Answers.{Answer, gives, refused_as}
use Rattle.codec.specs.declared.layouts.Span.{Span}
use Rattle.codec.specs.declared.submessages.AcknackPayload.{AcknackPayload}
use Rattle.codec.specs.declared.submessages.HeartbeatPayload.{HeartbeatPayload}
use Rattle.codec.specs.declared.submessages.Submessage.TheVariants as sub
use Rattle.isolation.specs.Rules.{done}
use Rattle.streams.specs.Acknowledged.{drop_before, repeats_of, acknowledge}
use Rattle.streams.specs.Received.{bitmap_of, acknack_of}
use Rattle.streams.specs.Sent.{bytes_in}
use Rattle.streams.specs.View.{kept_of, acknack_in, repeated_in}
use Rattle.streams.specs.declared.state.StreamState.{StreamState}
use Rattle.streams.proofs.Kept.{acknack_kept}
use Rattle.streams.proofs.places.Laws.{never}
use Rattle.sessions.specs.Answers.{state_answer, read_answer}
use Rattle.sessions.specs.Table.{is_free}
use Rattle.sessions.specs.SessionStreams.{streams_named, stream_place}
use Rattle.sessions.specs.View.{Tables, KeptStream, Local, local_of, stream_in, open_in, write_in}
use Rattle.sessions.specs.Calls.{SoundStream, SoundTables, LeadsTo, open_tables}
use Rattle.sessions.specs.declared.session_streams.StreamNamed.{StreamNamed}
use Rattle.sessions.specs.declared.session_streams.StreamNamed.TheVariants as stream
use Rattle.sessions.specs.declared.session_streams.StreamRead.{StreamRead}
use Rattle.sessions.proofs.SoundStreams.{stream_lasts, acknack_stream}
use Rattle.sessions.proofs.Steps.{open_led, write_led, same_led, read_lasts}
use Rattle.sessions.proofs.ViewSending.{repeats_view}
use Rattle.sessions.proofs.ViewStreams as streams
use Rattle.sessions.proofs.ViewStreams.{found_number, read_shown, buffer_by, read_view, write_here, write_elsewhere, open_here, open_elsewhere}
use Rattle.agent.specs.Lent.{lent}
use Rattle.agent.specs.Local.{with_streams, opening, acknowledged_by, acknowledging}
use Rattle.moves.specs.Replies.{acknack_bytes}
use Rattle.agent.specs.RulesStreams.{acknack_from, on_heartbeat, repeats_from}
use Rattle.moves.specs.Moves.{heartbeat_on, heartbeat_move, acknack_on}
use Rattle.moves.specs.RowsStreams.{read_of, acknowledged_rows}
use Rattle.moves.specs.declared.moves.Move.TheVariants.{Repeats, Silent}
use Rattle.agent.proofs.Square.{outcome, led_on, shown_at, handled_in, Squares, shown_live, live_shown, same_local, reach_streams}
use Rattle.agent.proofs.StreamLists.{written_here}
use Rattle.std.specs.Prelude.{Err, Ok, Result, Option, None, Some}
use Rattle.codec.specs.declared.refusals.Refusal.{Refusal}

-- what an answer says of a session's stream
abbrev in_session : Answer (Option (Option KeptStream)) → Bool
in_session (gives None) = false
in_session (gives (Some x)) = true
in_session (refused_as number byte) = false

abbrev stream_said : Answer (Option (Option KeptStream)) → Option KeptStream
stream_said (gives None) = None
stream_said (gives (Some x)) = x
stream_said (refused_as number byte) = None

module _ {most : ℕ} (t : Tables) (sound : SoundTables SoundStream most t) (few : most ≤ 255) (id : ℕ) (id< : id < 256) (live : is_free t.sessions id ≡ false) (n : ℕ) (n< : n < 256) where
  abbrev pub l : Local
  l = shown_at t id

  -- ---- behind the opening

  abbrev pub u : Tables
  u = open_tables t id n

  abbrev pub lu : Local
  lu = opening n l

  pub open_shown : local_of u id ≡ Some lu
  open_shown = open_here t id id< (reach_streams t sound id id< live) n n< ∙ ap (streams.with_streams (open_in l.streams n)) (shown_live t id live)

  pub others : (j : ℕ) → j ≢ id → local_of u j ≡ local_of t j
  others j h = open_elsewhere t id id< (reach_streams t sound id id< live) n n< j h

  pub opens_led : LeadsTo SoundStream most t u
  opens_led = open_led SoundStream stream_lasts most t sound id id< n n<

  u_live : is_free u.sessions id ≡ false
  u_live = live_shown u id lu open_shown

  streams_shown_lem : (shown_at u id).streams ≡ lu.streams
  streams_shown_lem = ap (λ (x : Local). x.streams) (same_local u id lu open_shown)

  pub reached : streams_named u.sessions (length u.streams) id ≡ (Ok true)
  reached = reach_streams u opens_led.sound id id< u_live

  abbrev pub r : StreamRead
  r = read_of u.sessions u.streams id n

  -- the bytes that the stream holds
  abbrev pub buffer : List ℕ
  buffer = buffer_by u id id< reached (stream_place u.sessions u.streams id n)

  read_shown_lem : read_shown buffer (read_answer r) ≡ gives (Some (stream_in lu.streams n))
  read_shown_lem = read_view u id id< reached n ∙ ap (λ (ks : List KeptStream). gives (Some (stream_in ks n))) streams_shown_lem

  -- what is read, by the answer
  abbrev pub Read : Result StreamNamed Refusal → StreamState → Type 0
  Read (Ok stream.Open) s = stream_in lu.streams n ≡ Some (kept_of (bytes_in buffer) s)
  Read (Ok stream.NotOpen) s = stream_in lu.streams n ≡ None
  Read (Ok stream.NotLive) s = ⊥
  Read (Err x) s = ⊥

  pub read_as : Read r.answer r.state
  read_as = by r.answer r.state read_shown_lem
    where
      by : (a : Result StreamNamed Refusal) (s : StreamState) → read_shown buffer (state_answer a s) ≡ gives (Some (stream_in lu.streams n)) → Read a s
      by (Ok stream.Open) s e = sym (ap stream_said e)
      by (Ok stream.NotOpen) s e = sym (ap stream_said e)
      by (Ok stream.NotLive) s e = never (ap in_session e) refl
      by (Err x) s e = never (ap in_session e) refl

  own_number : (s : StreamState) → Read (Ok stream.Open) s → s.stream_id ≡ n
  own_number s e = found_number lu.streams n (kept_of (bytes_in buffer) s) e

  -- ---- HEARTBEAT

  module _ (d : List ℕ) where
    heartbeat_moves : (p : HeartbeatPayload) → on_heartbeat n p.first_unacked_seq p.last_seq l ≡ outcome d u id n lu (heartbeat_move r p)
    unfolding acknack_of
    heartbeat_moves p = by r.answer r.state read_as
      where
        by : (a : Result StreamNamed Refusal) (s : StreamState) → Read a s → done lu (acknack_from id p.first_unacked_seq p.last_seq (stream_in lu.streams n)) ≡ outcome d u id n lu (heartbeat_on a s p)
        by (Ok stream.Open) s e =
            ap (λ (x : Option KeptStream). done lu (acknack_from id p.first_unacked_seq p.last_seq x)) e
            ∙ ap (λ (m : ℕ). done lu (acknack_bytes id m s.next_recv_seq (bitmap_of s.next_recv_seq p.first_unacked_seq p.last_seq) ∷ [])) (own_number s e)
        by (Ok stream.NotOpen) s e = ap (λ (x : Option KeptStream). done lu (acknack_from id p.first_unacked_seq p.last_seq x)) e
        by (Ok stream.NotLive) s e = absurd e
        by (Err x) s e = absurd e

    pub heartbeat_square : (is_open : Bool) (p : HeartbeatPayload) (body : Span) → Squares is_open (sub.Heartbeat p) t d id n body
    heartbeat_square is_open p body = record { after = lu; shows = open_shown; moves = heartbeat_moves p; elsewhere = others }

  -- ---- what is read is sound

  pub read_sound : SoundStream r.state
  read_sound = read_lasts SoundStream stream_lasts most u opens_led.sound id id< n

  -- ---- ACKNACK

  module _ (p : AcknackPayload) where
    abbrev first : ℕ
    first = p.first_unacked_seq

    abbrev bitmap : ℕ
    bitmap = p.nack_bitmap

    abbrev ack_tables : Result StreamNamed Refusal → StreamState → Tables
    ack_tables a s = lent u.sessions (acknowledged_rows u.sessions u.streams id a s p) u.objects u.held u.parts u.lengths u.rebuilt

    abbrev left : StreamState → StreamState
    left s = (acknowledge s first bitmap).state

    left_number : (s : StreamState) → (left s).stream_id ≡ s.stream_id
    unfolding acknowledge repeats_of drop_before
    left_number s = refl

    left_small : (s : StreamState) → Read (Ok stream.Open) s → (left s).stream_id < 256
    left_small s e = rw (left_number s ∙ own_number s e) n<

    -- what is left of the session
    abbrev la : Local
    la = acknowledging n first lu

    acked : (a : Result StreamNamed Refusal) (s : StreamState) → Read a s → local_of (ack_tables a s) id ≡ Some la
    acked (Ok stream.Open) s e =
        write_here u id id< reached (left s) (left_small s e)
        ∙ ap (λ (ks : List KeptStream). written ks (left s).stream_id) streams_shown_lem
        ∙ ap (written lu.streams) (left_number s ∙ own_number s e)
        ∙ ap (λ (k : KeptStream). streams.with_streams (write_in lu.streams k) (local_of u id)) (acknack_kept (bytes_in buffer) s first bitmap)
        ∙ ap (streams.with_streams (write_in lu.streams (acknack_in first (kept_of (bytes_in buffer) s)))) open_shown
        ∙ ap (λ (x : Option KeptStream). Some (with_streams lu (acknowledged_by first x lu.streams))) (sym e)
      where
        -- with the buffer of the stream of a number
        written : List KeptStream → ℕ → Option Local
        written ks m = streams.with_streams (write_in ks (kept_of (bytes_in (buffer_by u id id< reached (stream_place u.sessions u.streams id m))) (left s))) (local_of u id)
    acked (Ok stream.NotOpen) s e = open_shown ∙ ap (λ (x : Option KeptStream). Some (with_streams lu (acknowledged_by first x lu.streams))) (sym e)
    acked (Ok stream.NotLive) s e = absurd e
    acked (Err x) s e = absurd e

    acked_others : (a : Result StreamNamed Refusal) (s : StreamState) → Read a s → (j : ℕ) → j ≢ id → local_of (ack_tables a s) j ≡ local_of t j
    acked_others (Ok stream.Open) s e j h = write_elsewhere u id id< reached (left s) (left_small s e) j h ∙ others j h
    acked_others (Ok stream.NotOpen) s e j h = others j h
    acked_others (Ok stream.NotLive) s e j h = absurd e
    acked_others (Err x) s e j h = absurd e

    -- what is written back is sound
    acknack_led : (a : Result StreamNamed Refusal) (s : StreamState) → Read a s → SoundStream s → LeadsTo SoundStream most u (ack_tables a s)
    acknack_led (Ok stream.Open) s e d = write_led SoundStream stream_lasts most u opens_led.sound id id< (left s) (left_small s e) (acknack_stream s first bitmap d)
    acknack_led (Ok stream.NotOpen) s e d = same_led SoundStream stream_lasts most u opens_led.sound
    acknack_led (Ok stream.NotLive) s e d = absurd e
    acknack_led (Err x) s e d = absurd e

    pub acks_led : LeadsTo SoundStream most t (handled_in (sub.Acknack p) t id n)
    acks_led = led_on opens_led (acknack_led r.answer r.state read_as read_sound)

    -- W5: "An ACKNACK is answered by the listed messages": what is left of the stream tells them
    module _ (d : List ℕ) where
      acknack_moves : (a : Result StreamNamed Refusal) (s : StreamState) → Read a s → SoundStream s → done la (repeats_from n first bitmap (stream_in la.streams n)) ≡ outcome d (ack_tables a s) id n la (acknack_on a s p)
      acknack_moves (Ok stream.Open) s e z =
          ap (λ (x : Option KeptStream). done la (repeats_from n first bitmap x)) kept
          ∙ by (eqb n 0) refl
          ∙ ap (λ (m : ℕ). outcome d v id n la (cond (eqb m 0) Silent (Repeats p))) (sym (own_number s e))
        where
          v : Tables
          v = ack_tables (Ok stream.Open) s

          k : KeptStream
          k = acknack_in first (kept_of (bytes_in buffer) s)

          kept : stream_in la.streams n ≡ Some k
          kept =
              ap (λ (x : Option KeptStream). stream_in (acknowledged_by first x lu.streams) n) e
              ∙ ap (stream_in (write_in lu.streams k)) (sym (own_number s e))
              ∙ written_here lu.streams (kept_of (bytes_in buffer) s) k (ap (stream_in lu.streams) (own_number s e) ∙ e)

          shows : local_of v id ≡ Some la
          shows = acked (Ok stream.Open) s e

          seen : stream_in (shown_at v id).streams n ≡ Some k
          seen = ap (λ (x : Local). stream_in x.streams n) (same_local v id la shows) ∙ kept

          by : (b : Bool) → eqb n 0 ≡ b → done la (cond b [] (repeated_in k.held first bitmap)) ≡ outcome d v id n la (cond b Silent (Repeats p))
          by true h = refl
          by false h = ap (done la) (sym (repeats_view most v (acknack_led (Ok stream.Open) s e z).sound few id id< (live_shown v id la shows) n first bitmap k (eqb-false n 0 h) seen))
      acknack_moves (Ok stream.NotOpen) s e z =
          ap (λ (x : Option KeptStream). done la (repeats_from n first bitmap x)) (ap (λ (x : Option KeptStream). stream_in (acknowledged_by first x lu.streams) n) e ∙ e)
      acknack_moves (Ok stream.NotLive) s e z = absurd e
      acknack_moves (Err x) s e z = absurd e

      pub acknack_square : (is_open : Bool) (body : Span) → Squares is_open (sub.Acknack p) t d id n body
      acknack_square is_open body =
          record { after = la; shows = acked r.answer r.state read_as; moves = acknack_moves r.answer r.state read_as read_sound; elsewhere = acked_others r.answer r.state read_as }
