-- Sending leads from sound tables to sound ones: the stream is written back as it would be by `write_stream`, and the store of held messages has its length.
use Prim.Native.Nat.{ℕ, ◌+◌, ◌<◌}
use mathlib.Core.Path.{◌≡◌, refl, sym, ap, ◌∙◌, subst}
use mathlib.Core.Bool.{Bool, true, false, cond}
use mathlib.Core.List.{List}
use lib.ListN.{length, take}
use Rattle.streams.specs.Sent.{alloc_of, slot_for, record_of}
use Rattle.streams.specs.declared.state.StreamState.{StreamState}
use Rattle.sessions.specs.Table.{is_free}
use Rattle.sessions.specs.Streams.{stream_at, first_stream}
use Rattle.sessions.specs.SessionStreams.{streams_named, stream_place, read_as, written_in}
use Rattle.sessions.specs.Sending.{stretch_at, room_of, sent_row, sent_streams_at, sent_streams, sent_held}
use Rattle.sessions.specs.View.{Tables, Part, opened, table_part, Distinct}
use Rattle.sessions.specs.Calls.{send_tables, Lasting, SoundPart, SoundTables, LeadsTo}
use Rattle.sessions.specs.declared.session_streams.StreamPlace.{StreamPlace}
use Rattle.sessions.specs.declared.session_streams.StreamPlace.TheVariants.{Have, Add, Full, NotLive}
use Rattle.sessions.proofs.ShownStreams.{shown_numbers}
use Rattle.sessions.proofs.StreamBack.{row_small}
use Rattle.sessions.proofs.Steps as steps
use Rattle.sessions.proofs.ViewStreams as streams
use Rattle.sessions.proofs.ViewSending.{sent_length, sent_number}
use Rattle.std.specs.Prelude.{Err, None, Ok, Option, Result, Some}
use Rattle.codec.specs.declared.refusals.Refusal.{Refusal}

module _ (P : StreamState → Type 0) (lasting : Lasting P) (most : ℕ) where
  -- ---- tables with other held messages

  abbrev with_held : List ℕ → Tables → Tables
  with_held held t = record { sessions = t.sessions; streams = t.streams; objects = t.objects; held = held; parts = t.parts; lengths = t.lengths; rebuilt = t.rebuilt }

  -- a part's streams have their numbers whatever is held
  held_part_lem : (p : Part) (held : List ℕ) → SoundPart P p → SoundPart P (record { session = p.session; objects = p.objects; streams = p.streams; held = held; parts = p.parts; lengths = p.lengths })
  unfolding opened
  held_part_lem p held g = record {
    few_objects = g.few_objects;
    few_streams = g.few_streams;
    objects_differ = g.objects_differ;
    streams_differ = subst Distinct (shown_numbers p.held held 0 (take p.session.streams p.streams)) g.streams_differ;
    written = g.written;
    few_fragments = g.few_fragments;
    fragments = g.fragments;
    fragments_gone = g.fragments_gone;
    stream_zero = g.stream_zero;
  }

  held_led : (t u : Tables) (held : List ℕ) → length held ≡ length u.held → LeadsTo P most t u → LeadsTo P most t (with_held held u)
  held_led t u held e d = record {
    sound = record {
      sessions_need_lem = d.sound.sessions_need_lem;
      streams_need_lem = d.sound.streams_need_lem;
      objects_need_lem = d.sound.objects_need_lem;
      held_need_lem = rw e d.sound.held_need_lem;
      parts_need_lem = d.sound.parts_need_lem;
      lengths_need_lem = d.sound.lengths_need_lem;
      rebuilt_need_lem = d.sound.rebuilt_need_lem;
      zero_free = d.sound.zero_free;
      slots = d.sound.slots;
      each = λ id h. held_part_lem (table_part u id) (table_part (with_held held u) id).held (d.sound.each id h);
    };
    sessions_length = d.sessions_length;
    streams_length = d.streams_length;
    objects_length = d.objects_length;
    held_length = e ∙ d.held_length;
    parts_length = d.parts_length;
    lengths_length = d.lengths_length;
    rebuilt_length = d.rebuilt_length;
  }

  module _ (t : Tables) (d : SoundTables P most t) (id : ℕ) (id< : id < 256) (n : ℕ) (message : List ℕ) where
    abbrev place : Result StreamPlace Refusal
    place = stream_place t.sessions t.streams id n

    abbrev with_rows : List (List ℕ) → Tables
    with_rows rows = record { sessions = t.sessions; streams = rows; objects = t.objects; held = t.held; parts = t.parts; lengths = t.lengths; rebuilt = t.rebuilt }

    -- the stream of place k, and what it is behind the message
    module _ (k : ℕ) (found : place ≡ Ok (Have k)) (number : (stream_at t.streams (first_stream id + k)).stream_id ≡ n) where
      abbrev s : StreamState
      s = stream_at t.streams (first_stream id + k)

      abbrev room : ℕ
      room = room_of (stretch_at t.sessions (length t.held) id k)

      abbrev behind : StreamState
      behind = (alloc_of (record_of s s.next_send_seq (length message) room).state).state

      known : P s
      known = subst (λ (p : Result StreamPlace Refusal). P (read_as p t.streams id).state) found (steps.read_lasts P lasting most t d id id< n)

      own : behind.stream_id ≡ n
      own = sent_number s s.next_send_seq (length message) room ∙ number

      written_led : LeadsTo P most t (with_rows (written_in (Ok (Have k)) t.streams id behind))
      written_led =
          subst (λ (p : Result StreamPlace Refusal). LeadsTo P most t (with_rows (written_in p t.streams id behind))) (ap (stream_place t.sessions t.streams id) own ∙ found)
          (steps.write_led P lasting most t d id id< behind
          (rw (sent_number s s.next_send_seq (length message) room) (row_small _))
          (lasting.sends s (length message) room known))

      rows_led : LeadsTo P most t (with_rows (sent_streams_at (Ok (Have k)) t.sessions t.streams t.held id message))
      unfolding record_of
      rows_led = by (slot_for s s.next_send_seq (length message) room)
        where
          by : (a : Result (Option ℕ) Refusal) → LeadsTo P most t (with_rows (sent_row a t.streams (first_stream id + k) (record_of s s.next_send_seq (length message) room).state))
          by (Ok (Some p)) = written_led
          by (Ok None) = steps.same_led P lasting most t d
          by (Err r) = steps.same_led P lasting most t d

    streams_led : LeadsTo P most t (with_rows (sent_streams t.sessions t.streams t.held id n message))
    unfolding sent_streams
    streams_led = go (is_free t.sessions id) refl
      where
        its : (b : Bool) → is_free t.sessions id ≡ b → streams_named t.sessions (length t.streams) id ≡ cond b (Ok false) (Ok true)
        its b e = steps.streams_named_lem P lasting most t d id id< ∙ ap (λ (b : Bool). cond b (Ok false) (Ok true)) e

        by : (live : streams_named t.sessions (length t.streams) id ≡ (Ok true)) (p : Result StreamPlace Refusal) → place ≡ p → streams.Seen t id id< live n p
            → LeadsTo P most t (with_rows (sent_streams_at p t.sessions t.streams t.held id message))
        by live (Ok (Have k)) e s = rows_led k e (streams.at_number t id id< live n k s)
        by live (Ok (Add k)) e s = steps.same_led P lasting most t d
        by live (Ok Full) e s = steps.same_led P lasting most t d
        by live (Ok NotLive) e s = absurd s
        by live (Err r) e s = absurd s

        go : (b : Bool) → is_free t.sessions id ≡ b → LeadsTo P most t (with_rows (sent_streams_at place t.sessions t.streams t.held id message))
        go true e =
            subst (λ (p : Result StreamPlace Refusal). LeadsTo P most t (with_rows (sent_streams_at p t.sessions t.streams t.held id message))) (sym (streams.no_place t id (its true e) n))
            (steps.same_led P lasting most t d)
        go false e = by (its false e) place refl (streams.seen t id id< (its false e) n)

    pub send_led : LeadsTo P most t (send_tables t id n message)
    send_led =
        held_led t (with_rows (sent_streams t.sessions t.streams t.held id n message)) (sent_held t.sessions t.streams t.held id n message)
        (sent_length t.sessions t.streams t.held id n message) streams_led
