-- The square of READ_DATA: of a known reader it opens its stream, if that is another than 0, and goes by it as it is read.
use Prim.Native.Nat.{ℕ, ◌<◌, ◌≤◌}
use mathlib.Core.Path.{◌≡◌, refl, sym, ap, ◌∙◌}
use mathlib.Core.Bool.{Bool, true, false, cond}
use mathlib.Core.List.{List}
use lib.Dec.{eqb}
use Rattle.codec.specs.declared.layouts.Span.{Span}
use Rattle.codec.specs.declared.submessages.ObjectNumber.{ObjectNumber}
use Rattle.codec.specs.declared.submessages.ReadDataPayload.{ReadDataPayload}
use Rattle.codec.specs.declared.submessages.StatusCode.TheVariants.{ErrUnknownRef, ErrResources}
use Rattle.codec.specs.declared.submessages.Submessage.TheVariants as sub
use Rattle.streams.specs.Places.{is_full}
use Rattle.streams.specs.Sent.{bytes_in}
use Rattle.streams.specs.declared.state.StreamState.{StreamState}
use Rattle.streams.proofs.Counted.{full_held}
use Rattle.sessions.specs.Table.{is_free}
use Rattle.sessions.specs.SessionObjects.{found_object}
use Rattle.sessions.specs.View.{Tables, KeptStream, Local, stream_in}
use Rattle.sessions.specs.Calls.{SoundStream, SoundTables, LeadsTo}
use Rattle.sessions.specs.declared.objects.Handle.{Handle}
use Rattle.sessions.specs.declared.session_streams.StreamNamed.{StreamNamed}
use Rattle.sessions.specs.declared.session_streams.StreamNamed.TheVariants as stream
use Rattle.sessions.proofs.SoundStreams.{stream_lasts}
use Rattle.sessions.proofs.Steps.{same_led}
use Rattle.moves.specs.Calls.{read_data, reading}
use Rattle.moves.specs.Moves as moves
use Rattle.moves.specs.Moves.{found_handle, read_call}
use Rattle.moves.specs.RowsStreams.{read_move, read_sessions, read_rows}
use Rattle.moves.specs.declared.moves.Move.TheVariants.{Status}
use Rattle.agent.specs.Lent.{lent}
use Rattle.agent.specs.RulesObjects.{Move, says, asks, if_handle, read_on, read_from}
use Rattle.agent.proofs.Square.{outcome, shown_at, Meets, Squares, shown_live}
use Rattle.agent.proofs.SquareObjects.{handle_shown, handle_view}
use Rattle.agent.proofs.SquareStreams as streams
use Rattle.agent.proofs.SquareStreams.{Read, read_as, read_sound, open_shown, opens_led, others}
use Rattle.std.specs.Prelude.{Err, None, Ok, Result, Some, Option}
use Rattle.codec.specs.declared.refusals.Refusal.{Refusal}

module _ {most : ℕ} (t : Tables) (sound : SoundTables SoundStream most t) (few : most ≤ 255) (id : ℕ) (id< : id < 256) (live : is_free t.sessions id ≡ false) (n : ℕ) (n< : n < 256) where
  abbrev l : Local
  l = shown_at t id

  -- the tables with the stream opened, and the session
  abbrev u : Tables
  u = streams.u t sound few id id< live n n<

  abbrev lu : Local
  lu = streams.lu t sound few id id< live n n<

  -- the tables behind it, by its reader's handle; stream 0 is not opened
  abbrev pub read_in : Option Handle → Tables
  read_in h = lent (read_sessions h t.sessions t.streams id n) (read_rows h t.sessions t.streams id n) t.objects t.held t.parts t.lengths t.rebuilt

  abbrev open_unless : Bool → Tables
  open_unless b = lent (cond b t.sessions u.sessions) (cond b t.streams u.streams) t.objects t.held t.parts t.lengths t.rebuilt

  pub reads_led : (h : Option Handle) → LeadsTo SoundStream most t (read_in h)
  reads_led (Some h) = by (eqb n 0)
    where
      by : (b : Bool) → LeadsTo SoundStream most t (open_unless b)
      by true = same_led SoundStream stream_lasts most t sound
      by false = opens_led t sound few id id< live n n<
  reads_led None = same_led SoundStream stream_lasts most t sound

  module _ (d : List ℕ) (number : ObjectNumber) where
    -- on another stream than 0, as it is read
    on_moves : (h : Handle) (a : Result StreamNamed Refusal) (s : StreamState) → Read t sound few id id< live n n< a s → SoundStream s
        → read_on n number.0 h.0 (stream_in lu.streams n) lu ≡ outcome d u id n lu (moves.read_on a s number h)
    on_moves h (Ok stream.Open) s e z =
        ap (λ (x : Option KeptStream). read_on n number.0 h.0 x lu) e
        ∙ ap answers (sym (full_held s z.sound z.bits (bytes_in (streams.buffer t sound few id id< live n n<))))
        ∙ by (is_full s)
      where
        answers : Bool → Move
        answers b = cond b (says n number.0 ErrResources lu) (asks n number.0 reading (read_data h.0) lu)

        by : (b : Bool) → answers b ≡ outcome d u id n lu (cond b (Status number ErrResources) (read_call number h))
        by true = refl
        by false = refl
    on_moves h (Ok stream.NotOpen) s e z = ap (λ (x : Option KeptStream). read_on n number.0 h.0 x lu) e
    on_moves h (Ok stream.NotLive) s e z = absurd e
    on_moves h (Err x) s e z = absurd e

    abbrev rule : Option ℕ → Move
    rule x = if_handle x (λ h. read_from n number.0 h l) (says n number.0 ErrUnknownRef l)

    by_handle : (h : Option Handle) → Meets t d id n (rule (handle_shown h)) (read_in h) (read_move number h t.sessions t.streams id n)
    by_handle (Some h) = by (eqb n 0)
      where
        r : (Result StreamNamed Refusal) × StreamState
        r = ((streams.r t sound few id id< live n n<).answer, (streams.r t sound few id id< live n n<).state)

        by : (b : Bool)
            → Meets t d id n (cond b (asks n number.0 reading (read_data h.0) l) (read_on n number.0 h.0 (stream_in lu.streams n) lu)) (open_unless b)
            (cond b (read_call number h) (moves.read_on r.0 r.1 number h))
        by true = record { after = l; shows = shown_live t id live; moves = refl; elsewhere = λ j h. refl }
        by false = record {
          after = lu;
          shows = open_shown t sound few id id< live n n<;
          moves = on_moves h r.0 r.1 (read_as t sound few id id< live n n<) (read_sound t sound few id id< live n n<);
          elsewhere = others t sound few id id< live n n<;
        }
    by_handle None = record { after = l; shows = shown_live t id live; moves = refl; elsewhere = λ j h. refl }

  pub read_square : (is_open : Bool) (d : List ℕ) (body : Span) (p : ReadDataPayload) → Squares is_open (sub.ReadData p) t d id n body
  read_square is_open d body p =
      let number = p.reader_id in
      let q = by_handle d number (found_handle (found_object t.sessions t.objects id number)) in
      record { after = q.after; shows = q.shows; moves = ap (rule d number) (handle_view t sound id id< live d n body number) ∙ q.moves; elsewhere = q.elsewhere }
