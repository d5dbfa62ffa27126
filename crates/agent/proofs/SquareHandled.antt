-- The square of any submessage for a live session, with the touch before it; and the tables stay sound.
use Prim.Native.Nat.{ℕ, ◌<◌, ◌≤◌}
use mathlib.Core.Path.{◌≡◌, refl, sym, ap, ◌∙◌}
use mathlib.Core.Bool.{Bool, false}
use mathlib.Core.List.{List, []}
use Rattle.codec.specs.Reading.{part_of}
use Rattle.codec.specs.declared.layouts.Span.{Span}
use Rattle.codec.specs.declared.submessages.CreatePayload.{CreatePayload}
use Rattle.codec.specs.declared.submessages.ObjectKind.{ObjectKind}
use Rattle.codec.specs.declared.submessages.ObjectKind.TheVariants.{Participant, Topic, Publisher, Subscriber, DataWriter, DataReader}
use Rattle.codec.specs.declared.submessages.Submessage.{Submessage}
use Rattle.codec.specs.declared.submessages.Submessage.TheVariants as sub
use Rattle.isolation.specs.Rules.{done}
use Rattle.sessions.specs.Table.{is_free, touched_rows}
use Rattle.sessions.specs.Objects.{implicit_of}
use Rattle.sessions.specs.Room.{room_of}
use Rattle.sessions.specs.SessionObjects.{found_object}
use Rattle.sessions.specs.View.{Tables, Local, local_of}
use Rattle.sessions.specs.Calls.{SoundStream, SoundTables, LeadsTo, with_sessions}
use Rattle.sessions.specs.declared.room.Room.{Room}
use Rattle.sessions.specs.declared.room.Room.TheVariants as room
use Rattle.sessions.proofs.SoundStreams.{stream_lasts}
use Rattle.sessions.proofs.Steps.{same_led, touch_led, put_led, drop_led}
use Rattle.sessions.proofs.ViewTable.{touched_local, touch_here, touch_elsewhere}
use Rattle.agent.specs.Lent.{rows_of, with_rows}
use Rattle.agent.specs.Local.{touched}
use Rattle.agent.specs.RulesFragments.{on_submessage, plain}
use Rattle.moves.specs.Moves.{found_handle}
use Rattle.moves.specs.Rows.{rows, asks_of, created_sessions, created_objects, room_sessions, room_objects, handled_move}
use Rattle.moves.specs.declared.moves.Move.TheVariants.{Silent}
use Rattle.agent.specs.declared.state.Moment.{Moment}
use Rattle.agent.proofs.Square.{led_on, shown_at, handled_in, Meets, Squares, shown_live, live_shown, same_local}
use Rattle.agent.proofs.SquareObjects.{create_square, delete_square, write_square}
use Rattle.agent.proofs.SquareReads.{reads_led, read_square}
use Rattle.agent.proofs.SquareStreams.{opens_led, acks_led, heartbeat_square, acknack_square}
use Rattle.std.specs.Prelude.{Err, Ok, Result, Some}
use Rattle.codec.specs.declared.refusals.Refusal.{Refusal}

module _ {most : ℕ} (t : Tables) (sound : SoundTables SoundStream most t) (few : most ≤ 255) (id : ℕ) (id< : id < 256) where
  abbrev stays_led : LeadsTo SoundStream most t t
  stays_led = same_led SoundStream stream_lasts most t sound

  create_led : (p : CreatePayload) (r : Result Room Refusal)
      → LeadsTo SoundStream most t (with_rows t (rows (room_sessions r t.sessions t.objects id p.object_id p.kind p.parent_id) t.streams (room_objects r t.sessions t.objects id p.object_id p.kind p.parent_id)))
  create_led p (Ok room.Free) = by p.kind
    where
      by : (k : ObjectKind)
          → LeadsTo SoundStream most t (with_rows t (rows (created_sessions k t.sessions t.objects id p.object_id p.parent_id) t.streams (created_objects k t.sessions t.objects id p.object_id p.parent_id)))
      by Participant = stays_led
      by Topic = stays_led
      by Publisher = put_led SoundStream stream_lasts most t sound id id< (implicit_of p.object_id 3 p.parent_id)
      by Subscriber = put_led SoundStream stream_lasts most t sound id id< (implicit_of p.object_id 4 p.parent_id)
      by DataWriter = stays_led
      by DataReader = stays_led
  create_led p (Ok room.Full) = stays_led
  create_led p (Ok room.Depended) = stays_led
  create_led p (Ok room.NotLive) = stays_led
  create_led p (Err x) = stays_led

  module _ (live : is_free t.sessions id ≡ false) (n : ℕ) (n< : n < 256) where
    pub handled_led : (m : Submessage) → LeadsTo SoundStream most t (handled_in m t id n)
    handled_led (sub.CreateClient p) = stays_led
    handled_led (sub.Create p) = create_led p (room_of t.sessions t.objects id p.object_id)
    handled_led (sub.Delete p) = drop_led SoundStream stream_lasts most t sound id id< p.object_id
    handled_led (sub.Status p) = stays_led
    handled_led (sub.WriteData p) = stays_led
    handled_led (sub.ReadData p) = reads_led t sound few id id< live n n< (found_handle (found_object t.sessions t.objects id p.reader_id))
    handled_led (sub.Data p) = stays_led
    handled_led (sub.Heartbeat p) = opens_led t sound few id id< live n n<
    handled_led (sub.Acknack p) = acks_led t sound few id id< live n n< p
    handled_led (sub.Fragment p) = stays_led

    module _ (d : List ℕ) (body : Span) (is_open : Bool) where
      -- "DATA and STATUS get no reply"
      nothing : Meets t d id n (done (shown_at t id) []) t Silent
      nothing = record { after = shown_at t id; shows = shown_live t id live; moves = refl; elsewhere = λ j h. refl }

      pub handled_square : (m : Submessage) → Squares is_open m t d id n body
      handled_square (sub.CreateClient p) = nothing
      handled_square (sub.Create p) = create_square t sound id id< live d n body p is_open
      handled_square (sub.Delete p) = delete_square t sound id id< live d n body is_open p
      handled_square (sub.Status p) = nothing
      handled_square (sub.WriteData p) = write_square t sound id id< live d n body is_open p
      handled_square (sub.ReadData p) = read_square t sound few id id< live n n< is_open d body p
      handled_square (sub.Data p) = nothing
      handled_square (sub.Heartbeat p) = heartbeat_square t sound few id id< live n n< d is_open p body
      handled_square (sub.Acknack p) = acknack_square t sound few id id< live n n< p d is_open body
      handled_square (sub.Fragment p) = nothing

-- ---- with the touch: "The time becomes the last activity; then the rules above work on its lists alone."

abbrev pub touched_at : Tables → ℕ → ℕ → Tables
touched_at t id time = with_sessions t (touched_rows t.sessions id time)

module _ {most : ℕ} (t : Tables) (sound : SoundTables SoundStream most t) (few : most ≤ 255) (id : ℕ) (id< : id < 256) (moment : Moment) where
  abbrev time : ℕ
  time = moment.time

  abbrev u : Tables
  u = touched_at t id time

  pub touches_led : LeadsTo SoundStream most t u
  touches_led = touch_led SoundStream stream_lasts most t sound id time id<

  module _ (l : Local) (is : local_of t id ≡ Some l) where
    pub touch_shown : local_of u id ≡ Some (touched time l)
    touch_shown = touch_here t id sound.sessions_need_lem id< time ∙ ap (touched_local t id sound.sessions_need_lem id< time) is

    pub touch_live : is_free u.sessions id ≡ false
    touch_live = live_shown u id (touched time l) touch_shown

  module _ (l : Local) (is : local_of t id ≡ Some l) (n : ℕ) (n< : n < 256) (m : Submessage) where
    pub turn_led : LeadsTo SoundStream most t (handled_in m u id n)
    turn_led = led_on touches_led (handled_led u touches_led.sound few id id< (touch_live l is) n n< m)

    pub turn_square : (d : List ℕ) (body : Span)
        → Meets t d id n (plain l (record { moment = moment; stream = n; fields = m; body = part_of d body })) (handled_in m u id n) (handled_move moment.is_open (asks_of m) (rows_of u) d id n body)
    turn_square d body =
        let q = handled_square u touches_led.sound few id id< (touch_live l is) n n< d body moment.is_open m in
        record {
          after = q.after;
          shows = q.shows;
          moves = ap (on_submessage moment.is_open m (part_of d body) n) (sym (same_local u id (touched time l) (touch_shown l is))) ∙ q.moves;
          elsewhere = λ j h. q.elsewhere j h ∙ touch_elsewhere t id sound.sessions_need_lem id< time j h;
        }
