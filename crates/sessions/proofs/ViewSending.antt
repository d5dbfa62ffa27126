-- The view of held messages in the tables: what sending shows and changes of it, what is asked for again, and that nothing else changes.
use Prim.Native.Nat.{ℕ, ◌+◌, ◌*◌, ◌<◌, ◌≤◌}
use mathlib.Core.Path.{◌≡◌, refl, sym, ap, ◌∙◌, subst}
use mathlib.Core.Logic.{◌≢◌}
use mathlib.Core.Bool.{Bool, true, false, cond}
use mathlib.Core.List.{List, [], map}
use native.Mathlib.Omega.{arith}
use borrow.Author.Tests.{eqb-true, eqb-false, ne_eqb, le-ltb, lt-leb}
use lib.Dec.{eqb, leb}
use lib.ListN.{length, get_or, set}
use Rattle.codec.specs.Bytes.{put_bytes}
use Rattle.codec.specs.declared.refusals.Refusal.TheVariants.{StoreFull}
use Rattle.codec.proofs.bytes.Laws.{length_put}
use Rattle.streams.specs.Places.{place_of, place_between, is_held, is_full, place_for}
use Rattle.streams.specs.Sent.{need, alloc_of, slot_for, with_message, record_at, record_of, bytes_at, record_bytes, bytes_in}
use Rattle.streams.specs.Acknowledged.{repeats}
use Rattle.streams.specs.View.{present, many_held, repeated_in, kept_of, alloc_in, record_in, sent_in, Sound}
use Rattle.streams.specs.declared.state.StreamState.{StreamState}
use Rattle.streams.proofs.sent.Laws.{slot_at}
use Rattle.streams.proofs.places.Laws.{never}
use Rattle.streams.proofs.places.Held.{held_low, read_present}
use Rattle.streams.proofs.Soundness.{sound_limits}
use Rattle.streams.proofs.Kept.{alloc_kept, record_kept}
use Rattle.streams.proofs.Counted.{full_held}
use Rattle.streams.proofs.Repeated.{held_short, repeated_held}
use Rattle.sessions.specs.Need.{stream_bytes, slot_bytes}
use Rattle.sessions.specs.Table.{session_at, is_free}
use Rattle.sessions.specs.Streams.{stream_of, stream_row, stream_at, keep_stream, first_stream}
use Rattle.sessions.specs.SessionObjects.{object_row}
use Rattle.sessions.specs.SessionStreams.{streams_used, streams_named, stream_place, read_as}
use Rattle.sessions.specs.Held.{slot_part, held_part, buffer_at}
use Rattle.sessions.specs.Sending.{room_of, buffer_in, with_buffer, next_slot, stretch_at, stretch_by, buffer_stretch, data_slot_at, data_slot, sent_row, sent_streams_at, sent_streams, sent_held_at, sent_held, message_at, message_of}
use Rattle.sessions.specs.View.{Tables, KeptStream, opened, stream_rows, table_part, store_shown, session_shown, local_shown, objects_of, streams_of, local_of, stream_in, write_in}
use Rattle.sessions.specs.Calls.{send_tables, SoundStream, SoundTables}
use Rattle.sessions.specs.declared.sending.Stretch.{Stretch}
use Rattle.sessions.specs.declared.session_streams.StreamPlace.{StreamPlace}
use Rattle.sessions.specs.declared.session_streams.StreamPlace.TheVariants.{Have, Add, Full, NotLive}
use Rattle.sessions.proofs.Buffers.{with_same, with_length, put_back, stretch_lies, stretch_room, buffer_there, buffer_full, slot_elsewhere, buffer_here, buffer_elsewhere}
use Rattle.sessions.proofs.SoundStreams.{stream_lasts}
use Rattle.sessions.proofs.Steps as steps
use Rattle.sessions.proofs.StreamBack.{row_small, row_shown}
use Rattle.sessions.proofs.ViewStreams as streams
use Rattle.sessions.proofs.ViewTable.{parts_of, lengths_of, streams_here, streams_elsewhere}
use Rattle.sessions.proofs.sending.Laws.{buffer_length}
use Rattle.std.specs.Prelude.{Err, None, Ok, Option, Result, Some}
use Rattle.codec.specs.declared.refusals.Refusal.{Refusal}

-- ---- any tables

-- `record_sent` leaves a buffer as long as it was
pub recorded_length : (s : StreamState) (n : ℕ) (message buffer : List ℕ) → length (record_bytes s n message buffer) ≡ length buffer
unfolding record_bytes bytes_at
recorded_length s n message buffer = by (slot_for s n (length message) (length buffer)) refl
  where
    by : (a : Result (Option ℕ) Refusal) → slot_for s n (length message) (length buffer) ≡ a → length (bytes_at a message buffer) ≡ length buffer
    by (Ok (Some p)) e =
        let k = slot_at s n (length message) (length buffer) p e in
        length_put buffer (p * 1024) message (omega (arith, k.low, k.short, k.room_for))
    by (Ok None) e = refl
    by (Err r) e = refl

-- whether a message is recorded
abbrev pub placed : Result (Option ℕ) Refusal → Bool
placed (Ok (Some p)) = true
placed (Ok None) = false
placed (Err r) = false

module _ (sessions streams : List (List ℕ)) (held : List ℕ) (id n : ℕ) where
  -- what is asked for again has at most 1,024 bytes
  pub message_short : (seq : ℕ) → length (message_of sessions streams held id n seq) ≤ 1024
  unfolding message_of
  message_short seq = by (stream_place sessions streams id n)
    where
      by : (p : Result StreamPlace Refusal) → length (message_at p sessions streams held id seq) ≤ 1024
      by (Ok (Have k)) = held_short (stream_at streams (first_stream id + k)) seq (buffer_in held (stretch_at sessions (length held) id k))
      by (Ok (Add k)) = omega arith
      by (Ok Full) = omega arith
      by (Ok NotLive) = omega arith
      by (Err r) = omega arith

  -- what is put into the stream's buffer is as long as it
  sent_fits : (k : ℕ) (message : List ℕ)
      → let s = stream_at streams (first_stream id + k) in let b = stretch_at sessions (length held) id k in length (record_bytes s s.next_send_seq message (buffer_in held b)) ≡ room_of b
  sent_fits k message =
      let s = stream_at streams (first_stream id + k) in
      let b = stretch_at sessions (length held) id k in
      let l = stretch_lies (session_at sessions id).slot k (length held) in
      recorded_length s s.next_send_seq message (buffer_in held b) ∙ buffer_length held b l.0 l.1

  -- the store is as long as it was
  pub sent_length : (message : List ℕ) → length (sent_held sessions streams held id n message) ≡ length held
  unfolding sent_held
  sent_length message = by (stream_place sessions streams id n)
    where
      by : (p : Result StreamPlace Refusal) → length (sent_held_at p sessions streams held id message) ≡ length held
      by (Ok (Have k)) =
          let l = stretch_lies (session_at sessions id).slot k (length held) in
          with_length held (stretch_at sessions (length held) id k) l.0 l.1 _ (sent_fits k message)
      by (Ok (Add k)) = refl
      by (Ok Full) = refl
      by (Ok NotLive) = refl
      by (Err r) = refl

  -- sending changes no byte but those of the stream's buffer: with its old bytes put back the store is as it was
  pub held_back : (message : List ℕ)
      → let b = buffer_stretch sessions streams (length held) id n in put_bytes (sent_held sessions streams held id n message) b.start (buffer_in held b) ≡ held
  unfolding sent_held buffer_stretch
  held_back message = by (stream_place sessions streams id n)
    where
      empty : Stretch
      empty = record { start = 0; end = 0 }

      still : put_bytes held empty.start (buffer_in held empty) ≡ held
      still =
          ap (λ (l : List ℕ). put_bytes l empty.start (buffer_in held empty)) (sym (with_same held empty))
          ∙ put_back held empty (omega arith) (omega arith) (buffer_in held empty) (buffer_length held empty (omega arith) (omega arith))

      by : (p : Result StreamPlace Refusal) → put_bytes (sent_held_at p sessions streams held id message) (stretch_by p sessions (length held) id).start (buffer_in held (stretch_by p sessions (length held) id)) ≡ held
      by (Ok (Have k)) =
          let b = stretch_at sessions (length held) id k in
          let l = stretch_lies (session_at sessions id).slot k (length held) in
          let s = stream_at streams (first_stream id + k) in
          put_back held b l.0 l.1 (record_bytes s s.next_send_seq message (buffer_in held b)) (sent_fits k message)
      by (Ok (Add k)) = still
      by (Ok Full) = still
      by (Ok NotLive) = still
      by (Err r) = still

  -- where it isn't nothing changes
  unsent_at : (k : ℕ) (message : List ℕ) → let b = stretch_at sessions (length held) id k in placed (next_slot (stream_at streams (first_stream id + k)) (length message) (room_of b)) ≡ false
      → (sent_streams_at (Ok (Have k)) sessions streams held id message ≡ streams) × (sent_held_at (Ok (Have k)) sessions streams held id message ≡ held)
  unfolding record_of record_bytes bytes_at
  unsent_at k message =
      let l = stretch_lies (session_at sessions id).slot k (length held) in
      rw (buffer_length held (stretch_at sessions (length held) id k) l.0 l.1) (go (slot_for s s.next_send_seq (length message) (room_of b)))
    where
      s : StreamState
      s = stream_at streams (first_stream id + k)

      b : Stretch
      b = stretch_at sessions (length held) id k

      go : (a : Result (Option ℕ) Refusal) → placed a ≡ false
          → (sent_row a streams (first_stream id + k) (record_of s s.next_send_seq (length message) (room_of b)).state ≡ streams) × (with_buffer held b (bytes_at a message (buffer_in held b)) ≡ held)
      go (Ok (Some p)) e = absurd (never refl e)
      go (Ok None) e = (refl, with_same held b)
      go (Err r) e = (refl, with_same held b)

  pub unsent : (message : List ℕ) → placed (data_slot sessions streams (length held) id n (length message)) ≡ false
      → (sent_streams sessions streams held id n message ≡ streams) × (sent_held sessions streams held id n message ≡ held)
  unfolding data_slot sent_streams sent_held
  unsent message = by (stream_place sessions streams id n)
    where
      by : (p : Result StreamPlace Refusal) → placed (data_slot_at p sessions streams (length held) id (length message)) ≡ false
          → (sent_streams_at p sessions streams held id message ≡ streams) × (sent_held_at p sessions streams held id message ≡ held)
      by (Ok (Have k)) e = unsent_at k message e
      by (Ok (Add k)) e = (refl, refl)
      by (Ok Full) e = (refl, refl)
      by (Ok NotLive) e = (refl, refl)
      by (Err r) e = (refl, refl)

pub send_still : (t : Tables) (id n : ℕ) (message : List ℕ) → placed (data_slot t.sessions t.streams (length t.held) id n (length message)) ≡ false → send_tables t id n message ≡ t
send_still t id n message e =
    let u = unsent t.sessions t.streams t.held id n message e in
    λ i. record { sessions = t.sessions; streams = u.0 i; objects = t.objects; held = u.1 i; parts = t.parts; lengths = t.lengths; rebuilt = t.rebuilt }

-- ---- one stream

-- whether a number has no place: it isn't held, and all sixteen are taken
full_place : (s : StreamState) (m : ℕ) → leb 16 (place_for s m) ≡ cond (is_held s m) false (is_full s)
unfolding place_for is_full
full_place s m = by (is_held s m) refl
  where
    by : (b : Bool) → is_held s m ≡ b → leb 16 (cond b (place_of s m) (place_between s 0 0)) ≡ cond b false (leb 16 (place_between s 0 0))
    by true e = lt-leb 16 (place_of s m) (held_low s m e)
    by false e = refl

-- of a message that is not too long, a reliable stream's answer goes by its places alone
slot_told : (s : StreamState) → Sound s → (s.stream_id ≡ 0 → ⊥) → (m len room : ℕ) → len ≤ 1024 → need ≤ room
    → slot_for s m len room ≡ cond (cond (is_held s m) false (is_full s)) (Err StoreFull) (Ok (Some (place_for s m)))
unfolding slot_for
slot_told s sound other m len room short enough =
    rw (ne_eqb s.stream_id 0 other, le-ltb room need enough, sound_limits s sound, le-ltb 1024 len short, full_place s m) refl

-- what is recorded and counted changes no stream's number
pub sent_number : (s : StreamState) (n len room : ℕ) → (alloc_of (record_of s n len room).state).state.stream_id ≡ s.stream_id
unfolding alloc_of record_of record_at with_message
sent_number s n len room = by (slot_for s n len room)
  where
    by : (a : Result (Option ℕ) Refusal) → (record_at a s n len).stream_id ≡ s.stream_id
    by (Ok (Some p)) = refl
    by (Ok None) = refl
    by (Err r) = refl

-- whether the next message of a stream has no place: its number isn't held, and 16 are
abbrev pub no_place : KeptStream → Bool
no_place x = cond (present (x.held x.next)) false (leb 16 (many_held x.held))

-- ---- sound tables

none_some : {A : Type 0} (x : A) → None ≡ Some x → ⊥
none_some x e = let z : ◌≡◌ {A = ℕ} 0 1 = cc in omega arith

some_same : {A : Type 0} (x y : A) → Some x ≡ Some y → x ≡ y
some_same x y e = cc

module _ (most : ℕ) (t : Tables) (d : SoundTables SoundStream most t) (few : most ≤ 255) (id : ℕ) (id< : id < 256) (live : is_free t.sessions id ≡ false) where
  its : streams_named t.sessions (length t.streams) id ≡ (Ok true)
  its = steps.streams_named_lem SoundStream stream_lasts most t d id id< ∙ ap (λ (b : Bool). cond b (Ok false) (Ok true)) live

  -- ---- the session's slot, and a stream with its buffer, by its place

  abbrev own : ℕ
  own = (session_at t.sessions id).slot

  own_few : own ≤ 255
  own_few = let h : own < most = d.slots.under id id< live in omega arith

  own_room : slot_bytes * own + slot_bytes ≤ length t.held
  own_room = let h : own < most = d.slots.under id id< live in let l = d.held_need_lem in omega arith

  abbrev state : ℕ → StreamState
  state k = stream_at t.streams (first_stream id + k)

  abbrev stretch : ℕ → Stretch
  stretch k = stretch_at t.sessions (length t.held) id k

  abbrev buffer : ℕ → List ℕ
  buffer k = buffer_in t.held (stretch k)

  -- the part of a live session in any store
  part_is : (held : List ℕ) → held_part held (session_at t.sessions id) ≡ slot_part held own
  part_is held = ap (λ (b : Bool). cond b [] (slot_part held own)) live

  -- ---- a message that the stream of place k records: the tables behind it

  module _ (message : List ℕ) (k : ℕ) (low : 1 ≤ k) (high : k ≤ 7) where
    abbrev next : ℕ
    next = (state k).next_send_seq

    abbrev behind : StreamState
    behind = (alloc_of (record_of (state k) next (length message) (room_of (stretch k))).state).state

    abbrev filled : List ℕ
    filled = record_bytes (state k) next message (buffer k)

    abbrev sent : Tables
    sent = record { sessions = t.sessions; streams = keep_stream t.streams (first_stream id + k) behind; objects = t.objects; held = with_buffer t.held (stretch k) filled; parts = t.parts; lengths = t.lengths; rebuilt = t.rebuilt }

    filled_long : length filled ≡ stream_bytes
    filled_long = recorded_length (state k) next message (buffer k) ∙ buffer_full own k low high t.held own_few own_room

    sent_is : (n p : ℕ) → stream_place t.sessions t.streams id n ≡ Ok (Have k) → next_slot (state k) (length message) (room_of (stretch k)) ≡ Ok (Some p) → send_tables t id n message ≡ sent
    unfolding sent_streams sent_held record_of
    sent_is n p found e =
        ap (λ (q : Result StreamPlace Refusal). record { sessions = t.sessions; streams = sent_streams_at q t.sessions t.streams t.held id message; objects = t.objects; held = sent_held_at q t.sessions t.streams t.held id message; parts = t.parts; lengths = t.lengths; rebuilt = t.rebuilt }) found
        ∙ ap (λ (a : Result (Option ℕ) Refusal). record { sessions = t.sessions; streams = sent_row a t.streams (first_stream id + k) (record_of (state k) next (length message) (room_of (stretch k))).state; objects = t.objects; held = with_buffer t.held (stretch k) filled; parts = t.parts; lengths = t.lengths; rebuilt = t.rebuilt }) e

    -- the part of another id
    sent_elsewhere : (j : ℕ) → j < 256 → j ≢ id → table_part sent j ≡ table_part t j
    sent_elsewhere j j< h = λ i. record {
      session = session_at t.sessions j;
      objects = object_row t.objects j;
      streams = streams_elsewhere t.streams id k j (stream_row behind) (omega arith) h i;
      held = by (is_free t.sessions j) refl i;
      parts = parts_of t (session_at t.sessions j);
      lengths = lengths_of t (session_at t.sessions j);
    }
      where
        its_slot : ℕ
        its_slot = (session_at t.sessions j).slot

        by : (b : Bool) → is_free t.sessions j ≡ b → cond b [] (slot_part sent.held its_slot) ≡ cond b [] (slot_part t.held its_slot)
        by true e = refl
        by false e = slot_elsewhere own k low high t.held own_few own_room filled filled_long its_slot (λ q. h (d.slots.differ j id j< id< e live q))

    -- the session's own streams
    abbrev part' : List ℕ
    part' = held_part sent.held (session_at t.sessions id)

    number_stays : behind.stream_id < 256
    number_stays = rw (sent_number (state k) next (length message) (room_of (stretch k))) (row_small _)

    sent_shown : k < streams_used t.sessions id → streams_of sent id ≡ set (streams_of t id) k (kept_of (bytes_in filled) behind)
    sent_shown h =
        ap (opened (streams_used t.sessions id) part') (streams_here t.streams id k (stream_row behind) (omega arith))
        ∙ streams.opened_set t id id< its part' k h same (stream_row behind)
        ∙ ap (set (streams_of t id) k) (row_shown behind (buffer_at part' k) number_stays ∙ ap (λ (l : List ℕ). kept_of (bytes_in l) behind) here)
      where
        here : buffer_at part' k ≡ filled
        here = ap (λ (l : List ℕ). buffer_at l k) (part_is sent.held) ∙ buffer_here own k low high t.held own_few own_room filled filled_long

        same : (j : ℕ) → j < streams_used t.sessions id → j ≢ k → buffer_at part' j ≡ buffer_at (streams.part t id id< its) j
        same j l n =
            let u : streams_used t.sessions id ≤ 8 = (d.each id id<).few_streams in
            ap (λ (l : List ℕ). buffer_at l j) (part_is sent.held)
            ∙ buffer_elsewhere own k low high t.held own_few own_room filled filled_long j (omega arith) n
            ∙ sym (ap (λ (l : List ℕ). buffer_at l j) (part_is t.held))

    sent_local : k < streams_used t.sessions id → local_of sent id ≡ streams.with_streams (set (streams_of t id) k (kept_of (bytes_in filled) behind)) (local_of t id)
    sent_local h = by (is_free t.sessions id)
      where
        by : (b : Bool) → cond b None (Some (session_shown id (table_part sent id)))
            ≡ streams.with_streams (set (streams_of t id) k (kept_of (bytes_in filled) behind)) (cond b None (Some (session_shown id (table_part t id))))
        by true = refl
        by false =
            ap (λ (ks : List KeptStream). Some (record { id = id; key = (session_at t.sessions id).client_key; last = (session_at t.sessions id).last_activity; objects = objects_of t id; streams = ks; store = store_shown (table_part t id) })) (sent_shown h)

    -- document 02, W5: "takes the next send sequence in its header and is held"
    sent_kept : Sound (state k) → (p : ℕ) → next_slot (state k) (length message) (room_of (stretch k)) ≡ Ok (Some p) → kept_of (bytes_in filled) behind ≡ sent_in message (kept_of (bytes_in (buffer k)) (state k))
    sent_kept sound p e =
        let y = kept_of (bytes_in (buffer k)) (state k) in
        let room : length (buffer k) ≡ room_of (stretch k) = buffer_full own k low high t.held own_few own_room ∙ sym (stretch_room own k low high t.held own_few own_room) in
        ap (λ (r : ℕ). kept_of (bytes_in filled) (alloc_of (record_of (state k) next (length message) r).state).state) (sym room)
        ∙ alloc_kept (bytes_in filled) (record_of (state k) next (length message) (length (buffer k))).state
        ∙ ap (λ (z : KeptStream). alloc_in z)
        (record_kept (state k) sound next message (buffer k) ∙ ap (λ (a : Result (Option ℕ) Refusal). record_in a next message y) (ap (slot_for (state k) next (length message)) room ∙ e))

  -- ---- the stream of a number

  record FoundAt (n : ℕ) (x : KeptStream) : Type 0 where
    pub index : ℕ
    pub found : stream_place t.sessions t.streams id n ≡ Ok (Have index)
    pub seen : streams.Seen t id id< its n (Ok (Have index))
    pub kept : x ≡ kept_of (bytes_in (buffer_at (streams.part t id id< its) index)) (state index)

  found_at : (n : ℕ) (x : KeptStream) → stream_in (streams_of t id) n ≡ Some x → FoundAt n x
  found_at n x e = by (stream_place t.sessions t.streams id n) refl (streams.seen t id id< its n)
    where
      by : (p : Result StreamPlace Refusal) → stream_place t.sessions t.streams id n ≡ p → streams.Seen t id id< its n p → FoundAt n x
      by (Ok (Have k)) q s = record {
        index = k;
        found = q;
        seen = s;
        kept = some_same x (get_or (streams_of t id) k (streams.blank t id id< its)) (sym e ∙ s.1) ∙ streams.open_at t id id< its k s.0;
      }
      by (Ok (Add k)) q s = absurd (none_some x (sym s.2 ∙ e))
      by (Ok Full) q s = absurd (none_some x (sym s.1 ∙ e))
      by (Ok NotLive) q s = absurd s
      by (Err r) q s = absurd s

  -- what holds of both places that a stream has where it is not open
  unopened : (Q : Result StreamPlace Refusal → Type 0) → ((k : ℕ) → Q (Ok (Add k))) → Q (Ok Full) → (n : ℕ) → stream_in (streams_of t id) n ≡ None → Q (stream_place t.sessions t.streams id n)
  unopened Q add full n e = by (stream_place t.sessions t.streams id n) (streams.seen t id id< its n)
    where
      by : (p : Result StreamPlace Refusal) → streams.Seen t id id< its n p → Q p
      by (Ok (Have k)) s = absurd (none_some _ (sym e ∙ s.1))
      by (Ok (Add k)) s = add k
      by (Ok Full) s = full
      by (Ok NotLive) s = absurd s
      by (Err r) s = absurd s

  -- ---- a stream that is read

  module _ (n : ℕ) (x : KeptStream) (e : stream_in (streams_of t id) n ≡ Some x) where
    f : FoundAt n x
    f = found_at n x e

    abbrev s : StreamState
    s = state f.index

    -- the place for a message under its next number
    abbrev next_place : ℕ
    next_place = place_for s s.next_send_seq

    known : SoundStream s
    known = subst (λ (p : Result StreamPlace Refusal). SoundStream (read_as p t.streams id).state) f.found (steps.read_lasts SoundStream stream_lasts most t d id id< n)

    pub next_view : (read_as (stream_place t.sessions t.streams id n) t.streams id).state.next_send_seq ≡ x.next
    next_view = ap (λ (p : Result StreamPlace Refusal). (read_as p t.streams id).state.next_send_seq) f.found ∙ sym (ap (λ (y : KeptStream). y.next) f.kept)

    full_is : is_full s ≡ leb 16 (many_held x.held)
    full_is = full_held s known.sound known.bits (bytes_in (buffer_at (streams.part t id id< its) f.index)) ∙ sym (ap (λ (y : KeptStream). leb 16 (many_held y.held)) f.kept)

    -- document 02, W5: "With 16 held"
    pub full_view : is_full (read_as (stream_place t.sessions t.streams id n) t.streams id).state ≡ leb 16 (many_held x.held)
    full_view = ap (λ (p : Result StreamPlace Refusal). is_full (read_as p t.streams id).state) f.found ∙ full_is

    held_is : present (x.held x.next) ≡ is_held s s.next_send_seq
    held_is =
        ap (λ (y : KeptStream). present (y.held y.next)) f.kept
        ∙ read_present s s.next_send_seq (bytes_in (buffer_at (streams.part t id id< its) f.index))

    place_is : no_place x ≡ cond (is_held s s.next_send_seq) false (is_full s)
    place_is = ap (λ (b : Bool). cond b false (leb 16 (many_held x.held))) held_is ∙ ap (λ (b : Bool). cond (is_held s s.next_send_seq) false b) (sym full_is)

    number_is : x.number ≡ n
    number_is = ap (λ (y : KeptStream). y.number) f.kept ∙ streams.at_number t id id< its n f.index f.seen

    -- a stream other than 0 has a buffer
    module _ (other : n ≢ 0) where
      low : 1 ≤ f.index
      low = by (eqb f.index 0) refl
        where
          by : (b : Bool) → eqb f.index 0 ≡ b → 1 ≤ f.index
          by true q =
              absurd (other
              (sym (streams.place_number t id id< its n f.index f.seen)
              ∙ ap (λ (m : ℕ). (stream_of (get_or (stream_rows t.streams id) m [])).stream_id) (eqb-true f.index 0 q)
              ∙ ((d.each id id<).stream_zero live).1))
          by false q = let z : f.index ≢ 0 = eqb-false f.index 0 q in omega (arith, z)

      high : f.index ≤ 7
      high = let l : f.index < streams_used t.sessions id = f.seen.0 in let h : streams_used t.sessions id ≤ 8 = (d.each id id<).few_streams in omega arith

      long : length (buffer f.index) ≡ stream_bytes
      long = buffer_full own f.index low high t.held own_few own_room

      kept_in : x ≡ kept_of (bytes_in (buffer f.index)) s
      kept_in =
          f.kept
          ∙ ap (λ (l : List ℕ). kept_of (bytes_in (buffer_at l f.index)) s) (part_is t.held)
          ∙ ap (λ (l : List ℕ). kept_of (bytes_in l) s) (sym (buffer_there own f.index low high t.held own_few own_room))

      -- ---- what `send_data` answers

      answer_is : (len : ℕ) → len ≤ 1024 → next_slot s len (room_of (stretch f.index)) ≡ cond (no_place x) (Err StoreFull) (Ok (Some next_place))
      answer_is len short =
          slot_told s known.sound (λ q. other (sym (streams.at_number t id id< its n f.index f.seen) ∙ q)) s.next_send_seq len (room_of (stretch f.index)) short
          (rw (stretch_room own f.index low high t.held own_few own_room) (omega arith))
          ∙ ap (λ (b : Bool). cond b (Err StoreFull) (Ok (Some next_place))) (sym place_is)

      slot_is : (len : ℕ) → len ≤ 1024 → data_slot t.sessions t.streams (length t.held) id n len ≡ cond (no_place x) (Err StoreFull) (Ok (Some next_place))
      unfolding data_slot
      slot_is len short = ap (λ (p : Result StreamPlace Refusal). data_slot_at p t.sessions t.streams (length t.held) id len) f.found ∙ answer_is len short

  pub slot_placed : (n len : ℕ) (x : KeptStream) → n ≢ 0 → stream_in (streams_of t id) n ≡ Some x → len ≤ 1024 → no_place x ≡ false → (place : ℕ) × (data_slot t.sessions t.streams (length t.held) id n len ≡ Ok (Some place))
  slot_placed n len x other e short free = (next_place n x e, slot_is n x e other len short ∙ ap (λ (b : Bool). cond b (Err StoreFull) (Ok (Some (next_place n x e)))) free)

  -- 14, "17th held number"
  pub slot_full : (n len : ℕ) (x : KeptStream) → n ≢ 0 → stream_in (streams_of t id) n ≡ Some x → len ≤ 1024 → no_place x ≡ true → data_slot t.sessions t.streams (length t.held) id n len ≡ Err StoreFull
  slot_full n len x other e short full = slot_is n x e other len short ∙ ap (λ (b : Bool). cond b (Err StoreFull) (Ok (Some (next_place n x e)))) full

  -- ---- what is asked for again

  -- document 02, W5: "An ACKNACK is answered by the listed messages, byte for byte, in bit order"
  pub repeats_view : (n first bitmap : ℕ) (x : KeptStream) → n ≢ 0 → stream_in (streams_of t id) n ≡ Some x
      → map (message_of t.sessions t.streams t.held id n) (repeats (read_as (stream_place t.sessions t.streams id n) t.streams id).state first bitmap) ≡ repeated_in x.held first bitmap
  unfolding message_of
  repeats_view n first bitmap x other e =
      ap (λ (p : Result StreamPlace Refusal). map (λ seq. message_at p t.sessions t.streams t.held id seq) (repeats (read_as p t.streams id).state first bitmap)) (f n x e).found
      ∙ repeated_held (s n x e) (known n x e).sound (buffer (f n x e).index) (rw (long n x e other) (omega arith)) first bitmap
      ∙ sym (ap (λ (y : KeptStream). repeated_in y.held first bitmap) (kept_in n x e other))

  -- ---- what sending shows

  -- the stream takes its next number and holds the message under it
  pub send_here : (n : ℕ) (message : List ℕ) (x : KeptStream) → n ≢ 0 → stream_in (streams_of t id) n ≡ Some x → length message ≤ 1024 → no_place x ≡ false
      → local_of (send_tables t id n message) id ≡ streams.with_streams (write_in (streams_of t id) (sent_in message x)) (local_of t id)
  send_here n message x other e short free =
      let k = (f n x e).index in
      let l = low n x e other in
      let h = high n x e other in
      let a = answer_is n x e other (length message) short ∙ ap (λ (b : Bool). cond b (Err StoreFull) (Ok (Some (next_place n x e)))) free in
      ap (λ (u : Tables). local_of u id) (sent_is message k l h n (next_place n x e) (f n x e).found a)
      ∙ sent_local message k l h (f n x e).seen.0
      ∙ ap (λ (y : KeptStream). streams.with_streams (set (streams_of t id) k y) (local_of t id))
      (sent_kept message k l h (known n x e).sound (next_place n x e) a ∙ ap (λ (y : KeptStream). sent_in message y) (sym (kept_in n x e other)))
      ∙ ap (λ (ks : List KeptStream). streams.with_streams ks (local_of t id)) (sym ((f n x e).seen.2 (sent_in message x) (number_is n x e)))

  pub send_full : (n : ℕ) (message : List ℕ) (x : KeptStream) → n ≢ 0 → stream_in (streams_of t id) n ≡ Some x → length message ≤ 1024 → no_place x ≡ true → send_tables t id n message ≡ t
  send_full n message x other e short full = send_still t id n message (ap (λ (a : Result (Option ℕ) Refusal). placed a) (slot_full n (length message) x other e short full))

  -- ---- a stream that is not open

  pub next_none : (n : ℕ) → stream_in (streams_of t id) n ≡ None → (read_as (stream_place t.sessions t.streams id n) t.streams id).state.next_send_seq ≡ 0
  next_none n e = unopened (λ p. (read_as p t.streams id).state.next_send_seq ≡ 0) (λ k. refl) refl n e

  pub slot_none : (n len : ℕ) → stream_in (streams_of t id) n ≡ None → data_slot t.sessions t.streams (length t.held) id n len ≡ (Ok None)
  unfolding data_slot
  slot_none n len e = unopened (λ p. data_slot_at p t.sessions t.streams (length t.held) id len ≡ (Ok None)) (λ k. refl) refl n e

  pub send_unopened : (n : ℕ) (message : List ℕ) → stream_in (streams_of t id) n ≡ None → send_tables t id n message ≡ t
  send_unopened n message e = send_still t id n message (ap (λ (a : Result (Option ℕ) Refusal). placed a) (slot_none n (length message) e))

  -- ---- other sessions

  -- either nothing changes, or the message is recorded by a stream that has a buffer
  sent_or_not : (n : ℕ) (message : List ℕ) (Q : Tables → Type 0) → Q t → ((k : ℕ) (low : 1 ≤ k) (high : k ≤ 7) → Q (sent message k low high)) → Q (send_tables t id n message)
  unfolding data_slot
  sent_or_not n message Q same else = by (stream_place t.sessions t.streams id n) refl (streams.seen t id id< its n)
    where
      still : (p : Result StreamPlace Refusal) → stream_place t.sessions t.streams id n ≡ p → placed (data_slot_at p t.sessions t.streams (length t.held) id (length message)) ≡ false → Q (send_tables t id n message)
      still p e q = subst Q (sym (send_still t id n message (ap (λ (r : Result StreamPlace Refusal). placed (data_slot_at r t.sessions t.streams (length t.held) id (length message))) e ∙ q))) same

      at : (k : ℕ) → stream_place t.sessions t.streams id n ≡ Ok (Have k) → k < streams_used t.sessions id → (a : Result (Option ℕ) Refusal) → next_slot (state k) (length message) (room_of (stretch k)) ≡ a → Q (send_tables t id n message)
      at k e h (Ok (Some p)) q =
          let room = (slot_at (state k) (state k).next_send_seq (length message) (room_of (stretch k)) p q).room_for in
          let low : 1 ≤ k = ((stretch_lies own k (length t.held)).2 (omega arith)).0 in
          let u : streams_used t.sessions id ≤ 8 = (d.each id id<).few_streams in
          let high : k ≤ 7 = omega arith in
          subst Q (sym (sent_is message k low high n p e q)) (else k low high)
      at k e h (Ok None) q = still (Ok (Have k)) e (ap (λ (a : Result (Option ℕ) Refusal). placed a) q)
      at k e h (Err r) q = still (Ok (Have k)) e (ap (λ (a : Result (Option ℕ) Refusal). placed a) q)

      by : (p : Result StreamPlace Refusal) → stream_place t.sessions t.streams id n ≡ p → streams.Seen t id id< its n p → Q (send_tables t id n message)
      by (Ok (Have k)) e s = at k e s.0 (next_slot (state k) (length message) (room_of (stretch k))) refl
      by (Ok (Add k)) e s = still (Ok (Add k)) e refl
      by (Ok Full) e s = still (Ok Full) e refl
      by (Ok NotLive) e s = absurd s
      by (Err r) e s = absurd s

  pub send_elsewhere : (n : ℕ) (message : List ℕ) (j : ℕ) → j ≢ id → j < 256 → local_of (send_tables t id n message) j ≡ local_of t j
  send_elsewhere n message j h j< = sent_or_not n message (λ u. local_of u j ≡ local_of t j) refl (λ k low high. ap (local_shown j) (sent_elsewhere message k low high j j< h))
