-- The square of any submessage of a live session in its datagram: one as it stands, or a FRAGMENT with the rebuilt submessages that it brings (W6).
use Prim.Native.Nat.{ℕ, zero, suc, ◌+◌, ◌<◌, ◌≤◌}
use mathlib.Core.Path.{◌≡◌, refl, sym, ap, ◌∙◌, subst}
use mathlib.Core.Logic.{◌≢◌}
use mathlib.Core.Bool.{Bool, true, false, cond}
use mathlib.Core.List.{List, [], ◌∷◌, ◌++◌, map, map-map}
use native.Mathlib.Omega.{arith}
use borrow.Author.Tests.{le-leb}
use lib.ListN.{length, take, drop}
use Rattle.codec.specs.Reading.{part_of, Item, items, items_at}
use Rattle.codec.specs.Grammar.{Said, said_in}
use Rattle.codec.specs.Rebuilt.{any_barred, rebuilt_of}
use Rattle.codec.specs.declared.layouts.Span.{Span}
use Rattle.codec.specs.declared.refusals.Refusal.{Refusal}
use Rattle.codec.specs.declared.refusals.Refusal.TheVariants.{BufferTooShort}
use Rattle.codec.specs.declared.submessages.FragmentPayload.{FragmentPayload}
use Rattle.codec.specs.declared.submessages.Submessage.{Submessage}
use Rattle.codec.specs.declared.submessages.Submessage.TheVariants as sub
use Rattle.codec.proofs.rebuilt.Laws.{whole_reads, rebuilt_reads, reading_passed, reading_refused}
use Rattle.isolation.specs.Rules.{Bytes, done, calls}
use Rattle.sessions.specs.Table.{is_free, named_of, touched_rows}
use Rattle.sessions.specs.FragmentStore.{FragmentStore, gathered_store, gathered_bytes}
use Rattle.sessions.specs.Fragments.{gathered}
use Rattle.sessions.specs.View.{Tables, Local, local_of}
use Rattle.sessions.specs.Calls.{SoundStream, SoundTables, LeadsTo, gather_tables}
use Rattle.sessions.specs.declared.fragments.Gathered.{Gathered}
use Rattle.sessions.specs.declared.fragments.Gathered.TheVariants as gathered
use Rattle.sessions.proofs.SoundStreams.{stream_lasts}
use Rattle.sessions.proofs.StepsFragments.{gather_led}
use Rattle.sessions.proofs.ViewFragments as fragments
use Rattle.sessions.proofs.ViewFragments.{store_of, whole_in, gather_still, gather_here, gather_elsewhere, gather_missing, gather_whole}
use Rattle.sessions.proofs.ViewTable.{touch_elsewhere}
use Rattle.moves.specs.Proxy.{call_as}
use Rattle.moves.specs.Replies.{status_bytes, acknack_bytes}
use Rattle.moves.specs.Rows.{Rows, asks_of, handled_move, handled_rows}
use Rattle.moves.specs.declared.moves.Move as code
use Rattle.moves.specs.declared.moves.Move.TheVariants.{Greets, Status, Acknack, Repeats, Calls, Silent}
use Rattle.agent.specs.Brings.{In, in_of}
use Rattle.agent.specs.Lent.{rows_of, with_rows, rebuilt_part}
use Rattle.agent.specs.Local.{touched}
use Rattle.agent.specs.Place.{ins_from, ins_at}
use Rattle.agent.specs.RulesFragments.{Working, plain, onto, brought_by, brought, gathering}
use Rattle.agent.specs.Run.{Turned, Acted, acted, passed, repeats_in, touched_in, touched_tables, work_at, entered_ran, inside_stop, left_ran, whole_len, left_by, with_acted, whole_turned, fragment_turned}
use Rattle.agent.specs.Step.{Reply, replied}
use Rattle.agent.specs.declared.turn.Frame.{Frame}
use Rattle.agent.specs.declared.turn.Ran.{Ran}
use Rattle.agent.specs.declared.turn.Stop.{Stop}
use Rattle.agent.specs.declared.turn.Stop.TheVariants as stop
use Rattle.agent.specs.declared.turn.Taken.{Taken}
use Rattle.agent.proofs.Written.{none_part, no_bytes}
use Rattle.agent.proofs.Square.{outcome, Meets, led_on, same_local}
use Rattle.agent.proofs.SquareHandled.{touches_led, touch_shown, touch_live, turn_led, turn_square}
use Rattle.agent.proofs.SquareRebuilt.{asked_as, map_behind, Worked, Works, untouched, work_square}
use Rattle.std.specs.Prelude.{Err, Ok, Result, Option, None, Some}

-- ---- rebuilt bytes in their place

-- where there are bytes, their number isn't 0
some_end : (s : List ℕ) (e : ℕ) → 0 < length (rebuilt_part s e) → 0 < e
some_end s zero h = let z = ap length (none_part s) in omega (arith, z, h)
some_end s (suc e) h = omega arith

part_is : (s bytes : List ℕ) → length bytes ≤ length s → take (length bytes) s ≡ bytes → rebuilt_part s (length bytes) ≡ bytes
unfolding part_of
part_is s bytes h e = ap (λ (b : Bool). cond b (take (length bytes) (drop 0 s)) []) (le-leb (0 + length bytes) (length s) (omega (arith, h))) ∙ e

-- ---- what a session's submessage comes to, by what its turn stops at

-- what is left of rebuilt bytes, at most 32,768: they read from a place to the end, and none of the submessages is barred
pub record Left (rebuilt : List ℕ) (at end : ℕ) : Type 0 where
  pub few : end ≤ 32768
  pub within : at ≤ length (rebuilt_part rebuilt end)
  pub said : List Item
  pub reads : items_at (rebuilt_part rebuilt end) at ≡ items said
  pub none_barred : any_barred said ≡ false

-- the submessages that wait behind a call from among rebuilt ones
abbrev pub Kept : List ℕ → ℕ → ℕ → Type 0
Kept rebuilt at end = (0 < end) × Left rebuilt at end

-- a call shows parts of its datagram, or of the rebuilt bytes
abbrev pub Moved : Frame → List ℕ → List ℕ → Stop → Local → List Bytes → Working → Type 0
Moved f d rebuilt stop.Nothing l bs w = w ≡ done l bs
Moved f d rebuilt (stop.Call number task call) l bs w = w ≡ calls l bs (call_as d call) (record { asked = asked_as f number task; left = [] })
Moved f d rebuilt (stop.Inside number task call at end) l bs w =
    Kept rebuilt at end
    × (w ≡ calls l bs (call_as (rebuilt_part rebuilt end) call) (record { asked = asked_as f number task; left = ins_at f.moment f.stream_id (rebuilt_part rebuilt end) at }))

-- a rule's outcome for the frame's session over t, against what is left: the pointer stays, and the place is the one behind its submessage
pub record Acts (f : Frame) (d : List ℕ) (t : Tables) (next at : ℕ) (rule : Working) (x : Turned) : Type 0 where
  pub after : Local
  pub bytes : List Bytes
  pub replies : x.replies ≡ map (replied f.session_id) bytes
  pub shows : local_of x.tables f.session_id ≡ Some after
  pub moves : Moved f d x.tables.rebuilt x.ran.stop after bytes rule
  pub elsewhere : (j : ℕ) → j < 256 → j ≢ f.session_id → local_of x.tables j ≡ local_of t j
  pub led : LeadsTo SoundStream f.max_clients t x.tables
  pub pointer : x.ran.next ≡ next
  pub place : x.ran.at ≡ at

-- "No such session: no reply."
pub record Quiet (t : Tables) (next at : ℕ) (x : Turned) : Type 0 where
  pub tables : x.tables ≡ t
  pub replies : x.replies ≡ []
  pub stop : x.ran.stop ≡ stop.Nothing
  pub pointer : x.ran.next ≡ next
  pub place : x.ran.at ≡ at

-- ---- behind rebuilt submessages, on in the datagram

module _ (f : Frame) (d : List ℕ) (t : Tables) (r : Ran) (from : Rows) (l : Local) (y : Acted) (end at : ℕ) (few : end ≤ 32768) (w : Works f (rebuilt_part t.rebuilt end) t r from l y) where
  abbrev bytes_in : List ℕ
  bytes_in = rebuilt_part t.rebuilt end

  left_moves : (x : Stop) (bs : List Bytes) (rule : Working) → Worked f bytes_in x y.ran.at w.after bs rule → Moved f d t.rebuilt (inside_stop x y.ran.at end) w.after bs rule
  left_moves stop.Nothing bs rule m = m
  left_moves (stop.Call number task call) bs rule m = ((some_end t.rebuilt end m.0, record { few = few; within = w.within; said = w.reads.0; reads = w.reads.1; none_barred = w.reads.2 }), m.1)
  left_moves (stop.Inside number task call a e) bs rule m = absurd m

  pub left_acts : (bs : List Bytes)
      → Acts f d (with_rows t from) r.next at (onto (ins_at f.moment f.stream_id (rebuilt_part t.rebuilt end) r.at) (done l bs))
      (record { ran = left_ran y.ran end at; tables = with_rows t y.rows; replies = map (replied f.session_id) bs ++ y.replies })
  left_acts bs = record {
    after = w.after;
    bytes = bs ++ w.bytes;
    replies = ap (λ (rs : List Reply). map (replied f.session_id) bs ++ rs) w.replies ∙ map_behind f.session_id bs w.bytes;
    shows = w.shows;
    moves = left_moves y.ran.stop (bs ++ w.bytes) (onto (ins_at f.moment f.stream_id bytes_in r.at) (done l bs)) (w.moves bs);
    elsewhere = λ j k. w.elsewhere j;
    led = w.led;
    pointer = w.next;
    place = refl;
  }

module _ (f : Frame) (d : List ℕ) (max≤ : f.max_clients ≤ 255) (id< : f.session_id < 256) (n< : f.stream_id < 256)
    (t : Tables) (sound : SoundTables SoundStream f.max_clients t) (r : Ran) (at : ℕ) where
  abbrev max : ℕ
  max = f.max_clients

  abbrev id : ℕ
  id = f.session_id

  abbrev n : ℕ
  n = f.stream_id

  -- ---- a submessage as it stands

  module _ (l : Local) (is : local_of t id ≡ Some l) (m : Submessage) (body : Span) where
    abbrev i : In
    i = in_of f.moment n m (part_of d body)

    abbrev u : Rows
    u = touched_in f (rows_of t)

    abbrev to : Rows
    to = handled_rows (asks_of m) u id n

    pub plain_acts : Acts f d t r.next at (onto [] (plain l i)) (with_acted t (acted f r at (handled_move f.moment.is_open (asks_of m) u d id n body) to t.held))
    unfolding onto
    plain_acts = by (handled_move f.moment.is_open (asks_of m) u d id n body) q.moves
      where
        q : Meets t d id n (plain l i) (with_rows t to) (handled_move f.moment.is_open (asks_of m) u d id n body)
        q = turn_square t sound max≤ id id< f.moment l is n n< m d body

        speaks : (wrote : ℕ) (bytes : List Bytes) → plain l i ≡ done q.after bytes
            → Acts f d t r.next at (onto [] (plain l i)) (record { ran = record { next = r.next; at = at; wrote = wrote; stop = stop.Nothing }; tables = with_rows t to; replies = map (replied id) bytes })
        speaks wrote bytes e = record {
          after = q.after;
          bytes = bytes;
          replies = refl;
          shows = q.shows;
          moves = ap (onto []) e;
          elsewhere = λ j k. q.elsewhere j;
          led = turn_led t sound max≤ id id< f.moment l is n n< m;
          pointer = refl;
          place = refl;
        }

        by : (w : code.Move) → plain l i ≡ outcome d (with_rows t to) id n q.after w → Acts f d t r.next at (onto [] (plain l i)) (with_acted t (acted f r at w to t.held))
        by (Greets other code) e = speaks _ [] e
        by (Status number code) e = speaks _ (status_bytes id n number.0 code ∷ []) e
        by (Acknack p) e = speaks _ (acknack_bytes id n p.first_unacked_seq p.nack_bitmap ∷ []) e
        by (Repeats p) e = speaks _ (repeats_in to.sessions to.streams t.held id n p) e
        by (Calls number task call) e = record {
          after = q.after;
          bytes = [];
          replies = refl;
          shows = q.shows;
          moves = ap (onto []) e;
          elsewhere = λ j k. q.elsewhere j;
          led = turn_led t sound max≤ id id< f.moment l is n n< m;
          pointer = refl;
          place = refl;
        }
        by Silent e = speaks _ [] e

  -- ---- a FRAGMENT

  whole_missing : (a : Gathered) → whole_in a ≡ None → whole_len a ≡ 0
  whole_missing gathered.Nothing e = refl
  whole_missing (gathered.Held b) e = refl
  whole_missing (gathered.Whole k) e = let z : ◌≡◌ {A = ℕ} 0 1 = cc in absurd (omega arith)

  module _ (idle : r.stop ≡ stop.Nothing) (p : FragmentPayload) (body : Span) where
    abbrev bytes : List ℕ
    bytes = part_of d body

    abbrev nr : ℕ
    nr = p.fragment_nr

    abbrev total : ℕ
    total = p.total_fragments

    abbrev taken : Taken
    taken = record { asked = asks_of (sub.Fragment p); body = body; at = at }

    module _ (l : Local) (is : local_of t id ≡ Some l) where
      abbrev fragment : In
      fragment = in_of f.moment n (sub.Fragment p) bytes

      abbrev touched_ones : Tables
      touched_ones = touched_tables f t

      abbrev g : Tables
      g = gather_tables touched_ones id nr total bytes

      abbrev after : Local
      after = gathering p fragment l

      led_touched : LeadsTo SoundStream max t touched_ones
      led_touched = touches_led t sound max≤ id id< f.moment

      led_gathered : LeadsTo SoundStream max t g
      led_gathered = led_on led_touched (gather_led SoundStream stream_lasts max touched_ones led_touched.sound id id< nr total bytes)

      shown : local_of touched_ones id ≡ Some (touched f.moment.time l)
      shown = touch_shown t sound max≤ id id< f.moment l is

      live : is_free touched_ones.sessions id ≡ false
      live = touch_live t sound max≤ id id< f.moment l is

      store_is : store_of touched_ones id ≡ l.store
      store_is = ap (λ (x : Local). x.store) (same_local touched_ones id (touched f.moment.time l) shown)

      gathered_shown : local_of g id ≡ Some after
      gathered_shown =
          gather_here SoundStream max touched_ones led_touched.sound max≤ id id< live nr total bytes
          ∙ (λ i. fragments.with_store (gathered_store (store_is i) nr total bytes) (shown i))

      others : (j : ℕ) → j < 256 → j ≢ id → local_of g j ≡ local_of t j
      others j k h = gather_elsewhere SoundStream max touched_ones led_touched.sound max≤ id id< nr total bytes j h k ∙ touch_elsewhere t id sound.sessions_need_lem id< f.moment.time j h

      abbrev in_bytes : ℕ → List ℕ
      in_bytes k = rebuilt_part g.rebuilt k

      -- no rebuilt submessage takes effect
      nothing_acts : Acts f d t r.next at (done after []) (record { ran = passed r at; tables = g; replies = [] })
      nothing_acts = record {
        after = after;
        bytes = [];
        replies = refl;
        shows = gathered_shown;
        moves = subst (λ (x : Stop). Moved f d g.rebuilt x after [] (done after [])) (sym idle) refl;
        elsewhere = others;
        led = led_gathered;
        pointer = refl;
        place = refl;
      }

      abbrev turned_by : ℕ → Result ℕ Refusal → Turned
      turned_by k x = with_acted g (left_by x f g.held (in_bytes k) k r at (rows_of g))

      refused_acts : (k : ℕ) (x : Refusal) → rebuilt_of (in_bytes k) ≡ Err x → Acts f d t r.next at (done after []) (whole_turned f g k r at)
      refused_acts k x e = subst (λ (y : Result ℕ Refusal). Acts f d t r.next at (done after []) (turned_by k y)) (sym e) nothing_acts

      -- they are worked off, under the header of that datagram
      passed_acts : (k m : ℕ) → k ≤ 32768 → rebuilt_of (in_bytes k) ≡ Ok m
          → Acts f d t r.next at (onto (brought_by fragment (Some (in_bytes k))) (done after [])) (whole_turned f g k r at)
      passed_acts k m few e =
          let s = in_bytes k in
          let q = rebuilt_reads s 0 m (whole_reads s m e) in
          let xs = q.0 in
          let brings : brought_by fragment (Some s) ≡ ins_at f.moment n s 0 =
          ap (λ (ys : List Said). map (λ (x : Said). in_of f.moment n x.fields x.body) ys) (reading_passed s m xs e q.1)
          ∙ map-map (λ (x : Said). in_of f.moment n x.fields x.body) (said_in s) xs
          ∙ ap (ins_from f.moment n s) (sym q.1) in
          let w = work_square f s g max≤ id< n< (entered_ran r) (rows_of g) after xs led_gathered.sound gathered_shown refl (omega arith) q.1 q.2 in
          let a = left_acts f d g (entered_ran r) (rows_of g) after (work_at f g.held s (entered_ran r) (rows_of g)) k at few w [] in
          subst (λ (y : Result ℕ Refusal). Acts f d t r.next at (onto (brought_by fragment (Some s)) (done after [])) (turned_by k y)) (sym e)
          (subst (λ (js : List In). Acts f d t r.next at (onto js (done after [])) (turned_by k (Ok m))) (sym brings)
          record {
            after = a.after;
            bytes = a.bytes;
            replies = a.replies;
            shows = a.shows;
            moves = a.moves;
            elsewhere = λ j k h. a.elsewhere j k h ∙ others j k h;
            led = led_on led_gathered a.led;
            pointer = a.pointer;
            place = a.place;
          })

      whole_acts : (k : ℕ) → k ≤ 32768 → (x : Result ℕ Refusal) → rebuilt_of (in_bytes k) ≡ x → Acts f d t r.next at (onto (brought_by fragment (Some (in_bytes k))) (done after [])) (whole_turned f g k r at)
      unfolding onto
      whole_acts k few (Ok m) e = passed_acts k m few e
      whole_acts k few (Err x) e =
          subst (λ (w : Working). Acts f d t r.next at w (whole_turned f g k r at)) (sym (none_brought x e)) (refused_acts k x e)
        where
          none_brought : (x : Refusal) → rebuilt_of (in_bytes k) ≡ Err x → onto (brought_by fragment (Some (in_bytes k))) (done after []) ≡ done after []
          none_brought x e = ap (λ (ys : List Said). onto (map (λ (x : Said). in_of f.moment n x.fields x.body) ys) (done after [])) (reading_refused (in_bytes k) x e)

      abbrev answer : Gathered
      answer = gathered touched_ones.sessions touched_ones.parts touched_ones.lengths touched_ones.rebuilt id nr total bytes

      answered_acts : (o : Option (List ℕ)) → gathered_bytes (store_of touched_ones id) nr total bytes ≡ o → Acts f d t r.next at (onto (brought_by fragment o) (done after [])) (whole_turned f g (whole_len answer) r at)
      unfolding onto
      answered_acts None e =
          let k = whole_missing answer (gather_missing SoundStream max touched_ones led_touched.sound max≤ id id< live nr total bytes e) in
          subst (λ (k : ℕ). Acts f d t r.next at (done after []) (whole_turned f g k r at)) (sym k) (refused_acts 0 BufferTooShort (no_bytes g.rebuilt))
      answered_acts (Some whole) e =
          let w = gather_whole SoundStream max touched_ones led_touched.sound max≤ id id< live nr total bytes whole e in
          let long = led_gathered.sound.rebuilt_need_lem in
          let few = w.2 in
          let s = part_is g.rebuilt whole (omega (arith, long, few)) w.1 in
          subst (λ (k : ℕ). Acts f d t r.next at (onto (brought_by fragment (Some whole)) (done after [])) (whole_turned f g k r at)) (sym (ap whole_len w.0))
          (subst (λ (s : List ℕ). Acts f d t r.next at (onto (brought_by fragment (Some s)) (done after [])) (whole_turned f g (length whole) r at)) s
          (whole_acts (length whole) few (rebuilt_of (in_bytes (length whole))) refl))

      pub fragment_acts : Acts f d t r.next at (onto (brought p fragment l) (done (gathering p fragment l) [])) (fragment_turned f t d r taken)
      unfolding fragment_turned
      fragment_acts =
          subst (λ (o : Option (List ℕ)). Acts f d t r.next at (onto (brought_by fragment o) (done after [])) (whole_turned f g (whole_len answer) r at))
          (ap (λ (st : FragmentStore). gathered_bytes st nr total bytes) store_is)
          (answered_acts (gathered_bytes (store_of touched_ones id) nr total bytes) refl)

    -- a FRAGMENT of a session that is not live
    pub fragment_quiet : is_free t.sessions id ≡ true → named_of t.sessions id ≡ (Ok false) → Quiet t r.next at (fragment_turned f t d r taken)
    unfolding fragment_turned touched_rows
    fragment_quiet free gone =
        subst (λ (v : Tables). Quiet t r.next at (whole_turned f (gather_tables v id nr total bytes) (whole_len (gathered v.sessions v.parts v.lengths v.rebuilt id nr total bytes)) r at)) (sym same)
        (subst (λ (v : Tables). Quiet t r.next at (whole_turned f v (whole_len (gathered t.sessions t.parts t.lengths t.rebuilt id nr total bytes)) r at)) (sym still.0)
        (subst (λ (a : Gathered). Quiet t r.next at (whole_turned f t (whole_len a) r at)) (sym still.1)
        (subst (λ (y : Result ℕ Refusal). Quiet t r.next at (with_acted t (left_by y f t.held (rebuilt_part t.rebuilt 0) 0 r at (rows_of t)))) (sym (no_bytes t.rebuilt))
        record { tables = refl; replies = refl; stop = idle; pointer = refl; place = refl })))
      where
        still : (gather_tables t id nr total bytes ≡ t) × (gathered t.sessions t.parts t.lengths t.rebuilt id nr total bytes ≡ gathered.Nothing)
        still = gather_still t id nr total bytes free

        same : touched_tables f t ≡ t
        same = ap (with_rows t) (untouched f [] t (rows_of t) gone)
