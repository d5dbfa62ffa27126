-- A fragment leads from sound tables to sound ones: its session's store stays as codec has a sound one, and no other session's changes.
use Prim.Native.Nat.{ℕ, ◌<◌, ◌≤◌}
use mathlib.Core.Path.{◌≡◌, refl, sym, ap, ◌∙◌, subst}
use mathlib.Core.Logic.{◌≢◌}
use mathlib.Core.Bool.{Bool, true, false}
use mathlib.Core.List.{List}
use native.Mathlib.Omega.{arith}
use borrow.Author.Tests.{eqb-true, eqb-false}
use lib.Dec.{eqb}
use lib.ListN.{length, take}
use Rattle.codec.specs.Inserts.{slots_of, held_in}
use Rattle.codec.specs.Inserts as codec
use Rattle.streams.specs.declared.state.StreamState.{StreamState}
use Rattle.streams.proofs.places.Laws.{never}
use Rattle.sessions.specs.Table.{session_at, is_free}
use Rattle.sessions.specs.Held.{held_part}
use Rattle.sessions.specs.SessionObjects.{object_row}
use Rattle.sessions.specs.Fragments.{buffer_with, stored_session, takes, own_parts, own_lengths}
use Rattle.sessions.specs.View.{Tables, stream_rows, table_part}
use Rattle.sessions.specs.Calls.{gather_tables, Lasting, SoundPart, SoundTables, LeadsTo}
use Rattle.sessions.specs.declared.fragments.Gathered.{Gathered}
use Rattle.sessions.specs.declared.fragments.Gathered.TheVariants.{Nothing, Held, Whole}
use Rattle.sessions.specs.declared.table.ClientSession.{ClientSession}
use Rattle.sessions.proofs.Steps as steps
use Rattle.sessions.proofs.ViewFragments.{taking, gather_lengths, gather_live, gather_slot, row_elsewhere, gather_nothing, gather_part, part_elsewhere, part_with, comes_to, own, its}
use Rattle.sessions.proofs.fragments.Store.{Allowed, allowed_is, SoundLeft, sound_left}

module _ (P : StreamState → Type 0) (lasting : Lasting P) (most : ℕ) (t : Tables) (d : SoundTables P most t) (id : ℕ) (id< : id < 256) (nr total : ℕ) (body : List ℕ) where
  abbrev after : Tables
  after = gather_tables t id nr total body

  -- a part that is not live has no fragments, whatever the stores hold where its slot is
  module _ (j : ℕ) (j< : j < 256) (gone : is_free t.sessions j ≡ true) (n : j ≢ id) where
    abbrev x : ClientSession
    x = session_at t.sessions j

    abbrev g : SoundPart P (table_part t j)
    g = d.each j j<

    no_total : x.total ≡ 0
    no_total = g.fragments_gone gone

    none_received : x.received ≡ 0
    unfolding slots_of held_in
    none_received = g.fragments.counted ∙ ap (λ (m : ℕ). held_in (slots_of 512 (own_parts t.sessions t.parts j) (take m (own_lengths t.sessions t.lengths j)))) no_total

    dead_part : (ps ls : List ℕ) → SoundPart P (record { session = x; objects = object_row t.objects j; streams = stream_rows t.streams j; held = held_part t.held x; parts = ps; lengths = ls })
    dead_part ps ls = record {
      few_objects = g.few_objects;
      few_streams = g.few_streams;
      objects_differ = g.objects_differ;
      streams_differ = g.streams_differ;
      written = g.written;
      few_fragments = g.few_fragments;
      fragments = subst codec.Sound (λ i. record { buffer = buffer_with (sym no_total i) (sym none_received i); slots = ps; lengths = ls }) (steps.no_fragments ps ls);
      fragments_gone = g.fragments_gone;
      stream_zero = g.stream_zero;
    }

    dead_after : SoundPart P (table_part after j)
    dead_after =
        let row = row_elsewhere t.sessions t.parts t.lengths t.rebuilt id nr total body j n in
        let ps = own_parts after.sessions after.parts j in
        let ls = own_lengths after.sessions after.lengths j in
        subst (SoundPart P) (λ i. record { session = sym row i; objects = object_row t.objects j; streams = stream_rows t.streams j; held = held_part t.held (sym row i); parts = ps; lengths = ls }) (dead_part ps ls)

  -- the session's own part
  module _ (so : takes t.sessions id nr total (length body) ≡ true) where
    live : is_free t.sessions id ≡ false
    live = (taking t.sessions id nr total (length body) so).live

    ok : Allowed nr total (length body)
    ok = allowed_is nr total (length body) (taking t.sessions id nr total (length body) so).ok

    abbrev Left : Gathered → Type 0
    Left = SoundLeft (session_at t.sessions id) (own t id nr total body) (its t id nr total body) (d.each id id<).fragments nr total body ok (d.each id id<).few_fragments t.rebuilt d.rebuilt_need_lem

    -- with any total and count of which codec's soundness holds
    stored_part : (many received : ℕ) → many ≤ 64
        → codec.Sound (record { buffer = buffer_with many received; slots = (part_with t id nr total body Nothing).parts; lengths = (part_with t id nr total body Nothing).lengths })
        → SoundPart P (record { session = stored_session (session_at t.sessions id) many received; objects = object_row t.objects id; streams = stream_rows t.streams id; held = held_part t.held (session_at t.sessions id); parts = (part_with t id nr total body Nothing).parts; lengths = (part_with t id nr total body Nothing).lengths })
    stored_part many received h sound =
        let g = d.each id id< in
        record {
          few_objects = g.few_objects;
          few_streams = g.few_streams;
          objects_differ = g.objects_differ;
          streams_differ = g.streams_differ;
          written = g.written;
          few_fragments = h;
          fragments = sound;
          fragments_gone = λ e. absurd (never e live);
          stream_zero = g.stream_zero;
        }

    own_part : (g : Gathered) → Left g → SoundPart P (part_with t id nr total body g)
    own_part Nothing l = stored_part (session_at t.sessions id).total (session_at t.sessions id).received l.0 l.1
    own_part (Held b) l = stored_part b.total_fragments b.received_count l.0 l.1
    own_part (Whole n) l = stored_part 0 0 l.0 l.1

    own_after : SoundPart P (table_part after id)
    own_after =
        let n = d.sessions_need_lem in
        subst (SoundPart P) (sym (gather_part t id nr total body so (omega (arith, n, id<))))
        (own_part (comes_to t id nr total body)
        (sound_left (session_at t.sessions id) (own t id nr total body) (its t id nr total body) (d.each id id<).fragments nr total body ok (d.each id id<).few_fragments t.rebuilt d.rebuilt_need_lem))

    each_after : (j : ℕ) → j < 256 → SoundPart P (table_part after j)
    each_after j j< = by (eqb j id) refl
      where
        other : j ≢ id → (x : Bool) → is_free t.sessions j ≡ x → SoundPart P (table_part after j)
        other n true e = dead_after j j< e n
        other n false e = subst (SoundPart P) (sym (part_elsewhere t id nr total body so j n (λ q. n (d.slots.differ j id j< id< e live (sym q))))) (d.each j j<)

        by : (x : Bool) → eqb j id ≡ x → SoundPart P (table_part after j)
        by true e = subst (λ (k : ℕ). SoundPart P (table_part after k)) (sym (eqb-true j id e)) own_after
        by false e = other (eqb-false j id e) (is_free t.sessions j) refl

    taken_led : LeadsTo P most t after
    taken_led =
        let l = gather_lengths t.sessions t.parts t.lengths t.rebuilt id nr total body in
        let still : (j : ℕ) → is_free after.sessions j ≡ is_free t.sessions j = λ j. ap (λ (m : ℕ). eqb m 0) (gather_live t.sessions t.parts t.lengths t.rebuilt id nr total body j) in
        record {
          sound = record {
            sessions_need_lem = rw l.0 d.sessions_need_lem;
            streams_need_lem = d.streams_need_lem;
            objects_need_lem = d.objects_need_lem;
            held_need_lem = d.held_need_lem;
            parts_need_lem = rw l.1 d.parts_need_lem;
            lengths_need_lem = rw l.2 d.lengths_need_lem;
            rebuilt_need_lem = rw l.3 d.rebuilt_need_lem;
            zero_free = still 0 ∙ d.zero_free;
            slots = steps.same_slots P lasting most t d after.sessions (λ j h e. (sym (still j) ∙ e, gather_slot t.sessions t.parts t.lengths t.rebuilt id nr total body j));
            each = each_after;
          };
          sessions_length = l.0;
          streams_length = refl;
          objects_length = refl;
          held_length = refl;
          parts_length = l.1;
          lengths_length = l.2;
          rebuilt_length = l.3;
        }

  pub gather_led : LeadsTo P most t after
  gather_led = by (takes t.sessions id nr total (length body)) refl
    where
      by : (x : Bool) → takes t.sessions id nr total (length body) ≡ x → LeadsTo P most t after
      by true e = taken_led e
      by false e = subst (LeadsTo P most t) (sym (gather_nothing t id nr total body e).0) (steps.same_led P lasting most t d)
