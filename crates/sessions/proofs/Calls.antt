-- Any list of calls keeps the tables sound and each store as long as it was, and on sound tables nothing is past its limit.
use Prim.Native.Nat.{ℕ, ◌<◌, ◌≤◌}
use mathlib.Core.Path.{◌≡◌, refl, ◌∙◌}
use mathlib.Core.List.{List, [], ◌∷◌}
use mathlib.Core.Bool.{Bool, true, false, cond}
use borrow.Author.Tests.{le-leb, lt-ltb}
use lib.Dec.{eqb, ltb}
use lib.ListN.{length}
use Rattle.streams.specs.Places.{in_limits}
use Rattle.streams.specs.View.{Sound}
use Rattle.streams.specs.declared.state.StreamState.{StreamState}
use Rattle.streams.proofs.Soundness.{new_sound}
use Rattle.sessions.specs.Table.{session_at, is_free}
use Rattle.sessions.specs.Need.{held_need, parts_need, lengths_need, rebuilt_need, stores_fit}
use Rattle.sessions.specs.SessionStreams.{stream_place, state_at}
use Rattle.sessions.specs.Setup.{set_up_of}
use Rattle.sessions.specs.Fragments.{parts_stretch, own_lengths}
use Rattle.sessions.specs.Limits.{store_kept, limits_of}
use Rattle.sessions.specs.View.{Tables}
use Rattle.sessions.specs.Calls.{set_up_tables, Call, set_up, create, touch, remove, sweep, put, delete, open_stream, write_stream, send, gather, after_call, after_calls, Given, AllGiven, Lasting, SoundTables, LeadsTo}
use Rattle.sessions.proofs.Empty.{long}
use Rattle.sessions.proofs.limits.Laws.{fragments_kept_lem}
use Rattle.sessions.proofs.StreamBack.{row_sound}
use Rattle.sessions.proofs.SoundStreams.{sent_sound}
use Rattle.sessions.proofs.Steps as steps
use Rattle.sessions.proofs.StepsSending.{send_led}
use Rattle.sessions.proofs.StepsFragments.{gather_led}
use Rattle.std.specs.Prelude.{Ok}

module _ (P : StreamState → Type 0) (lasting : Lasting P) (most : ℕ) where
  -- one call
  pub call_leads : (c : Call) → Given P most c → (t : Tables) → SoundTables P most t → LeadsTo P most t (after_call c t)
  unfolding after_call Given
  call_leads (set_up max) g t d = steps.set_up_led P lasting most max t d
  call_leads (create max next key time) g t d = steps.create_led P lasting most t d max next key time g.0 g.1
  call_leads (touch id time) g t d = steps.touch_led P lasting most t d id time g
  call_leads (remove id) g t d = steps.remove_led P lasting most t d id g
  call_leads (sweep time timeout out) g t d = steps.sweep_led P lasting most t d time timeout out
  call_leads (put id o) g t d = steps.put_led P lasting most t d id g o
  call_leads (delete id n) g t d = steps.drop_led P lasting most t d id g n
  call_leads (open_stream id n) g t d = steps.open_led P lasting most t d id g.0 n g.1
  call_leads (write_stream id s) g t d = steps.write_led P lasting most t d id g.0 s g.1 g.2
  call_leads (send id n message) g t d = send_led P lasting most t d id g.0 n message
  call_leads (gather id nr total body) g t d = gather_led P lasting most t d id g nr total body

  then_leads : (t u v : Tables) → LeadsTo P most t u → LeadsTo P most u v → LeadsTo P most t v
  then_leads t u v a b = record {
    sound = b.sound;
    sessions_length = b.sessions_length ∙ a.sessions_length;
    streams_length = b.streams_length ∙ a.streams_length;
    objects_length = b.objects_length ∙ a.objects_length;
    held_length = b.held_length ∙ a.held_length;
    parts_length = b.parts_length ∙ a.parts_length;
    lengths_length = b.lengths_length ∙ a.lengths_length;
    rebuilt_length = b.rebuilt_length ∙ a.rebuilt_length;
  }

  -- any calls one behind the other
  pub calls_lead : (cs : List Call) → AllGiven P most cs → (t : Tables) → SoundTables P most t → LeadsTo P most t (after_calls cs t)
  unfolding after_calls AllGiven
  calls_lead [] g t d = steps.same_led P lasting most t d
  calls_lead (c ∷ cs) g t d =
      let a = call_leads c g.0 t d in
      then_leads t (after_call c t) (after_calls cs (after_call c t)) a (calls_lead cs g.1 (after_call c t) a.sound)

  -- "An empty agent is one just set up": whatever stood in the stores that set-up accepts, any calls behind it find the tables sound
  pub from_set_up : (t : Tables) (max next : ℕ) → set_up_of (length t.sessions) (length t.streams) (length t.objects) (length t.held) (length t.parts) (length t.lengths) (length t.rebuilt) max ≡ Ok next → max ≡ most
      → (cs : List Call) → AllGiven P most cs → LeadsTo P most t (after_calls cs (set_up_tables (Ok next) t))
  from_set_up t max next e m cs g =
      let u = set_up_tables (Ok next) t in
      let l = long t.sessions t.streams t.objects (length t.held) (length t.parts) (length t.lengths) (length t.rebuilt) max next e in
      let a = steps.ready_led P lasting most t max next l (rw (← m) l.held_long) (rw (← m) l.parts_long) (rw (← m) l.lengths_long) in
      then_leads t u (after_calls cs u) a (calls_lead cs g u a.sound)

  -- "or refuses as 16 .. where a count, length or place in them exceeds its limit": on sound tables none does
  pub within_limits : ((s : StreamState) → P s → in_limits s ≡ true) → (t : Tables) → SoundTables P most t → most ≤ 255 → (id n : ℕ) → id < 256
      → limits_of t.sessions t.streams t.objects (length t.held) (length t.parts) t.lengths (length t.rebuilt) most id n ≡ (Ok tt)
  unfolding limits_of stores_fit
  within_limits short t d few id n h =
      rw (
        le-leb most 255 few,
        le-leb 256 (length t.sessions) d.sessions_need_lem,
        le-leb 2048 (length t.streams) d.streams_need_lem,
        le-leb 8192 (length t.objects) d.objects_need_lem,
        le-leb (held_need most) (length t.held) d.held_need_lem,
        le-leb (parts_need most) (length t.parts) d.parts_need_lem,
        le-leb (lengths_need most) (length t.lengths) d.lengths_need_lem,
        le-leb rebuilt_need (length t.rebuilt) d.rebuilt_need_lem,
        le-leb (session_at t.sessions id).objects 32 (d.each id h).few_objects,
        le-leb (session_at t.sessions id).streams 8 (d.each id h).few_streams,
        slot_kept_lem (is_free t.sessions id) refl,
        store_kept_lem,
        lengths_kept_lem (eqb n 0),
      )
      refl
    where
      slot_kept_lem : (b : Bool) → is_free t.sessions id ≡ b → cond b true (ltb (session_at t.sessions id).slot most) ≡ true
      slot_kept_lem true e = refl
      slot_kept_lem false e = lt-ltb (session_at t.sessions id).slot most (d.slots.under id h e)

      store_kept_lem : store_kept t.sessions (length t.parts) t.lengths id ≡ true
      store_kept_lem =
          let s = session_at t.sessions id in
          fragments_kept_lem s t.parts (parts_stretch s (length t.parts)) (own_lengths t.sessions t.lengths id) (d.each id h).few_fragments (d.each id h).fragments

      lengths_kept_lem : (b : Bool) → cond b true (in_limits (state_at (stream_place t.sessions t.streams id n) t.streams id)) ≡ true
      lengths_kept_lem true = refl
      lengths_kept_lem false = short (state_at (stream_place t.sessions t.streams id n) t.streams id) (steps.read_lasts P lasting most t d id h n)

-- ---- what lasts: streams' own soundness, and, of states of which nothing is known, nothing

pub sound_lasts : Lasting Sound
sound_lasts = record { opens = new_sound; reads = row_sound; sends = sent_sound }

abbrev pub Any : StreamState → Type 0
Any s = Unit {0}

pub any_lasts : Lasting Any
any_lasts = record { opens = λ n. tt; reads = λ s w. tt; sends = λ s len room w. tt }
