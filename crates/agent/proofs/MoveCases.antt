-- What a submessage and an answer come to: what holds of each outcome of the rule holds of it.
use Rattle.std.specs.Prelude.{Option, None, Some}
use Prim.Native.Nat.{ℕ}
use mathlib.Core.Path.{◌≡◌, refl}
use mathlib.Core.Bool.{Bool, true, false, cond}
use mathlib.Core.Logic.{◌⊎◌, inl, inr}
use mathlib.Core.List.{List, [], ◌∷◌}
use lib.Dec.{eqb, leb}
use Rattle.codec.specs.Submessages.{kind_byte}
use Rattle.codec.specs.declared.submessages.ObjectKind.{ObjectKind}
use Rattle.codec.specs.declared.submessages.ObjectKind.TheVariants.{Participant, Topic, Publisher, Subscriber, DataWriter, DataReader}
use Rattle.codec.specs.declared.submessages.StatusCode.{StatusCode}
use Rattle.codec.specs.declared.submessages.StatusCode.TheVariants.{Ok, ErrUnknownRef, ErrInvalidData, ErrIncompatible, ErrResources}
use Rattle.codec.specs.declared.submessages.AcknackPayload.{AcknackPayload}
use Rattle.codec.specs.declared.submessages.Submessage.{Submessage}
use Rattle.codec.specs.declared.submessages.Submessage.TheVariants as sub
use Rattle.streams.specs.View.{many_held}
use Rattle.codec.specs.declared.submessages.FragmentPayload.{FragmentPayload}
use Rattle.isolation.specs.Rules.{Bytes, done, calls}
use Rattle.sessions.specs.View.{Entry, KeptStream, Local, find_in, drop_in, stream_in}
use Rattle.sessions.specs.Dependants.{dependant_in, has_dependant}
use Rattle.moves.specs.Calls as moves
use Rattle.moves.specs.Calls.{Call, create_participant, read_data, Answer, created, succeeded, sample, no_sample, failed, Task, creating, writing, reading, deleting}
use Rattle.agent.specs.Local.{with_objects, with_streams, listing, dropping, full, handle_at, opening}
use Rattle.agent.specs.Parents.{handles_named}
use Rattle.agent.specs.RulesObjects.{Move, says, asks, if_handle, if_handles, create_for, create_unless, delete_found, read_on, read_from, on_read, Names, names_of, create_named}
use Rattle.agent.specs.RulesStreams.{on_heartbeat, on_acknack}
use Rattle.agent.specs.RulesAnswers.{sample_on, answer_of}
use Rattle.agent.specs.Brings.{In}
use Rattle.agent.specs.RulesFragments as fragments
use Rattle.agent.specs.RulesFragments.{Working, on_submessage, plain, behind, onto, brought, gathering, handle_by}

-- what a rule has seen to before it hands out a call: a CREATE's object finds a place; the stream of a read is 0 or open
abbrev pub Ready : Task → ℕ → ℕ → Local → Type 0
Ready (creating kind parent) stream number l = full number l ≡ false
Ready reading stream number l = (eqb stream 0 ≡ true) ⊎ ((k : KeptStream) × (stream_in l.streams stream ≡ Some k))
Ready writing stream number l = Unit {0}
Ready deleting stream number l = Unit {0}

module _ (P : Move → Type 0) where
  pub either : (b : Bool) (x y : Move) → P x → P y → P (cond b x y)
  either true x y p q = p
  either false x y p q = q

  module _ (stream number : ℕ) (l : Local) where
    abbrev o : Local
    o = opening stream l

    pub read_cases : P (says stream number ErrUnknownRef l)
        → ((h : ℕ) → handle_at number l ≡ Some h → eqb stream 0 ≡ true → P (asks stream number reading (read_data h) l))
        → P (done o [])
        → P (says stream number ErrResources o)
        → ((h : ℕ) → handle_at number l ≡ Some h → (k : KeptStream) → stream_in o.streams stream ≡ Some k → P (asks stream number reading (read_data h) o))
        → P (on_read stream number l)
    read_cases unknown best-effort ninth crowded asked = named (handle_at number l) refl
      where
        on : (h : ℕ) → handle_at number l ≡ Some h → (x : Option KeptStream) → stream_in o.streams stream ≡ x → P (read_on stream number h x o)
        on h e None f = ninth
        on h e (Some k) f = either (leb 16 (many_held k.held)) _ _ crowded (asked h e k f)

        from : (h : ℕ) → handle_at number l ≡ Some h → (b : Bool) → eqb stream 0 ≡ b
            → P (cond b (asks stream number reading (read_data h) l) (read_on stream number h (stream_in o.streams stream) o))
        from h e true z = best-effort h e z
        from h e false z = on h e (stream_in o.streams stream) refl

        named : (x : Option ℕ) → handle_at number l ≡ x → P (if_handle x (λ h. read_from stream number h l) (says stream number ErrUnknownRef l))
        named None e = unknown
        named (Some h) e = from h e (eqb stream 0) refl

-- Q is what holds of the tables that a rule leaves: as they were, with other objects, or with the stream opened
module _ (P : Move → Type 0) (Q : Local → Type 0) (is_open : Bool) (m : Submessage) (stream : ℕ) (l : Local)
    (same : Q l) (listed : (es : List Entry) → Q (with_objects l es)) (opened : Q (opening stream l))
    (silent : (l' : Local) → Q l' → P (done l' []))
    (saying : (l' : Local) (number : ℕ) (code : StatusCode) → Q l' → P (says stream number code l'))
    (asking : (l' : Local) (number : ℕ) (task : Task) (call : Call) → Q l' → Ready task stream number l' → P (asks stream number task call l'))
    (hearing : (first last : ℕ) → P (on_heartbeat stream first last l))
    (repeating : (p : AcknackPayload) → m ≡ sub.Acknack p → P (on_acknack stream p.first_unacked_seq p.nack_bitmap l)) where
  handle : (x : Option ℕ) (f : ℕ → Move) (other : Move) → ((h : ℕ) → P (f h)) → P other → P (if_handle x f other)
  handle None f other p q = q
  handle (Some h) f other p q = p h

  handles : (x : Option (ℕ × ℕ)) (f : ℕ → ℕ → Move) (other : Move) → ((h k : ℕ) → P (f h k)) → P other → P (if_handles x f other)
  handles None f other p q = q
  handles (Some hs) f other p q = p hs.0 hs.1

  named : (x : Option Names) (number parent : ℕ) → full number l ≡ false → P (create_named x stream number parent l)
  named None number parent e = saying l number ErrInvalidData same
  named (Some x) number parent e = handle (handle_at parent l) _ _ (λ h. asking l number (creating (kind_byte Topic) parent) _ same e) (saying l number ErrInvalidData same)

  create : (kind : ObjectKind) (number parent : ℕ) (body : List ℕ) → full number l ≡ false → P (create_for kind stream number parent body l)
  create Participant number parent body e = asking l number (creating (kind_byte Participant) parent) (create_participant parent) same e
  create Topic number parent body e = named (names_of body) number parent e
  create Publisher number parent body e = saying (listing number (kind_byte Publisher) None parent l) number Ok (listed _)
  create Subscriber number parent body e = saying (listing number (kind_byte Subscriber) None parent l) number Ok (listed _)
  create DataWriter number parent body e =
      handles (handles_named l.objects parent) _ _ (λ h k. asking l number (creating (kind_byte DataWriter) parent) _ same e) (saying l number ErrInvalidData same)
  create DataReader number parent body e =
      handles (handles_named l.objects parent) _ _ (λ h k. asking l number (creating (kind_byte DataReader) parent) _ same e) (saying l number ErrInvalidData same)

  limit : (kind : ObjectKind) (number parent : ℕ) (body : List ℕ) (b c : Bool) → full number l ≡ b
      → P (cond b (says stream number ErrResources l) (create_unless c kind stream number parent body l))
  limit kind number parent body true c e = saying l number ErrResources same
  limit kind number parent body false c e = either P c _ _ (saying l number ErrIncompatible same) (create kind number parent body e)

  delete : (number : ℕ) (x : Option Entry) → P (delete_found stream number x l)
  delete number None = saying l number ErrUnknownRef same
  delete number (Some e) =
      let q : Q (dropping number l) = listed (drop_in l.objects number) in
      either P (dependant_in l.objects e) _ _ (saying l number ErrIncompatible same)
      (handle e.handle _ _ (λ h. asking (dropping number l) number deleting _ q tt) (saying (dropping number l) number Ok q))

  pub submessage_cases : (body : List ℕ) → P (on_submessage is_open m body stream l)
  submessage_cases body = by m refl
    where
      by : (x : Submessage) → m ≡ x → P (on_submessage is_open x body stream l)
      by (sub.CreateClient p) e = silent l same
      by (sub.Create p) e =
          let n = p.object_id.0 in limit p.kind n p.parent_id body (full n l) (has_dependant l.objects (find_in l.objects n)) refl
      by (sub.Delete p) e = delete p.object_id.0 (find_in l.objects p.object_id.0)
      by (sub.Status p) e = silent l same
      by (sub.WriteData p) e =
          let n = p.writer_id.0 in handle (handle_at n l) _ _ (λ h. either P is_open _ _ (asking l n writing _ same tt) (saying l n ErrIncompatible same)) (saying l n ErrUnknownRef same)
      by (sub.ReadData p) e =
          let n = p.reader_id.0 in
          read_cases P stream n l (saying l n ErrUnknownRef same) (λ h f z. asking l n reading (read_data h) same (inl z))
          (silent (opening stream l) opened) (saying (opening stream l) n ErrResources opened)
          (λ h f k o. asking (opening stream l) n reading (read_data h) opened (inr (k, o)))
      by (sub.Data p) e = silent l same
      by (sub.Heartbeat p) e = hearing p.first_unacked_seq p.last_seq
      by (sub.Acknack p) e = repeating p e
      by (sub.Fragment p) e = silent l same

-- an answer ends its submessage: it replies, and the tables are as they were, with other objects or with other streams
module _ (P : Move → Type 0) (stream number : ℕ) (l : Local)
    (same : (rs : List Bytes) → P (done l rs))
    (listed : (es : List Entry) (rs : List Bytes) → P (done (with_objects l es) rs))
    (streamed : (ks : List KeptStream) (rs : List Bytes) → P (done (with_streams l ks) rs)) where
  sampled : (d : List ℕ) (x : Option KeptStream) → P (sample_on stream number d x l)
  sampled d None = same _
  sampled d (Some k) = streamed _ _

  pub answer_cases : (t : Task) (a : Answer) → P (answer_of t stream number a l)
  answer_cases (creating kind parent) (created h) = listed _ _
  answer_cases (creating kind parent) succeeded = same _
  answer_cases (creating kind parent) (sample d) = same _
  answer_cases (creating kind parent) no_sample = same _
  answer_cases (creating kind parent) failed = same _
  answer_cases writing (created h) = same _
  answer_cases writing succeeded = same _
  answer_cases writing (sample d) = same _
  answer_cases writing no_sample = same _
  answer_cases writing failed = same _
  answer_cases reading (created h) = same _
  answer_cases reading succeeded = same _
  answer_cases reading (sample d) = either P (eqb stream 0) _ _ (same _) (sampled d (stream_in l.streams stream))
  answer_cases reading no_sample = same _
  answer_cases reading failed = same _
  answer_cases deleting (created h) = same _
  answer_cases deleting succeeded = same _
  answer_cases deleting (sample d) = same _
  answer_cases deleting no_sample = same _
  answer_cases deleting failed = same _

-- ---- rebuilt submessages behind a move

-- Q of the tables that a rule leaves, and C of what is kept of an open call
module _ (Q : Local → Type 0) (C : moves.Pending → Local → Type 0) where
  abbrev pub Leaves : Move → Type 0
  Leaves (done l rs) = Q l
  Leaves (calls l rs c p) = Q l × C p l

  abbrev pub LeavesAll : Working → Type 0
  LeavesAll (done l rs) = Q l
  LeavesAll (calls l rs c p) = Q l × C p.asked l

  behind_leaves : (rs : List Bytes) (m : Working) → LeavesAll m → LeavesAll (behind rs m)
  behind_leaves rs (done l more) e = e
  behind_leaves rs (calls l more c p) e = e

  module _ (one : (l : Local) (i : In) → Q l → Leaves (plain l i)) where
    pub onto_leaves : (is : List In) (m : Move) → Leaves m → LeavesAll (onto is m)
    unfolding onto
    onto_leaves [] (done l rs) e = e
    onto_leaves [] (calls l rs c p) e = e
    onto_leaves (i ∷ is) (calls l rs c p) e = e
    onto_leaves (i ∷ is) (done l rs) e = behind_leaves rs (onto is (plain l i)) (onto_leaves is (plain l i) (one l i e))

    pub handle_leaves : ((p : FragmentPayload) (i : In) (l : Local) → Q l → Q (gathering p i l)) → (l : Local) (i : In) → Q l → LeavesAll (fragments.handle l i)
    handle_leaves kept l i e = by i.fields
      where
        alone : LeavesAll (onto [] (plain l i))
        alone = onto_leaves [] (plain l i) (one l i e)

        by : (m : Submessage) → LeavesAll (handle_by m i l)
        by (sub.Fragment p) = onto_leaves (brought p i l) (done (gathering p i l) []) (kept p i l e)
        by (sub.CreateClient p) = alone
        by (sub.Create p) = alone
        by (sub.Delete p) = alone
        by (sub.Status p) = alone
        by (sub.WriteData p) = alone
        by (sub.ReadData p) = alone
        by (sub.Data p) = alone
        by (sub.Heartbeat p) = alone
        by (sub.Acknack p) = alone
