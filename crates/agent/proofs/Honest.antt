-- The rules are honest about handles: a call has handles of the session's own objects only, and a handle is listed only where a CREATE got it.
use Rattle.std.specs.Prelude.{Option, None, Some}
use mathlib.Core.Bool.{Bool}
use mathlib.Core.Path.{◌≡◌, refl, ap, ◌∙◌}
use Prim.Native.Nat.{ℕ}
use mathlib.Core.Logic.{◌⊎◌, inl, inr}
use mathlib.Core.List.Memᴰ
use mathlib.Core.List.{List, [], ◌∷◌, ◌++◌, Memᴰ}
use lib.Dec.{eqb}
use Rattle.codec.specs.declared.submessages.ObjectKind.{ObjectKind}
use Rattle.codec.specs.declared.submessages.ObjectKind.TheVariants.{Participant, Topic, Publisher, Subscriber, DataWriter, DataReader}
use Rattle.codec.specs.declared.submessages.Submessage.{Submessage}
use Rattle.codec.specs.declared.submessages.Submessage.TheVariants.{CreateClient, Create, Delete, Status, WriteData, ReadData, Data, Heartbeat, Acknack, Fragment}
use Rattle.isolation.specs.Rules.{Bytes, done, calls}
use Rattle.isolation.proofs.Provenance.{Within, Fair, Honest}
use Rattle.sessions.specs.View.{Entry, KeptStream, Local, find_in, stream_in}
use Rattle.sessions.specs.Dependants.{dependant_in, has_dependant}
use Rattle.agent.specs.Local.{touched, full, entry_handle, handle_at}
use Rattle.agent.specs.Parents.{handles_named}
use Rattle.moves.specs.Calls.{Call, create_writer, create_reader, read_data, Answer, created, succeeded, sample, no_sample, failed, Task, creating, deleting, writing, reading}
use Rattle.agent.specs.RulesObjects.{Move, if_handle, if_handles, create_with, create_for, delete_found, Names, names_of, create_named}
use Rattle.agent.specs.RulesAnswers.{sample_on, answer_of, on_answer}
use Rattle.agent.specs.Brings.{In}
use Rattle.agent.specs.RulesFragments.{Pending, Working, on_submessage, plain, behind, onto, began_onto, brought, gathering, handle_by, began_by, resumed, began_behind}
use Rattle.agent.specs.Rules.{rules, handles_in, handles_held, granted_by, handles_of}
use Rattle.agent.proofs.Held.{put_held, drop_held, Holds, find_held}
use Rattle.agent.proofs.Parents.{follows}
use Rattle.agent.proofs.MoveCases.{either, read_cases}

module _ (is_open : ℕ → ℕ → Bool) (timeout : ℕ) where
  abbrev Inside : Local → List (ℕ × ℕ) → Type 0
  Inside l g = Within (rules is_open timeout) (handles_of is_open timeout) l g

  abbrev Uses : Local → Call → Type 0
  Uses b c = (x : ℕ) → Memᴰ x (handles_in c) → Holds b.objects x

  -- a rule at work, where g is all that may be held, on one submessage as it stands, or with the rebuilt ones behind it
  abbrev FairOne : Local → List (ℕ × ℕ) → Move → Type 0
  FairOne b g (done l rs) = Inside l g
  FairOne b g (calls l rs c p) = Inside l g × Inside b g × Uses b c

  abbrev FairAll : Local → List (ℕ × ℕ) → Working → Type 0
  FairAll b g m = Fair (rules is_open timeout) (handles_of is_open timeout) b g m

  -- on tables that hold what b holds
  abbrev Good : Local → Move → Type 0
  Good b m = FairOne b (handles_held b.objects) m

  no_handle : (b : Local) (x : ℕ) → Memᴰ x [] → Holds b.objects x
  no_handle b x m = absurd (Memᴰ.not-nil m)

  one_handle : (b : Local) (h : ℕ) → Holds b.objects h → (x : ℕ) → Memᴰ x (h ∷ []) → Holds b.objects x
  one_handle b h p x m = rw (Memᴰ.eq_of_singleton m) p

  two_handles : (b : Local) (h k : ℕ) → Holds b.objects h → Holds b.objects k → (x : ℕ) → Memᴰ x (h ∷ k ∷ []) → Holds b.objects x
  two_handles b h k p q x m = go (Memᴰ.cases_cons m)
    where
      go : (x ≡ h) ⊎ Memᴰ x (k ∷ []) → Holds b.objects x
      go (inl e) = rw e p
      go (inr m) = one_handle b k q x m

  module _ (b : Local) (time : ℕ) where
    abbrev l : Local
    l = touched time b

    handle_fair : (x : Option ℕ) (f : ℕ → Move) (other : Move) → ((h : ℕ) → x ≡ Some h → Good b (f h)) → Good b other → Good b (if_handle x f other)
    handle_fair None f other p q = q
    handle_fair (Some h) f other p q = p h refl

    kept : (y : ℕ × ℕ) → Memᴰ y (handles_held b.objects) → Memᴰ y (handles_held b.objects)
    kept y m = m

    handles_fair : (x : Option (ℕ × ℕ)) (f : ℕ → ℕ → Move) (other : Move) → ((h k : ℕ) → x ≡ Some (h, k) → Good b (f h k)) → Good b other → Good b (if_handles x f other)
    handles_fair None f other p q = q
    handles_fair (Some hs) f other p q = p hs.0 hs.1 refl

    -- a call with the handles of the Participant and the Topic that a parent number names
    with_fair : (kind : ObjectKind) (stream number parent : ℕ) (call : ℕ → ℕ → Call) → ((h k : ℕ) → handles_in (call h k) ≡ h ∷ k ∷ []) → Good b (create_with kind stream number parent call l)
    with_fair kind stream number parent call u =
        handles_fair (handles_named b.objects parent) _ _
        (λ h k e.
        let f = follows b.objects parent h k e in
        let above = find_held b.objects f.topic.parent h (ap entry_handle f.participant_named ∙ f.participant_handle) in
        let named = find_held b.objects parent k (ap entry_handle f.topic_named ∙ f.topic_handle) in (kept, kept, λ x m. two_handles b h k above named x (rw (← u h k) m)))
        kept

    -- a Topic's call has its parent's handle
    named_fair : (x : Option Names) (stream number parent : ℕ) → Good b (create_named x stream number parent l)
    named_fair None stream number parent = kept
    named_fair (Some x) stream number parent = handle_fair (handle_at parent l) _ _ (λ h e. (kept, kept, one_handle b h (find_held b.objects parent h e))) kept

    create_fair : (kind : ObjectKind) (stream number parent : ℕ) (body : List ℕ) → Good b (create_for kind stream number parent body l)
    create_fair Participant stream number parent body = (kept, kept, no_handle b)
    create_fair Topic stream number parent body = named_fair (names_of body) stream number parent
    create_fair Publisher stream number parent body = λ y m. put_held b.objects (record { number = number; kind = 3; handle = None; parent = parent }) y m
    create_fair Subscriber stream number parent body = λ y m. put_held b.objects (record { number = number; kind = 4; handle = None; parent = parent }) y m
    create_fair DataWriter stream number parent body = with_fair DataWriter stream number parent create_writer (λ h k. refl)
    create_fair DataReader stream number parent body = with_fair DataReader stream number parent create_reader (λ h k. refl)

    delete_fair : (stream number : ℕ) (x : Option Entry) → find_in b.objects number ≡ x → Good b (delete_found stream number x l)
    delete_fair stream number None e = kept
    delete_fair stream number (Some o) e =
        either (Good b) (dependant_in b.objects o) _ _ kept
        (handle_fair o.handle _ _
        (λ h q. ((λ y m. drop_held b.objects number y m), kept, one_handle b h (find_held b.objects number h (rw e q)))) (λ y m. drop_held b.objects number y m))

    submessage_fair : (may : Bool) (m : Submessage) (body : List ℕ) (stream : ℕ) → Good b (on_submessage may m body stream l)
    submessage_fair may (CreateClient p) body stream = kept
    submessage_fair may (Create p) body stream =
        let n = p.object_id.0 in
        either (Good b) (full n l) _ _ kept (either (Good b) (has_dependant b.objects (find_in b.objects n)) _ _ kept (create_fair p.kind stream n p.parent_id body))
    submessage_fair may (Delete p) body stream = delete_fair stream p.object_id.0 (find_in b.objects p.object_id.0) refl
    submessage_fair may (Status p) body stream = kept
    submessage_fair may (WriteData p) body stream = let n = p.writer_id.0 in handle_fair (handle_at n l) _ _ (λ h e. either (Good b) may _ _ (kept, kept, one_handle b h (find_held b.objects n h e)) kept) kept
    submessage_fair may (ReadData p) body stream =
        let n = p.reader_id.0 in
        let own : (h : ℕ) → handle_at n l ≡ Some h → Uses b (read_data h) = λ h e. one_handle b h (find_held b.objects n h e) in
        read_cases (Good b) stream n l kept (λ h e z. (kept, kept, own h e)) kept kept (λ h e k f. (kept, kept, own h e))
    submessage_fair may (Data p) body stream = kept
    submessage_fair may (Heartbeat p) body stream = kept
    submessage_fair may (Acknack p) body stream = kept
    submessage_fair may (Fragment p) body stream = kept

  -- a DATA reply that is held changes the streams alone
  sample_fair : (l : Local) (stream number : ℕ) (d : List ℕ) (x : Option KeptStream) → Good l (sample_on stream number d x l)
  sample_fair l stream number d None = λ y m. m
  sample_fair l stream number d (Some k) = λ y m. m

  answer_fair : (l : Local) (stream number : ℕ) (t : Task) (a : Answer)
      → FairOne l (granted_by t number a ++ handles_held l.objects) (answer_of t stream number a l)
  answer_fair l stream number (creating kind parent) (created h) = λ y m. put_held l.objects (record { number = number; kind = kind; handle = Some h; parent = parent }) y m
  answer_fair l stream number (creating kind parent) succeeded = λ y m. m
  answer_fair l stream number (creating kind parent) (sample d) = λ y m. m
  answer_fair l stream number (creating kind parent) no_sample = λ y m. m
  answer_fair l stream number (creating kind parent) failed = λ y m. m
  answer_fair l stream number deleting (created h) = λ y m. m
  answer_fair l stream number deleting succeeded = λ y m. m
  answer_fair l stream number deleting (sample d) = λ y m. m
  answer_fair l stream number deleting no_sample = λ y m. m
  answer_fair l stream number deleting failed = λ y m. m
  answer_fair l stream number writing (created h) = λ y m. m
  answer_fair l stream number writing succeeded = λ y m. m
  answer_fair l stream number writing (sample d) = λ y m. m
  answer_fair l stream number writing no_sample = λ y m. m
  answer_fair l stream number writing failed = λ y m. m
  answer_fair l stream number reading (created h) = λ y m. m
  answer_fair l stream number reading succeeded = λ y m. m
  answer_fair l stream number reading (sample d) = either (Good l) (eqb stream 0) _ _ (λ y m. m) (sample_fair l stream number d (stream_in l.streams stream))
  answer_fair l stream number reading no_sample = λ y m. m
  answer_fair l stream number reading failed = λ y m. m

  -- ---- rebuilt submessages behind it

  plain_fair : (l : Local) (i : In) → Good l (plain l i)
  plain_fair l i = submessage_fair l i.moment.time i.moment.is_open i.fields i.body i.stream

  -- what may be held may be more
  widened : (l : Local) (g : List (ℕ × ℕ)) → Inside l g → (m : Move) → Good l m → FairOne l g m
  widened l g w (done l' rs) f = λ y m. w y (f y m)
  widened l g w (calls l' rs c p) f = ((λ y m. w y (f.0 y m)), w, f.2)

  behind_fair : (b : Local) (g : List (ℕ × ℕ)) (rs : List Bytes) (m : Working) → FairAll b g m → FairAll b g (behind rs m)
  behind_fair b g rs (done l more) f = f
  behind_fair b g rs (calls l more c p) f = f

  onto_fair : (is : List In) (b : Local) (g : List (ℕ × ℕ)) (m : Move) → FairOne b g m → FairAll (began_onto is b m) g (onto is m)
  unfolding onto began_onto
  onto_fair [] b g (done l rs) f = f
  onto_fair [] b g (calls l rs c p) f = f
  onto_fair (i ∷ is) b g (calls l rs c p) f = f
  onto_fair (i ∷ is) b g (done l rs) f = behind_fair (began_onto is l (plain l i)) g rs (onto is (plain l i)) (onto_fair is l g (plain l i) (widened l g f (plain l i) (plain_fair l i)))

  alone_fair : (b : Local) (g : List (ℕ × ℕ)) (m : Move) → FairOne b g m → FairAll b g (onto [] m)
  unfolding onto
  alone_fair b g (done l rs) f = f
  alone_fair b g (calls l rs c p) f = f

  -- a FRAGMENT keeps the objects
  handle_all : (l : Local) (i : In) (m : Submessage) → FairAll (began_by m i l) (handles_held l.objects) (handle_by m i l)
  handle_all l i (Fragment p) = onto_fair (brought p i l) l (handles_held l.objects) (done (gathering p i l) []) (λ y m. m)
  handle_all l i (CreateClient p) = alone_fair l (handles_held l.objects) (plain l i) (plain_fair l i)
  handle_all l i (Create p) = alone_fair l (handles_held l.objects) (plain l i) (plain_fair l i)
  handle_all l i (Delete p) = alone_fair l (handles_held l.objects) (plain l i) (plain_fair l i)
  handle_all l i (Status p) = alone_fair l (handles_held l.objects) (plain l i) (plain_fair l i)
  handle_all l i (WriteData p) = alone_fair l (handles_held l.objects) (plain l i) (plain_fair l i)
  handle_all l i (ReadData p) = alone_fair l (handles_held l.objects) (plain l i) (plain_fair l i)
  handle_all l i (Data p) = alone_fair l (handles_held l.objects) (plain l i) (plain_fair l i)
  handle_all l i (Heartbeat p) = alone_fair l (handles_held l.objects) (plain l i) (plain_fair l i)
  handle_all l i (Acknack p) = alone_fair l (handles_held l.objects) (plain l i) (plain_fair l i)

  resumed_fair : (l : Local) (p : Pending) (a : Answer) → FairAll (began_behind l p a) (granted_by p.asked.task p.asked.number a ++ handles_held l.objects) (resumed l p a)
  resumed_fair l p a =
      onto_fair p.left l (granted_by p.asked.task p.asked.number a ++ handles_held l.objects) (on_answer l p.asked a)
      (answer_fair l p.asked.stream p.asked.number p.asked.task a)

  pub honest : Honest (rules is_open timeout) (handles_of is_open timeout)
  honest = record {
    starts = λ i o y m. m;
    on_submessages = λ l i. handle_all l i i.fields;
    on_answers = resumed_fair;
  }
