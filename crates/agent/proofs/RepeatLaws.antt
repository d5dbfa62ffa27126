-- W5 over the life of a session: whatever it is fed, each DATA reply and each answer to an ACKNACK is right, and so it is of any agent with term 3.
use Rattle.std.specs.Prelude.{Option, None, Some}
use Prim.Native.Nat.{ℕ}
use mathlib.Core.Path.{◌≡◌, refl, sym, ap, ◌∙◌, subst}
use mathlib.Core.Logic.{◌≢◌, inl, inr}
use mathlib.Core.Bool.{Bool, true, false, cond}
use mathlib.Core.List.{List, [], ◌∷◌, ◌++◌, append-nil, append_assoc, Memᴰ}
use native.Mathlib.Omega.{arith}
use borrow.Author.Tests.{eqb-true, eqb-false, ne_eqb}
use lib.Dec.{eqb}
use lib.ListN.{length}
use Rattle.codec.specs.declared.submessages.Submessage.{Submessage}
use Rattle.codec.specs.declared.submessages.Submessage.TheVariants.{CreateClient, Create, Delete, Status, WriteData, ReadData, Data, Heartbeat, Acknack, Fragment}
use Rattle.streams.specs.View.{fresh_of, acknack_in, sent_in, repeated_in}
use Rattle.streams.specs.Repeats.{Event, sent, acknacked, on_event, on_events, stream_after, data_of, number_of}
use Rattle.streams.proofs.LastSent.{repeats_as_sent}
use Rattle.isolation.specs.Rules as iso
use Rattle.isolation.specs.Rules.{Bytes, done, calls}
use Rattle.isolation.specs.Machine.{Machine, ended, idle, waiting, Feed, submessages, answered, swept_at, removal_of_it, Action, handles, resumes, on, work, take, takes, Trace, Handles}
use Rattle.isolation.specs.Claim as claim
use Rattle.isolation.proofs.Simulation.{none_some}
use Rattle.sessions.specs.View.{KeptStream, Local, stream_in, open_in, write_in, expired}
use Rattle.moves.specs.Calls.{Answer, created, succeeded, sample, no_sample, failed, Task, creating, deleting, writing, reading}
use Rattle.moves.specs.Replies.{data_bytes}
use Rattle.agent.specs.Local.{touched, opening, acknowledging}
use Rattle.agent.specs.RulesObjects.{Move}
use Rattle.agent.specs.RulesStreams.{repeats_from}
use Rattle.agent.specs.RulesAnswers.{sample_on, answer_of, on_answer}
use Rattle.agent.specs.Brings.{Opening, In, in_of}
use Rattle.agent.specs.RulesFragments as fragments
use Rattle.agent.specs.RulesFragments.{Working, on_submessage, plain, onto, brought, gathering, handle_by, handle, resumed}
use Rattle.agent.specs.Rules.{start, rules}
use Rattle.agent.specs.Repeats.{Work, does, hears, move_of, works_onto, rebuilt_by, works_of, works_in, replies_of, acknack_of, sample_of, Came, nothing_yet, adding, asks_again, sends, Repeated, Sent, Tabled, behind, Right, AllRepeated, all_replies, RepeatsRight}
use Rattle.agent.proofs.MoveCases.{Ready, submessage_cases}
use Rattle.agent.proofs.StreamLists.{or_fresh, open_now, write_here, write_elsewhere, acknack_here, acknack_elsewhere, repeats_now}

-- ---- one event more

one_more : (es : List (Event Bytes)) (e : Event Bytes) (k : KeptStream) → on_events (es ++ (e ∷ [])) k ≡ on_event e (on_events es k)
unfolding on_events
one_more [] e k = refl
one_more (x ∷ es) e k = one_more es e (on_event x k)

-- each stream of a list, other than 0, is what came to it leaves
abbrev Told : Came → List KeptStream → Type 0
Told g ks = (n : ℕ) → n ≢ 0 → or_fresh n (stream_in ks n) ≡ stream_after n (g n)

told_more : (g : Came) (s : ℕ) (e : Event Bytes) (ks ks' : List KeptStream) → Told g ks
    → (s ≢ 0 → or_fresh s (stream_in ks' s) ≡ on_event e (or_fresh s (stream_in ks s)))
    → ((m : ℕ) → m ≢ s → or_fresh m (stream_in ks' m) ≡ or_fresh m (stream_in ks m))
    → Told (adding s (e ∷ []) g) ks'
told_more g s e ks ks' v here elsewhere n h = by (eqb n s) refl
  where
    by : (b : Bool) → eqb n s ≡ b → or_fresh n (stream_in ks' n) ≡ stream_after n (cond b (g n ++ (e ∷ [])) (g n))
    by true q =
        let z : n ≡ s = eqb-true n s q in
        subst (λ (m : ℕ). or_fresh m (stream_in ks' m) ≡ on_event e (or_fresh m (stream_in ks m))) (sym z) (here (λ y. h (z ∙ y)))
        ∙ ap (on_event e) (v n h)
        ∙ sym (one_more (g n) e (fresh_of n))
    by false q = elsewhere n (eqb-false n s q) ∙ v n h

module _ (id : ℕ) where
  abbrev Inv : Came → Local → Type 0
  Inv g l = (l.id ≡ id) × Told g l.streams

  -- what a rule leaves; where it hands out a call, the stream of a read is open
  abbrev Next : Came → Move → Type 0
  Next g (done l rs) = Inv g l
  Next g (calls l rs c p) = Inv g l × Ready p.task p.stream p.number l

  -- ---- a submessage

  module _ (g : Came) (is_open : Bool) (stream : ℕ) (l : Local) (v : Inv g l) where
    opened : Inv g (opening stream l)
    opened = (v.0, λ n h. open_now l.streams stream n ∙ v.1 n h)

    quiet : (m : Submessage) (body : List ℕ) → acknack_of m ≡ None → Next g (on_submessage is_open m body stream l)
    quiet m body e =
        submessage_cases (Next g) (Inv g) is_open m stream l v (λ es. v) opened (λ l' q. q) (λ l' n code q. q) (λ l' n task call q r. (q, r))
        (λ first last. opened) (λ p f. absurd (none_some (sym e ∙ ap acknack_of f))) body

    module _ (first bitmap : ℕ) where
      abbrev ks : List KeptStream
      ks = open_in l.streams stream

      abbrev left : Local
      left = acknowledging stream first (opening stream l)

      acknowledged : Inv (adding stream (acknacked first bitmap ∷ []) g) left
      unfolding on_event
      acknowledged = (
        v.0,
        told_more g stream (acknacked first bitmap) l.streams left.streams v.1
            (λ h. acknack_here ks stream first ∙ ap (acknack_in first) (open_now l.streams stream stream))
            (λ m h. acknack_elsewhere ks stream first m h ∙ open_now l.streams stream m),
      )

      repeated : stream ≢ 0 → Repeated (Some (first, bitmap)) stream (g stream) (repeats_from stream first bitmap (stream_in left.streams stream))
      repeated h =
          let held = acknack_here ks stream first ∙ ap (acknack_in first) (open_now l.streams stream stream ∙ v.1 stream h) in
          let exact : repeats_from stream first bitmap (stream_in left.streams stream) ≡ repeated_in (acknack_in first (stream_after stream (g stream))).held first bitmap
          = repeats_now stream first bitmap h (stream_in left.streams stream) ∙ ap (λ (k : KeptStream). repeated_in k.held first bitmap) held in
          (exact, λ r i. (repeats_as_sent stream (g stream)).repeated first bitmap r (subst (λ (rs : List Bytes). Memᴰ r rs) exact i))

    abbrev Fair : Submessage → Move → Type 0
    Fair m x = Next (adding stream (asks_again (acknack_of m)) g) x × (stream ≢ 0 → Repeated (acknack_of m) stream (g stream) (replies_of x))

    submessage_fair : (m : Submessage) (body : List ℕ) → Fair m (on_submessage is_open m body stream l)
    submessage_fair (CreateClient p) body = (quiet (CreateClient p) body refl, λ h. tt)
    submessage_fair (Create p) body = (quiet (Create p) body refl, λ h. tt)
    submessage_fair (Delete p) body = (quiet (Delete p) body refl, λ h. tt)
    submessage_fair (Status p) body = (quiet (Status p) body refl, λ h. tt)
    submessage_fair (WriteData p) body = (quiet (WriteData p) body refl, λ h. tt)
    submessage_fair (ReadData p) body = (quiet (ReadData p) body refl, λ h. tt)
    submessage_fair (Data p) body = (quiet (Data p) body refl, λ h. tt)
    submessage_fair (Heartbeat p) body = (quiet (Heartbeat p) body refl, λ h. tt)
    submessage_fair (Fragment p) body = (quiet (Fragment p) body refl, λ h. tt)
    submessage_fair (Acknack p) body = (acknowledged p.first_unacked_seq p.nack_bitmap, repeated p.first_unacked_seq p.nack_bitmap)

  -- ---- an answer

  module _ (g : Came) (stream number : ℕ) (l : Local) (v : Inv g l) where
    abbrev Answered : Option (List ℕ) → Move → Type 0
    Answered x m = Next (adding stream (sends x (replies_of m)) g) m × (stream ≢ 0 → Sent x id stream number (g stream) (replies_of m))

    not_open : eqb stream 0 ≡ false → stream_in l.streams stream ≡ None → Ready reading stream number l → ⊥
    not_open q e (inl z) = let o : ◌≡◌ {A = ℕ} 0 1 = ap (λ (b : Bool). cond b 1 0) (sym q ∙ z) in omega arith
    not_open q e (inr (k, f)) = none_some (sym e ∙ f)

    sampled : (d : List ℕ) (b : Bool) → eqb stream 0 ≡ b → (x : Option KeptStream) → stream_in l.streams stream ≡ x → Ready reading stream number l
        → Answered (Some d) (cond b (done l (data_bytes l.id stream 0 number d ∷ [])) (sample_on stream number d x l))
    unfolding on_event
    sampled d true q x e r =
        let z : stream ≡ 0 = eqb-true stream 0 q in
        ((v.0, told_more g stream (sent (data_bytes l.id stream 0 number d)) l.streams l.streams v.1 (λ h. absurd (h z)) (λ m h. refl)), λ h. absurd (h z))
    sampled d false q None e r = absurd (not_open q e r)
    sampled d false q (Some k) e r =
        let bytes = data_bytes l.id stream k.next number d in (
          (
            v.0,
            told_more g stream (sent bytes) l.streams (write_in l.streams (sent_in bytes k)) v.1
                (λ h. write_here l.streams stream k (sent_in bytes k) e refl ∙ ap (λ (x : Option KeptStream). sent_in bytes (or_fresh stream x)) (sym e))
                (λ m h. write_elsewhere l.streams stream k (sent_in bytes k) e refl m h),
          ),
          λ h.
              let now : k ≡ stream_after stream (g stream) = ap (or_fresh stream) (sym e) ∙ v.1 stream h in
              let next : k.next ≡ number_of (length (data_of (g stream))) = ap (λ (k : KeptStream). k.next) now ∙ (repeats_as_sent stream (g stream)).next in
              ap (λ (i : ℕ). data_bytes i stream k.next number d ∷ []) v.0 ∙ ap (λ (s : ℕ). data_bytes id stream s number d ∷ []) next,
        )

    answer_fair : (t : Task) (a : Answer) → Ready t stream number l → Answered (sample_of t a) (answer_of t stream number a l)
    answer_fair (creating kind parent) (created h) r = (v, λ h. tt)
    answer_fair (creating kind parent) succeeded r = (v, λ h. tt)
    answer_fair (creating kind parent) (sample d) r = (v, λ h. tt)
    answer_fair (creating kind parent) no_sample r = (v, λ h. tt)
    answer_fair (creating kind parent) failed r = (v, λ h. tt)
    answer_fair writing (created h) r = (v, λ h. tt)
    answer_fair writing succeeded r = (v, λ h. tt)
    answer_fair writing (sample d) r = (v, λ h. tt)
    answer_fair writing no_sample r = (v, λ h. tt)
    answer_fair writing failed r = (v, λ h. tt)
    answer_fair reading (created h) r = (v, λ h. tt)
    answer_fair reading succeeded r = (v, λ h. tt)
    answer_fair reading (sample d) r = sampled d (eqb stream 0) refl (stream_in l.streams stream) refl r
    answer_fair reading no_sample r = (v, λ h. tt)
    answer_fair reading failed r = (v, λ h. tt)
    answer_fair deleting (created h) r = (v, λ h. tt)
    answer_fair deleting succeeded r = (v, λ h. tt)
    answer_fair deleting (sample d) r = (v, λ h. tt)
    answer_fair deleting no_sample r = (v, λ h. tt)
    answer_fair deleting failed r = (v, λ h. tt)

  -- ---- works one behind the other

  abbrev grown : Came → List Work → Came
  grown g [] = g
  grown g (w ∷ ws) = grown (behind w g) ws

  tabled : (g : Came) (l : Local) → Inv g l → Tabled g l
  tabled g l v n h k e = ap (or_fresh n) (sym e) ∙ v.1 n h

  abbrev NextAll : Came → Working → Type 0
  NextAll g (done l rs) = Inv g l
  NextAll g (calls l rs c p) = Inv g l × Ready p.asked.task p.asked.stream p.asked.number l

  behind_next : (g : Came) (rs : List Bytes) (x : Working) → NextAll g x → NextAll g (fragments.behind rs x)
  behind_next g rs (done l more) v = v
  behind_next g rs (calls l more c p) v = v

  record Worked (g : Came) (ws : List Work) (x : Working) : Type 0 where
    said : AllRepeated id g ws
    next : NextAll (grown g ws) x

  plain_fair : (g : Came) (l : Local) (i : In) → Inv g l → Next (behind (does l i) g) (plain l i) × Right id g (does l i)
  plain_fair g l i v = submessage_fair g i.moment.is_open i.stream (touched i.moment.time l) v i.fields i.body

  onto_worked : (is : List In) (m : Move) (g : Came) → Next g m → Worked g (works_onto is m) (onto is m)
  unfolding onto works_onto
  onto_worked [] (done l rs) g v = record { said = tt; next = v }
  onto_worked [] (calls l rs c p) g v = record { said = tt; next = v }
  onto_worked (i ∷ is) (calls l rs c p) g v = record { said = tt; next = v }
  onto_worked (i ∷ is) (done l rs) g v =
      let f = plain_fair g l i v in
      let r = onto_worked is (plain l i) (behind (does l i) g) f.0 in
      record { said = (tabled g l v, f.1, r.said); next = behind_next (grown (behind (does l i) g) (works_onto is (plain l i))) rs (onto is (plain l i)) r.next }

  alone_worked : (g : Came) (l : Local) (i : In) → Inv g l → Worked g (does l i ∷ []) (onto [] (plain l i))
  unfolding onto
  alone_worked g l i v = let f = plain_fair g l i v in record { said = (tabled g l v, f.1, tt); next = by (plain l i) f.0 }
    where
      by : (m : Move) → Next (behind (does l i) g) m → NextAll (behind (does l i) g) (onto [] m)
      by (done l' rs) w = w
      by (calls l' rs c p) w = w

  handle_worked : (g : Came) (l : Local) (i : In) → Inv g l → Worked g (does l i ∷ rebuilt_by i.fields i l) (handle l i)
  handle_worked g l i v = by i.fields
    where
      by : (m : Submessage) → let j = in_of i.moment i.stream m i.body in Worked g (does l j ∷ rebuilt_by m j l) (handle_by m j l)
      by (Fragment p) =
          let j = in_of i.moment i.stream (Fragment p) i.body in
          let r = onto_worked (brought p j l) (done (gathering p j l) []) g v in
          record { said = (tabled g l v, λ h. tt, r.said); next = r.next }
      by (CreateClient p) = alone_worked g l (in_of i.moment i.stream (CreateClient p) i.body) v
      by (Create p) = alone_worked g l (in_of i.moment i.stream (Create p) i.body) v
      by (Delete p) = alone_worked g l (in_of i.moment i.stream (Delete p) i.body) v
      by (Status p) = alone_worked g l (in_of i.moment i.stream (Status p) i.body) v
      by (WriteData p) = alone_worked g l (in_of i.moment i.stream (WriteData p) i.body) v
      by (ReadData p) = alone_worked g l (in_of i.moment i.stream (ReadData p) i.body) v
      by (Data p) = alone_worked g l (in_of i.moment i.stream (Data p) i.body) v
      by (Heartbeat p) = alone_worked g l (in_of i.moment i.stream (Heartbeat p) i.body) v
      by (Acknack p) = alone_worked g l (in_of i.moment i.stream (Acknack p) i.body) v

  resume_worked : (g : Came) (l : Local) (p : fragments.Pending) (a : Answer) → Inv g l → Ready p.asked.task p.asked.stream p.asked.number l
      → Worked g (hears l p.asked a ∷ works_onto p.left (on_answer l p.asked a)) (resumed l p a)
  resume_worked g l p a v ready =
      let f = answer_fair g p.asked.stream p.asked.number l v p.asked.task a ready in
      let r = onto_worked p.left (on_answer l p.asked a) (behind (hears l p.asked a) g) f.0 in
      record { said = (tabled g l v, f.1, r.said); next = r.next }

module _ (is_open : ℕ → ℕ → Bool) (timeout : ℕ) where
  abbrev R : iso.Rules
  R = rules is_open timeout

  abbrev works : List (Action R) → List Work
  works ds = works_in is_open timeout ds

  works_both : (xs ys : List (Action R)) → works (xs ++ ys) ≡ works xs ++ works ys
  works_both [] ys = refl
  works_both (d ∷ xs) ys = ap (λ (ws : List Work). works_of is_open timeout d ++ ws) (works_both xs ys) ∙ sym (append_assoc (works_of is_open timeout d) (works xs) (works ys))

  -- ---- the machine

  module _ (id : ℕ) where
    abbrev Clean : Machine R → Came → Type 0
    Clean ended g = Unit {0}
    Clean (idle l) g = Inv id g l
    Clean (waiting l p is) g = Inv id g l × Ready p.asked.task p.asked.stream p.asked.number l

    record Good (g : Came) (ws : List Work) (m : Machine R) : Type 0 where
      said : AllRepeated id g ws
      clean : Clean m (grown id g ws)

    both : (g : Came) (xs ys : List Work) (m : Machine R) → AllRepeated id g xs → Good (grown id g xs) ys m → Good g (xs ++ ys) m
    both g [] ys m p q = q
    both g (w ∷ xs) ys m p q = let r = both (behind w g) xs ys m p.2 q in record { said = (p.0, p.1, r.said); clean = r.clean }

    -- behind a rule at work
    on_good : (g : Came) (d : Action R) (is : List In) (x : Working) → Worked id g (works_of is_open timeout d) x
        → ((g' : Came) (l : Local) → Inv id g' l → Good g' (works (work R l is).actions) (work R l is).machine)
        → let m = on R d x is (λ l. work R l is) in Good g (works m.actions) m.machine
    on_good g d is (done l rs) r k =
        both g (works_of is_open timeout d) (works (work R l is).actions) (work R l is).machine r.said (k (grown id g (works_of is_open timeout d)) l r.next)
    on_good g d is (calls l rs c p) r k = both g (works_of is_open timeout d) [] (waiting l p is) r.said (record { said = tt; clean = r.next })

    work_good : (is : List In) (g : Came) (l : Local) → Inv id g l → Good g (works (work R l is).actions) (work R l is).machine
    work_good [] g l v = record { said = tt; clean = v }
    work_good (i ∷ is) g l v = on_good g (handles l i) is (handle l i) (handle_worked id g l i v) (λ g' l' w. work_good is g' l' w)

    still_good : (g : Came) (m : Machine R) → Clean m g → Good g [] m
    still_good g m c = record { said = tt; clean = c }

    take_good : (g : Came) (m : Machine R) (f : Feed R) → Clean m g → Good g (works (take R m f).actions) (take R m f).machine
    take_good g ended f c = still_good g ended c
    take_good g (idle l) (submessages is) c = work_good is g l c
    take_good g (idle l) (answered a) c = still_good g (idle l) c
    take_good g (idle l) (swept_at now) c = go (expired l now timeout)
      where
        go : (b : Bool) → Good g [] (cond b ended (idle l))
        go true = still_good g ended tt
        go false = still_good g (idle l) c
    take_good g (idle l) removal_of_it c = still_good g ended tt
    take_good g (waiting l p is) (submessages []) c = still_good g (waiting l p is) c
    take_good g (waiting l p is) (submessages (j ∷ js)) c = still_good g (waiting l p is) c
    take_good g (waiting l p is) (answered a) c = on_good g (resumes l p a) is (resumed l p a) (resume_worked id g l p a c.0 c.1) (work_good is)
    take_good g (waiting l p is) (swept_at now) c = still_good g (waiting l p is) c
    take_good g (waiting l p is) removal_of_it c = still_good g (waiting l p is) c

    life : (fs : List (Feed R)) (g : Came) (m : Machine R) → Clean m g → Good g (works (takes R m fs).actions) (takes R m fs).machine
    life [] g m c = record { said = tt; clean = c }
    life (f ∷ fs) g m c =
        let r = take_good g m f c in
        let q = take R m f in
        subst (λ (ws : List Work). Good g ws (takes R q.machine fs).machine) (sym (works_both q.actions (takes R q.machine fs).actions))
        (both g (works q.actions) (works (takes R q.machine fs).actions) (takes R q.machine fs).machine r.said (life fs (grown id g (works q.actions)) q.machine r.clean))

    -- of a machine just started, whatever it is fed
    pub machine_repeats : (o : Opening) (fs : List (Feed R)) → AllRepeated id nothing_yet (works (takes R (idle (start id o)) fs).actions)
    unfolding stream_in on_events
    machine_repeats o fs =
        (life fs nothing_yet (idle (start id o)) (refl, λ n h. ap (λ (b : Bool). or_fresh n (cond b (Some (fresh_of 0)) None)) (ne_eqb 0 n (λ z. h (sym z))))).said

  -- ---- a machine's replies are those of its rules at work

  abbrev told : List (Action R) → List Bytes
  told ds = all_replies (works ds)

  replies_both : (xs ys : List Work) → all_replies (xs ++ ys) ≡ all_replies xs ++ all_replies ys
  replies_both [] ys = refl
  replies_both (w ∷ xs) ys =
      ap (λ (rs : List Bytes). replies_of (move_of w) ++ rs) (replies_both xs ys) ∙ sym (append_assoc (replies_of (move_of w)) (all_replies xs) (all_replies ys))

  abbrev replies_all : Working → List Bytes
  replies_all (done l rs) = rs
  replies_all (calls l rs c p) = rs

  behind_told : (rs : List Bytes) (x : Working) → replies_all (fragments.behind rs x) ≡ rs ++ replies_all x
  behind_told rs (done l more) = refl
  behind_told rs (calls l more c p) = refl

  onto_told : (is : List In) (m : Move) → replies_all (onto is m) ≡ replies_of m ++ all_replies (works_onto is m)
  unfolding onto works_onto
  onto_told [] (done l rs) = sym (append-nil rs)
  onto_told [] (calls l rs c p) = sym (append-nil rs)
  onto_told (i ∷ is) (calls l rs c p) = sym (append-nil rs)
  onto_told (i ∷ is) (done l rs) = behind_told rs (onto is (plain l i)) ∙ ap (λ (os : List Bytes). rs ++ os) (onto_told is (plain l i))

  alone_told : (m : Move) → replies_all (onto [] m) ≡ replies_of m ++ []
  unfolding works_onto
  alone_told m = onto_told [] m

  handle_told : (l : Local) (i : In) → replies_all (handle l i) ≡ all_replies (works_of is_open timeout (handles l i))
  handle_told l i = by i.fields
    where
      by : (m : Submessage) → let j = in_of i.moment i.stream m i.body in replies_all (handle_by m j l) ≡ all_replies (does l j ∷ rebuilt_by m j l)
      by (Fragment p) = let j = in_of i.moment i.stream (Fragment p) i.body in onto_told (brought p j l) (done (gathering p j l) [])
      by (CreateClient p) = alone_told (plain l (in_of i.moment i.stream (CreateClient p) i.body))
      by (Create p) = alone_told (plain l (in_of i.moment i.stream (Create p) i.body))
      by (Delete p) = alone_told (plain l (in_of i.moment i.stream (Delete p) i.body))
      by (Status p) = alone_told (plain l (in_of i.moment i.stream (Status p) i.body))
      by (WriteData p) = alone_told (plain l (in_of i.moment i.stream (WriteData p) i.body))
      by (ReadData p) = alone_told (plain l (in_of i.moment i.stream (ReadData p) i.body))
      by (Data p) = alone_told (plain l (in_of i.moment i.stream (Data p) i.body))
      by (Heartbeat p) = alone_told (plain l (in_of i.moment i.stream (Heartbeat p) i.body))
      by (Acknack p) = alone_told (plain l (in_of i.moment i.stream (Acknack p) i.body))

  on_told : (d : Action R) (x : Working) (is : List In) → replies_all x ≡ all_replies (works_of is_open timeout d) → ((l : Local) → (work R l is).replies ≡ told (work R l is).actions)
      → let m = on R d x is (λ l. work R l is) in m.replies ≡ told m.actions
  on_told d (done l rs) is e k =
      ap (λ (os : List Bytes). rs ++ os) (k l) ∙ ap (λ (os : List Bytes). os ++ told (work R l is).actions) e ∙ sym (replies_both (works_of is_open timeout d) (works (work R l is).actions))
  on_told d (calls l rs c p) is e k = e ∙ ap all_replies (sym (append-nil (works_of is_open timeout d)))

  work_told : (is : List In) (l : Local) → (work R l is).replies ≡ told (work R l is).actions
  work_told [] l = refl
  work_told (i ∷ is) l = on_told (handles l i) (handle l i) is (handle_told l i) (work_told is)

  take_told : (m : Machine R) (f : Feed R) → (take R m f).replies ≡ told (take R m f).actions
  take_told ended f = refl
  take_told (idle l) (submessages is) = work_told is l
  take_told (idle l) (answered a) = refl
  take_told (idle l) (swept_at now) = refl
  take_told (idle l) removal_of_it = refl
  take_told (waiting l p is) (submessages []) = refl
  take_told (waiting l p is) (submessages (j ∷ js)) = refl
  take_told (waiting l p is) (answered a) = on_told (resumes l p a) (resumed l p a) is (onto_told p.left (on_answer l p.asked a)) (work_told is)
  take_told (waiting l p is) (swept_at now) = refl
  take_told (waiting l p is) removal_of_it = refl

  takes_told : (m : Machine R) (fs : List (Feed R)) → (takes R m fs).replies ≡ told (takes R m fs).actions
  takes_told m [] = refl
  takes_told m (f ∷ fs) =
      let r = take R m f in
      let q = takes R r.machine fs in
      ap (λ (rs : List Bytes). rs ++ q.replies) (take_told m f) ∙ ap (λ (rs : List Bytes). told r.actions ++ rs) (takes_told r.machine fs)
      ∙ sym (replies_both (works r.actions) (works q.actions)) ∙ ap all_replies (sym (works_both r.actions q.actions))

  -- ---- any agent with term 3

  pub right_of : (A : claim.Agent R) (X : Handles R) → claim.Term3 R A X → RepeatsRight is_open timeout A
  right_of A X term = record {
    replies = λ H S. ap (λ (t : Trace R). t.replies) ((term H).0.alone S) ∙ takes_told (idle (start S.id S.client)) (claim.fed R A S);
    repeated = λ H S. machine_repeats S.id S.client (claim.fed R A S);
    as_sent = repeats_as_sent;
  }
