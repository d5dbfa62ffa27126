-- A fragment put into a session's store: what is left is as long as it was; and of a sound store, what it then holds and what the fragment completes.
use Prim.Native.Nat.{ℕ, zero, suc, ◌*◌, ◌<◌, ◌≤◌}
use mathlib.Core.Path.{◌≡◌, refl, sym, ap, ◌∙◌, subst}
use mathlib.Core.Logic.{◌≢◌}
use mathlib.Core.Bool.{Bool, true, false, cond}
use mathlib.Core.List.{List, [], ◌∷◌, ◌++◌, map}
use native.Mathlib.Omega.{arith}
use borrow.Author.Tests.{leb-true, ltb-true, lt-ltb, le-ltb, eqb-true, eqb-false, eq-eqb}
use lib.Dec.{eqb, leb, ltb}
use lib.ListN.{length, get_or, take, drop, set, replicate, length-replicate}
use lib.Seq.{length-take-le, take_at}
use Rattle.codec.specs.Bytes.{put_at}
use Rattle.codec.specs.Cutting.{joined}
use Rattle.codec.specs.Reassembly.{under_need, new_of, new_lengths, grown, insert_of, insert_slots, insert_lengths, payload_of}
use Rattle.codec.specs.Inserts.{Store, Piece, insert_into, inserts, Slot, free, holds, slots_of, slots_in, held_in, Sound}
use Rattle.codec.specs.declared.reassembly.ReassemblyBuffer.{ReassemblyBuffer}
use Rattle.codec.specs.declared.refusals.Refusal.TheVariants.{OverLimit}
use Rattle.codec.proofs.reassembly.Laws as codec
use Rattle.codec.proofs.reassembly.View.{body_in, held_most, length_slots}
use Rattle.codec.proofs.reassembly.Inserts.{step, new_good}
use Rattle.codec.proofs.reassembly.Held.{inserts_sound}
use Rattle.codec.proofs.reassembly.Left.{Keeps, SameStore, insert_length, insert_same, new_length, assemble_keeps, insert_good, payload_joined, payload_most, assemble_good}
use Rattle.sessions.specs.FragmentStore.{FragmentStore, allowed, slots_for, slots_with, whole_of}
use Rattle.sessions.specs.Fragments.{buffer_with, store_for, lengths_for, assembled_as, gathered_by, rebuilt_by, parts_with, lengths_with, rebuilt_with, gathered_in, parts_after, lengths_after, rebuilt_after, gathered_session}
use Rattle.sessions.specs.declared.fragments.Gathered.{Gathered}
use Rattle.sessions.specs.declared.fragments.Gathered.TheVariants.{Nothing, Held, Whole}
use Rattle.sessions.specs.declared.table.ClientSession.{ClientSession}
use Rattle.sessions.proofs.Steps.{no_fragments}
use Rattle.sessions.proofs.fragments.Laws.{Chosen, kept_chosen, new_chosen, gather_by}
use Rattle.std.specs.Option.{option_map}
use Rattle.std.specs.Prelude.{Err, Ok, Result, Option, None, Some}
use Rattle.codec.specs.declared.refusals.Refusal.{Refusal}

-- ---- a fragment that is allowed

pub record Allowed (nr total len : ℕ) : Type 0 where
  pub some_total : total ≢ 0
  pub few_parts : total ≤ 64
  pub below : nr < total
  pub short : len ≤ 512

pub allowed_is : (nr total len : ℕ) → allowed nr total len ≡ true → Allowed nr total len
allowed_is nr total len = by (eqb total 0) (leb total 64) (ltb nr total) (leb len 512) refl refl refl refl
  where
    by : (x y z w : Bool) → eqb total 0 ≡ x → leb total 64 ≡ y → ltb nr total ≡ z → leb len 512 ≡ w → cond x false (cond y (cond z w false) false) ≡ true → Allowed nr total len
    by false true true true a b c d e = record { some_total = eqb-false total 0 a; few_parts = leb-true total 64 b; below = ltb-true nr total c; short = leb-true len 512 d }
    by true y z w a b c d e = let i : ◌≡◌ {A = ℕ} 0 1 = cc in absurd (omega arith)
    by false false z w a b c d e = let i : ◌≡◌ {A = ℕ} 0 1 = cc in absurd (omega arith)
    by false true false w a b c d e = let i : ◌≡◌ {A = ℕ} 0 1 = cc in absurd (omega arith)
    by false true true false a b c d e = let i : ◌≡◌ {A = ℕ} 0 1 = cc in absurd (omega arith)

-- ---- any store: what is left is as long as it was

-- a buffer of up to 64 bodies of up to 512 bytes
abbrev Few : ReassemblyBuffer → Type 0
Few b = (b.total_fragments ≤ 64) × (b.width ≡ 512)

few_bytes : (b : ReassemblyBuffer) → Few b → b.total_fragments * b.width ≤ 32768
few_bytes b f = let h = f.0 in rw f.1 (omega (arith, h))

-- the store that a fragment goes into is one of its total
abbrev FewMade : Result ReassemblyBuffer Refusal → Type 0
FewMade (Ok b) = Few b
FewMade (Err r) = Unit {0}

store_few : (s : ClientSession) (total : ℕ) (parts lengths : List ℕ) → total ≤ 64 → FewMade (store_for s total parts lengths)
unfolding store_for new_of
store_few s total parts lengths h = by (eqb s.total total) (leb s.received 64) (under_need total 512 (length parts) (length lengths))
  where
    by : (x y z : Bool) → FewMade (cond x (cond y (Ok (buffer_with total s.received)) (Err OverLimit)) (cond z (Err OverLimit) (Ok (buffer_with total 0))))
    by true true z = (h, refl)
    by true false z = Prim.tt
    by false y true = Prim.tt
    by false y false = (h, refl)

module _ (s : ClientSession) (parts lengths : List ℕ) (nr total : ℕ) (body : List ℕ) where
  pub parts_length : length (parts_after s parts lengths nr total body) ≡ length parts
  unfolding parts_after
  parts_length = by (store_for s total parts lengths)
    where
      by : (m : Result ReassemblyBuffer Refusal) → length (parts_with m parts (lengths_for s total parts lengths) nr body) ≡ length parts
      by (Ok b) = (insert_length b parts (lengths_for s total parts lengths) nr body).0
      by (Err r) = refl

  for_length : length (lengths_for s total parts lengths) ≡ length lengths
  unfolding lengths_for
  for_length = by (eqb s.total total)
    where
      by : (x : Bool) → length (cond x lengths (new_lengths total 512 parts lengths)) ≡ length lengths
      by true = refl
      by false = new_length total 512 parts lengths

  pub lengths_length : length (lengths_after s parts lengths nr total body) ≡ length lengths
  unfolding lengths_after
  lengths_length = by (store_for s total parts lengths) ∙ for_length
    where
      by : (m : Result ReassemblyBuffer Refusal) → length (lengths_with m parts (lengths_for s total parts lengths) nr body) ≡ length (lengths_for s total parts lengths)
      by (Ok b) = (insert_length b parts (lengths_for s total parts lengths) nr body).1
      by (Err r) = refl

  pub rebuilt_keeps : (rebuilt : List ℕ) → total ≤ 64 → Keeps 32768 rebuilt (rebuilt_after s parts lengths rebuilt nr total body)
  unfolding rebuilt_after
  rebuilt_keeps rebuilt h = by (store_for s total parts lengths) (store_few s total parts lengths h)
    where
      ls : List ℕ
      ls = lengths_for s total parts lengths

      into : (b : ReassemblyBuffer) → Few b → (ps qs : List ℕ) (i : Result (ReassemblyBuffer × Bool) Refusal) → SameStore b i → Keeps 32768 rebuilt (rebuilt_by i ps qs rebuilt)
      into b f ps qs (Ok (after, true)) e =
          let h = f.0 in
          assemble_keeps after ps qs rebuilt 32768 (few_bytes after (omega (arith, e.0, h), e.1 ∙ f.1))
      into b f ps qs (Ok (after, false)) e = (refl, refl)
      into b f ps qs (Err r) e = (refl, refl)

      by : (m : Result ReassemblyBuffer Refusal) → FewMade m → Keeps 32768 rebuilt (rebuilt_with m parts ls rebuilt nr body)
      by (Ok b) f = into b f (insert_slots b parts ls nr body) (insert_lengths b parts ls nr body) (insert_of b parts ls nr body) (insert_same b parts ls nr body)
      by (Err r) f = (refl, refl)

-- ---- the rebuilt bytes of a store's slots

free_slots : (width n : ℕ) (slots : List ℕ) → slots_of width slots (replicate n 0) ≡ replicate n free
unfolding slots_of
free_slots width zero slots = refl
free_slots width (suc n) slots = ap (λ (v : List Slot). free ∷ v) (free_slots width n (drop width slots))

whole_held : (v : List Slot) → held_in v ≡ length v → whole_of v ≡ Some (joined (map body_in v))
unfolding held_in joined body_in
whole_held [] e = refl
whole_held (free ∷ more) e = let h = held_most more in absurd (omega arith)
whole_held (holds body ∷ more) e = ap (option_map (λ (bytes : List ℕ). body ++ bytes)) (whole_held more (omega arith))

whole_lacks : (v : List Slot) → held_in v ≢ length v → whole_of v ≡ None
unfolding held_in
whole_lacks [] n = absurd (n refl)
whole_lacks (free ∷ more) n = refl
whole_lacks (holds body ∷ more) n = ap (option_map (λ (bytes : List ℕ). body ++ bytes)) (whole_lacks more (λ e. n (ap suc e)))

-- ---- a sound store, and a fragment that is allowed

module _ (s : ClientSession) (ps ls : List ℕ) (sound : Sound (record { buffer = buffer_with s.total s.received; slots = ps; lengths = ls }))
    (nr total : ℕ) (body : List ℕ) (ok : Allowed nr total (length body)) where
  -- the store as it is shown
  abbrev pub before : FragmentStore
  before = record { total = s.total; slots = slots_of 512 ps (take s.total ls) }

  received_few : s.total ≤ 64 → s.received ≤ 64
  received_few h =
      let c = sound.counted in
      let m = held_most (slots_of 512 ps (take s.total ls)) in
      let l = length_slots 512 ps (take s.total ls) in
      let k = length-take-le s.total ls sound.entries in
      omega (arith, c, m, l, k, h)

  -- the store that it goes into, and its slots
  record Ready : Type 0 where
    pub received : ℕ
    pub lengths : List ℕ
    pub chosen : Chosen s total ps ls (Ok (buffer_with total received)) lengths
    pub good : Sound (record { buffer = buffer_with total received; slots = ps; lengths = lengths })
    pub slots_are : slots_of 512 ps (take total lengths) ≡ slots_for before total

  ready : under_need total 512 (length ps) (length ls) ≡ false → Ready
  ready enough = by (eqb s.total total) refl
    where
      entries : take total (new_lengths total 512 ps ls) ≡ replicate total 0
      entries = ap (take total) (sym (codec.new_made total 512 ps ls enough).1) ∙ take_at (replicate total 0) (drop total ls) total (length-replicate total 0)

      by : (b : Bool) → eqb s.total total ≡ b → Ready
      by true e =
          let z : s.total ≡ total = eqb-true s.total total e in
          let h = ok.few_parts in
          record {
            received = s.received;
            lengths = ls;
            chosen = kept_chosen s total ps ls z (received_few (omega (arith, z, h)));
            good = subst (λ (n : ℕ). Sound (record { buffer = buffer_with n s.received; slots = ps; lengths = ls })) z sound;
            slots_are = ap (λ (n : ℕ). slots_of 512 ps (take n ls)) (sym z) ∙ sym (ap (λ (b : Bool). cond b before.slots (replicate total free)) e);
          }
      by false e =
          let n = new_chosen s total ps ls (eqb-false s.total total e) in
          record {
            received = 0;
            lengths = new_lengths total 512 ps ls;
            chosen = ((codec.new_made total 512 ps ls enough).0 ∙ n.0, n.1);
            good = new_good total 512 ps ls enough;
            slots_are = ap (slots_of 512 ps) entries ∙ free_slots 512 total ps ∙ sym (ap (λ (b : Bool). cond b before.slots (replicate total free)) e);
          }

  -- what a fragment leaves, and what it completes: by the bytes
  abbrev pub ends : List ℕ → Option (List ℕ) → Type 0
  ends rebuilt None =
      (count : ℕ)
      × (gathered_in s ps ls rebuilt nr total body ≡ Held (buffer_with total count))
      × Sound (record { buffer = buffer_with total count; slots = parts_after s ps ls nr total body; lengths = lengths_after s ps ls nr total body })
  ends rebuilt (Some bytes) =
      (gathered_in s ps ls rebuilt nr total body ≡ Whole (length bytes))
      × (rebuilt_after s ps ls rebuilt nr total body ≡ put_at rebuilt 0 bytes)
      × (length bytes ≤ 32768)

  module _ (enough : under_need total 512 (length ps) (length ls) ≡ false) where
    r : Ready
    r = ready enough

    abbrev b : ReassemblyBuffer
    b = buffer_with total r.received

    abbrev p : Piece
    p = record { nr = nr; body = body }

    abbrev count : ℕ
    count = grown r.received (get_or r.lengths nr 0)

    abbrev slots' : List ℕ
    slots' = insert_slots b ps r.lengths nr body

    abbrev lengths' : List ℕ
    lengths' = insert_lengths b ps r.lengths nr body

    abbrev after : Store
    after = record { buffer = buffer_with total count; slots = slots'; lengths = lengths' }

    held : Ok ((buffer_with total count), (eqb count total)) ≡ insert_of b ps r.lengths nr body
    held = insert_good total 512 r.received ps r.lengths r.good nr body ok.below ok.short

    after_is : insert_into (record { buffer = b; slots = ps; lengths = r.lengths }) p ≡ after
    unfolding insert_into
    after_is = rw (← held)

    after_sound : Sound after
    unfolding inserts
    after_sound = subst Sound after_is (inserts_sound (record { buffer = b; slots = ps; lengths = r.lengths }) (p ∷ []) r.good)

    after_slots : slots_in after ≡ slots_with before nr total body
    after_slots =
        let a = step total 512 r.good p in
        ap slots_in (sym after_is ∙ a.is)
        ∙ a.slot
        ∙ rw (lt-ltb nr total ok.below, le-ltb 512 (length body) ok.short)
        (ap (λ (v : List Slot). set v nr (holds body)) r.slots_are)

    many : length (slots_in after) ≡ total
    many = length_slots 512 slots' (take total lengths') ∙ length-take-le total lengths' after_sound.entries

    parts_are : slots' ≡ parts_after s ps ls nr total body
    parts_are = (gather_by s total ps ls [] nr body (Ok b) r.lengths r.chosen).1

    lengths_are : lengths' ≡ lengths_after s ps ls nr total body
    lengths_are = (gather_by s total ps ls [] nr body (Ok b) r.lengths r.chosen).2

    -- the store behind the fragment, as it is shown
    pub slots_left : slots_of 512 (parts_after s ps ls nr total body) (take total (lengths_after s ps ls nr total body)) ≡ slots_with before nr total body
    slots_left = sym (λ i. slots_of 512 (parts_are i) (take total (lengths_are i))) ∙ after_slots

    module _ (rebuilt : List ℕ) where
      answer_is : gathered_in s ps ls rebuilt nr total body ≡ gathered_by (Ok ((buffer_with total count), (eqb count total))) slots' lengths' rebuilt
      answer_is =
          sym (gather_by s total ps ls rebuilt nr body (Ok b) r.lengths r.chosen).0
          ∙ sym (ap (λ (i : Result (ReassemblyBuffer × Bool) Refusal). gathered_by i slots' lengths' rebuilt) held)

      rebuilt_is : rebuilt_after s ps ls rebuilt nr total body ≡ rebuilt_by (Ok ((buffer_with total count), (eqb count total))) slots' lengths' rebuilt
      rebuilt_is =
          sym (gather_by s total ps ls rebuilt nr body (Ok b) r.lengths r.chosen).3
          ∙ sym (ap (λ (i : Result (ReassemblyBuffer × Bool) Refusal). rebuilt_by i slots' lengths' rebuilt) held)

      lacks : eqb count total ≡ false → ends rebuilt None
      lacks e = (
        count,
        answer_is ∙ ap (λ (x : Bool). gathered_by (Ok ((buffer_with total count), x)) slots' lengths' rebuilt) e,
        subst Sound (λ i. record { buffer = buffer_with total count; slots = parts_are i; lengths = lengths_are i }) after_sound,
      )

      -- where no number is missing
      module _ (room : 32768 ≤ length rebuilt) (full : count ≡ total) where
        abbrev payload : List ℕ
        payload = payload_of (buffer_with total count) slots' lengths'

        payload_short : length payload ≤ 32768
        payload_short = let h = payload_most after after_sound full in let k = few_bytes (buffer_with total count) (ok.few_parts, refl) in omega (arith, h, k)

        whole_is : ends rebuilt (Some payload)
        whole_is =
            let h = payload_short in
            let w = assemble_good after after_sound full rebuilt (omega (arith, h, room)) in
            let e = eq-eqb count total full in (
              answer_is
                  ∙ ap (λ (x : Bool). gathered_by (Ok ((buffer_with total count), x)) slots' lengths' rebuilt) e
                  ∙ ap (λ (x : Result ℕ Refusal). assembled_as x (buffer_with total count)) (sym w.0),
              rebuilt_is ∙ ap (λ (x : Bool). rebuilt_by (Ok ((buffer_with total count), x)) slots' lengths' rebuilt) e ∙ sym w.1,
              h,
            )

        whole_told : whole_of (slots_in after) ≡ Some payload
        whole_told = whole_held (slots_in after) (sym after_sound.counted ∙ full ∙ sym many) ∙ ap Some (sym (payload_joined after after_sound full))

      pub fragment_ends : 32768 ≤ length rebuilt → ends rebuilt (whole_of (slots_with before nr total body))
      fragment_ends room = subst (λ (v : List Slot). ends rebuilt (whole_of v)) after_slots (by (eqb count total) refl)
        where
          by : (x : Bool) → eqb count total ≡ x → ends rebuilt (whole_of (slots_in after))
          by true e = let z = eqb-true count total e in subst (ends rebuilt) (sym (whole_told room z)) (whole_is room z)
          by false e = subst (ends rebuilt) (sym (whole_lacks (slots_in after) (λ q. eqb-false count total e (after_sound.counted ∙ q ∙ many)))) (lacks e)

  -- where the session's part is too short for it, nothing changes
  module _ (short : under_need total 512 (length ps) (length ls) ≡ true) where
    other : s.total ≢ total
    unfolding under_need
    other e =
        let n = sound.there in
        let m = sound.entries in
        let z : under_need total 512 (length ps) (length ls) ≡ false = rw (le-ltb (length ps) (total * 512) (omega (arith, n, e)), le-ltb (length ls) total (omega (arith, m, e))) in
        let i : ◌≡◌ {A = ℕ} 0 1 = cc (short, z) in omega arith

    pub short_ends : (rebuilt : List ℕ) → (gathered_in s ps ls rebuilt nr total body ≡ Nothing) × (parts_after s ps ls nr total body ≡ ps) × (lengths_after s ps ls nr total body ≡ ls)
    short_ends rebuilt =
        let n = new_chosen s total ps ls other in
        let c = codec.new_refused total 512 ps ls short in
        let w = gather_by s total ps ls rebuilt nr body (Err OverLimit) ls (c.0 ∙ n.0, c.1 ∙ n.1) in
        (sym w.0, sym w.1, sym w.2)

  -- the session behind it: of its fragments codec's soundness holds
  module _ (few : s.total ≤ 64) (rebuilt : List ℕ) (room : 32768 ≤ length rebuilt) where
    abbrev pub SoundLeft : Gathered → Type 0
    SoundLeft g =
        ((gathered_session s g).total ≤ 64)
        × Sound (record { buffer = buffer_with (gathered_session s g).total (gathered_session s g).received; slots = parts_after s ps ls nr total body; lengths = lengths_after s ps ls nr total body })

    pub sound_left : SoundLeft (gathered_in s ps ls rebuilt nr total body)
    sound_left = by (under_need total 512 (length ps) (length ls)) refl
      where
        left : (o : Option (List ℕ)) → ends rebuilt o → SoundLeft (gathered_in s ps ls rebuilt nr total body)
        left None e = subst SoundLeft (sym e.1) (ok.few_parts, e.2)
        left (Some bytes) e = subst SoundLeft (sym e.0) (omega arith, no_fragments (parts_after s ps ls nr total body) (lengths_after s ps ls nr total body))

        by : (x : Bool) → under_need total 512 (length ps) (length ls) ≡ x → SoundLeft (gathered_in s ps ls rebuilt nr total body)
        by true e =
            let n = short_ends e rebuilt in
            subst SoundLeft (sym n.0) (few, subst Sound (λ i. record { buffer = buffer_with s.total s.received; slots = sym n.1 i; lengths = sym n.2 i }) sound)
        by false e = left (whole_of (slots_with before nr total body)) (fragment_ends e rebuilt room)
