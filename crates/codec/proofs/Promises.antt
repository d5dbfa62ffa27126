-- The promises of `specs/Promises.antt`, proved.
use Prim.Native.Nat.{ℕ, ◌≤◌}
use mathlib.Core.Path.{◌≡◌, refl, sym, ap, ◌∙◌}
use mathlib.Core.List.{List, [], ◌∷◌, ◌++◌, map, append-nil}
use native.Mathlib.Omega.{arith}
use lib.ListN.{length, take, drop, length-append, length-map}
use lib.Seq.{take-length, take-nil, drop_at}
use Rattle.codec.specs.Answers.{gives, refused_as, checked_answer, string_answer}
use Rattle.codec.specs.Header.{header_bytes}
use Rattle.codec.specs.Reading.{Item, Message, message, refused, message_of, checked_of, check_of}
use Rattle.codec.specs.Strings.{string_bytes, span_at}
use Rattle.codec.specs.Writing.{fixed_bytes, body_len, carried, payload_bytes, sub_bytes}
use Rattle.codec.specs.Grammar.{Said, Ranged, IsString, Bodied, Payload, bodied, plain, OneSub, one, Subs, none, next, IsMessage, whole, said_in, reading, reading_of, says}
use Rattle.codec.specs.Promises.{ReadsExactly, ChecksWhole, subs_bytes, written, HeaderAlone, Writable, kept, ReadsBack, SaysTheSame, TextExactly, ReadsStrings, StringsReadBack}
use Rattle.codec.specs.declared.header.MessageHeader.{MessageHeader}
use Rattle.codec.specs.declared.submessages.Submessage.{Submessage}
use Rattle.codec.specs.declared.submessages.Submessage.TheVariants.{CreateClient, Create, Delete, Status, WriteData, ReadData, Data, Heartbeat, Acknack, Fragment}
use Rattle.codec.proofs.Complete.{complete}
use Rattle.codec.proofs.Sound.{says_same, sound}
use Rattle.codec.proofs.strings.Theorems.{cut_short, part_there, read_there, behind_there, only_text, not_text}
use Rattle.codec.proofs.text.Theorems.{text_well, well_text}

pub reads_exactly : ReadsExactly
reads_exactly s small h xs = (complete s h xs, sound s small h xs)

-- ---- the check

length_said : (s : List ℕ) (xs : List Item) (ys : List Said) → map (said_in s) xs ≡ ys → length xs ≡ length ys
length_said s xs ys e = sym (length-map xs (said_in s)) ∙ ap length e

checks_said : (s : List ℕ) (m : Message) (h : MessageHeader) (ys : List Said) → reading_of s m ≡ says h ys → checked_answer (checked_of m) ≡ gives (h, length ys)
checks_said s (message g xs) h ys e =
    let same = says_same e in
    rw (same.0, length_said s xs ys same.1)
checks_said s (refused r) h ys e = let z : ◌≡◌ {A = ℕ} 0 1 = cc in absurd (omega arith)

checks_refused : (s : List ℕ) (m : Message) (number byte : ℕ) → reading_of s m ≡ refused_as number byte → checked_answer (checked_of m) ≡ refused_as number byte
checks_refused s (message g xs) number byte e = let z : ◌≡◌ {A = ℕ} 0 1 = cc in absurd (omega arith)
checks_refused s (refused q) number byte e = cc

pub checks_whole : ChecksWhole
unfolding reading check_of
checks_whole s = (checks_said s (message_of s), checks_refused s (message_of s))

-- ---- what is written is in the grammar

pub header_alone : HeaderAlone
unfolding written
header_alone h = append-nil (header_bytes h)

payload_written : (m : Submessage) (body : List ℕ) → Payload m (carried m body) (fixed_bytes m ++ carried m body)
payload_written (Create p) body = bodied (Create p) (take (length body) body) tt
payload_written (WriteData p) body = bodied (WriteData p) (take (length body) body) tt
payload_written (Data p) body = bodied (Data p) (take (length body) body) tt
payload_written (Fragment p) body = bodied (Fragment p) (take (length body) body) tt
payload_written (CreateClient p) body = plain (CreateClient p) [] (λ z. z)
payload_written (Delete p) body = plain (Delete p) [] (λ z. z)
payload_written (Status p) body = plain (Status p) [] (λ z. z)
payload_written (ReadData p) body = plain (ReadData p) [] (λ z. z)
payload_written (Heartbeat p) body = plain (Heartbeat p) [] (λ z. z)
payload_written (Acknack p) body = plain (Acknack p) [] (λ z. z)

one_written : (x : Said) → Ranged x.fields → length (payload_bytes x.fields x.body) ≤ 65535 → OneSub (kept x) (sub_bytes x.fields x.body)
unfolding sub_bytes payload_bytes
one_written x r h = one x.fields (carried x.fields x.body) _ 0 r (payload_written x.fields x.body) (omega arith)

subs_written : (xs : List Said) → Writable xs → Subs (map kept xs) (subs_bytes xs)
subs_written [] w = none
subs_written (x ∷ xs) w = next (one_written x w.0.0 w.0.1) (subs_written xs w.1)

pub reads_back : ReadsBack
unfolding written
reads_back h x xs r w = complete _ h (map kept (x ∷ xs)) (whole h (kept x) (map kept xs) (subs_bytes (x ∷ xs)) r (subs_written (x ∷ xs) w))

-- ---- what was read can be written, and nothing of it is lost

carried_bodied : (m : Submessage) (body : List ℕ) → Bodied m → carried m body ≡ body
carried_bodied (Create p) body h = take-length body
carried_bodied (WriteData p) body h = take-length body
carried_bodied (Data p) body h = take-length body
carried_bodied (Fragment p) body h = take-length body
carried_bodied (CreateClient p) body h = absurd h
carried_bodied (Delete p) body h = absurd h
carried_bodied (Status p) body h = absurd h
carried_bodied (ReadData p) body h = absurd h
carried_bodied (Heartbeat p) body h = absurd h
carried_bodied (Acknack p) body h = absurd h

payload_kept : (m : Submessage) (body payload : List ℕ) → Payload m body payload → (carried m body ≡ body) × (length (payload_bytes m body) ≤ length payload)
unfolding payload_bytes
payload_kept m body payload (bodied m' body' k) =
    let e = carried_bodied m body k in
    (e, rw e (omega arith))
payload_kept m body payload (plain m' ignored k) =
    let e = take-nil {A = ℕ} (body_len m 0) in
    (e, rw e (omega (arith, length-append (fixed_bytes m) [], length-append (fixed_bytes m) ignored)))

one_kept : {x : Said} {a : List ℕ} → OneSub x a → (kept x ≡ x) × (Ranged x.fields × (length (payload_bytes x.fields x.body) ≤ 65535))
one_kept (one m body payload flags r k small) =
    let p = payload_kept m body payload k in
    (rw p.0, (r, omega (arith, p.1)))

subs_kept : {xs : List Said} {bytes : List ℕ} → Subs xs bytes → (map kept xs ≡ xs) × Writable xs
subs_kept none = (refl, tt)
subs_kept (next {x} {xs} o r) =
    let a = one_kept o in
    let b = subs_kept r in
    (rw (a.0, b.0), (a.1, b.1))

same_said : (h : MessageHeader) (xs : List Said) (s : List ℕ) → IsMessage h xs s → reading (written h xs) ≡ says h xs
same_said h xs s (whole h' x ys bytes r k) =
    let a = subs_kept k in
    reads_back h x ys r a.1 ∙ ap (λ (l : List Said). says h l) a.0

pub says_the_same : SaysTheSame
says_the_same s small h xs e = same_said h xs s (sound s small h xs e)

-- ---- strings

pub text_exactly : TextExactly
text_exactly s = (text_well s, well_text s)

pub reads_strings : ReadsStrings
reads_strings s small at =
    record {
      accepts = λ text behind g. (ap string_answer (read_there s at text behind g), part_there s at text behind g, behind_there s at text behind g);
      only = only_text s at small;
      short = λ h. ap string_answer (sym (cut_short s at h));
      ill = not_text s at;
    }

pub strings_read_back : StringsReadBack
strings_read_back before text behind h t =
    let at = length before in
    let s = before ++ (string_bytes text ++ behind) in
    let g : IsString text behind (drop at s) = record { stands = drop_at before (string_bytes text ++ behind) at refl; long = omega arith; is_text = t } in
    (span_at s at, ap string_answer (read_there s at text behind g), part_there s at text behind g)
