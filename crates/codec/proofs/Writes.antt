-- The promises of `specs/Writes.antt`, proved.
use Prim.Native.Nat.{ℕ, ◌+◌, ◌-◌, ◌<◌, ◌≤◌}
use mathlib.Core.Path.{◌≡◌, refl, sym, ap, ◌∙◌}
use mathlib.Core.Bool.{Bool, true, false, cond}
use mathlib.Core.List.{List, [], ◌∷◌, ◌++◌, map, append_assoc, append-nil}
use native.Mathlib.Decide.{dec_le}
use native.Mathlib.Nat.{lt_of_not-le, add_assoc}
use native.Mathlib.Omega.{arith}
use borrow.Author.Tests.{ltb-true, ltb-false}
use lib.Dec.{ltb}
use lib.ListN.{length, take, drop, length-append}
use lib.Seq.{length-take-le, drop_at, take-append_seam}
use Rattle.codec.specs.Answers.{refused_as, written_answer}
use Rattle.codec.specs.Bytes.{le16, put_at, put_of, put_bytes, write_of, write_bytes}
use Rattle.codec.specs.Header.{header_bytes}
use Rattle.codec.specs.Writing.{payload_bytes, sub_bytes, message_bytes}
use Rattle.codec.specs.Grammar.{Said, HeaderRanged, reading, says}
use Rattle.codec.specs.Promises.{subs_bytes, written, Writable, kept}
use Rattle.codec.specs.Writes.{Wrote, goes, stops, called, writes_subs, writes, Short, Leaves, whole, no_room, too_long, too_short, CallsLeave, NoneRefused, AllRanged, CallsReadBack, MessageWritten, AnswersExactly}
use Rattle.codec.specs.declared.header.MessageHeader.{MessageHeader}
use Rattle.codec.specs.declared.refusals.Refusal.TheVariants.{TooLong, OutputTooShort}
use Rattle.codec.proofs.bytes.Laws.{put_short, put_fits, put_behind, length_put, write_over, write_short, write_fits}
use Rattle.codec.proofs.Promises.{reads_back}
use Rattle.std.specs.Prelude.{Err, Ok}

-- ---- one call

module _ (n : ℕ) (out : List ℕ) (at : ℕ) (bytes : List ℕ) where
  only_long : (t u : Bool) → ltb 65535 n ≡ t
      → written_answer (cond t (Err TooLong) (cond u (Err OutputTooShort) (Ok (length bytes)))) ≡ refused_as 12 0 → 65535 < n
  only_long true u t e = ltb-true 65535 n t
  only_long false true t e = let z : ◌≡◌ {A = ℕ} 13 12 = cc in absurd (omega arith)
  only_long false false t e = let z : ◌≡◌ {A = ℕ} 0 1 = cc in absurd (omega arith)

  only_short : (t u : Bool) → ltb 65535 n ≡ t → ltb (length out) (at + length bytes) ≡ u
      → written_answer (cond t (Err TooLong) (cond u (Err OutputTooShort) (Ok (length bytes)))) ≡ refused_as 13 0
      → (n ≤ 65535) × (length out < at + length bytes)
  only_short false true t u e = (ltb-false 65535 n t, ltb-true (length out) (at + length bytes) u)
  only_short true u' t u e = let z : ◌≡◌ {A = ℕ} 12 13 = cc in absurd (omega arith)
  only_short false false t u e = let z : ◌≡◌ {A = ℕ} 0 1 = cc in absurd (omega arith)

pub answers_exactly : AnswersExactly
unfolding write_of put_of
answers_exactly n out at bytes = record {
  long = λ h. ap written_answer (sym (write_over n out at bytes h).0);
  only_long = only_long n out at bytes (ltb 65535 n) (ltb (length out) (at + length bytes)) refl;
  short = λ h k. ap written_answer (sym (write_short n out at bytes h k).0);
  only_short = only_short n out at bytes (ltb 65535 n) (ltb (length out) (at + length bytes)) refl refl;
  fits = λ h k. ap written_answer (sym (write_fits n out at bytes h k).0);
}

-- ---- the calls one after the other

-- a submessage more at the end of what is written
subs_snoc : (done : List Said) (x : Said) → subs_bytes (done ++ (x ∷ [])) ≡ subs_bytes done ++ sub_bytes x.fields x.body
subs_snoc [] x = append-nil (sub_bytes x.fields x.body)
subs_snoc (y ∷ done) x = ap (λ (l : List ℕ). sub_bytes y.fields y.body ++ l) (subs_snoc done x) ∙ sym (append_assoc (sub_bytes y.fields y.body) (subs_bytes done) (sub_bytes x.fields x.body))

written_snoc : (h : MessageHeader) (done : List Said) (x : Said) → written h (done ++ (x ∷ [])) ≡ written h done ++ sub_bytes x.fields x.body
unfolding written
written_snoc h done x = rw (subs_snoc done x) (sym (append_assoc (header_bytes h) (subs_bytes done) (sub_bytes x.fields x.body)))

short_snoc : (done : List Said) (x : Said) → Short done → length (payload_bytes x.fields x.body) ≤ 65535 → Short (done ++ (x ∷ []))
short_snoc [] x s h = (h, tt)
short_snoc (y ∷ done) x s h = (s.0, short_snoc done x s.1 h)

module _ (h : MessageHeader) (out : List ℕ) (at : ℕ) where
  module _ (done : List Said) (x : Said) (room : at + length (written h done) ≤ length out) where
    abbrev one : List ℕ
    one = sub_bytes x.fields x.body

    abbrev payload : ℕ
    payload = length (payload_bytes x.fields x.body)

    abbrev place : ℕ
    place = at + length (written h done)

    abbrev output : List ℕ
    output = put_at out at (written h done)

    abbrev call : (List ℕ → ℕ → Wrote) → Wrote
    call onward = called place (written_answer (write_of payload output place one)) (write_bytes payload output place one) onward

    kept_size : length output ≡ length out
    kept_size = length_put out at (written h done) room

    call_long : (next : List ℕ → ℕ → Wrote) → 65535 < payload → call next ≡ stops 12 output place
    call_long next k = let w = write_over payload output place one k in rw (← w.0, ← w.1)

    call_short : (next : List ℕ → ℕ → Wrote) → payload ≤ 65535 → length out < place + length one → call next ≡ stops 13 output place
    call_short next k s =
        let l = kept_size in
        let w = write_short payload output place one k (omega arith) in
        rw (← w.0, ← w.1)

    call_fits : (next : List ℕ → ℕ → Wrote) → payload ≤ 65535 → place + length one ≤ length out
        → call next ≡ next (put_at out at (written h (done ++ (x ∷ [])))) (at + length (written h (done ++ (x ∷ []))))
    call_fits next k s =
        let l = kept_size in
        let w = write_fits payload output place one k (omega arith) in
        rw (← w.0, ← w.1, put_behind out at (written h done) one (omega arith), add_assoc at (length (written h done)) (length one), ← length-append (written h done) one, ← written_snoc h done x)

  -- from `done` on
  module _ (xs : List Said) where
    onward : (done rest : List Said) → done ++ rest ≡ xs → Short done → at + length (written h done) ≤ length out
        → Leaves h xs out at (writes_subs rest (put_at out at (written h done)) (at + length (written h done)))
    unfolding writes_subs
    onward done [] e s room = let z : done ≡ xs = sym (append-nil done) ∙ e in rw z (whole (rw z at s) (rw z at room))
    onward done (x ∷ rest) e s room =
        elim (dec_le (length (payload_bytes x.fields x.body)) 65535) [
          | yes k ↦
              elim (dec_le (at + length (written h done) + length (sub_bytes x.fields x.body)) (length out)) [
                | yes r ↦
                    let fits : at + length (written h (done ++ (x ∷ []))) ≤ length out =
                    rw (written_snoc h done x, length-append (written h done) (sub_bytes x.fields x.body)) (omega arith) in
                    rw (call_fits done x room (writes_subs rest) k r) (onward (done ++ (x ∷ [])) rest (append_assoc done (x ∷ []) rest ∙ e) (short_snoc done x s k) fits)
                | no r ↦ rw (call_short done x room (writes_subs rest) k (lt_of_not-le r)) (too_short done x rest (sym e) s room k (lt_of_not-le r))
              ]
          | no k ↦ rw (call_long done x room (writes_subs rest) (lt_of_not-le k)) (too_long done x rest (sym e) s room (lt_of_not-le k))
        ]

  header_size : length (header_bytes h) ≡ 4
  unfolding header_bytes le16
  header_size = refl

  alone : written h [] ≡ header_bytes h
  unfolding written
  alone = append-nil (header_bytes h)

  header_fits : (next : List ℕ → ℕ → Wrote) → at + 4 ≤ length out
      → called at (written_answer (put_of out at (header_bytes h))) (put_bytes out at (header_bytes h)) next ≡ next (put_at out at (written h [])) (at + length (written h []))
  header_fits next r =
      let l = header_size in
      let w = put_fits out at (header_bytes h) (omega arith) in
      rw (← w.0, ← w.1, alone)

  header_short : (next : List ℕ → ℕ → Wrote) → length out < at + 4
      → called at (written_answer (put_of out at (header_bytes h))) (put_bytes out at (header_bytes h)) next ≡ stops 13 out at
  header_short next r =
      let l = header_size in
      let w = put_short out at (header_bytes h) (omega arith) in
      rw (← w.0, ← w.1)

pub calls_leave : CallsLeave
unfolding writes
calls_leave h xs out at =
    let l = header_size h out at in
    elim (dec_le (at + 4) (length out)) [
      | yes r ↦ rw (header_fits h out at (writes_subs xs) r) (onward h out at xs [] xs refl tt (rw (alone h out at) (omega arith)))
      | no r ↦ rw (header_short h out at (writes_subs xs) (lt_of_not-le r)) (no_room (lt_of_not-le r))
    ]

-- ---- none refused

subs_split : (done : List Said) (x : Said) (more : List Said) → length (subs_bytes done) + length (sub_bytes x.fields x.body) ≤ length (subs_bytes (done ++ (x ∷ more)))
subs_split [] x more = rw (length-append (sub_bytes x.fields x.body) (subs_bytes more)) (omega arith)
subs_split (y ∷ done) x more =
    let s = subs_split done x more in
    rw (length-append (sub_bytes y.fields y.body) (subs_bytes done), length-append (sub_bytes y.fields y.body) (subs_bytes (done ++ (x ∷ more)))) (omega arith)

written_split : (h : MessageHeader) (done : List Said) (x : Said) (more : List Said)
    → length (written h done) + length (sub_bytes x.fields x.body) ≤ length (written h (done ++ (x ∷ more)))
unfolding written
written_split h done x more =
    let s = subs_split done x more in
    rw (length-append (header_bytes h) (subs_bytes done), length-append (header_bytes h) (subs_bytes (done ++ (x ∷ more)))) (omega arith)

written_header : (h : MessageHeader) (xs : List Said) → 4 ≤ length (written h xs)
unfolding written header_bytes le16
written_header h xs = rw (length-append (header_bytes h) (subs_bytes xs)) (omega arith)

short_split : (done : List Said) (x : Said) (more : List Said) → Short (done ++ (x ∷ more)) → length (payload_bytes x.fields x.body) ≤ 65535
short_split [] x more s = s.0
short_split (y ∷ done) x more s = short_split done x more s.1

not_refused : (h : MessageHeader) (xs : List Said) (out : List ℕ) (at : ℕ) → Short xs → at + length (written h xs) ≤ length out → (w : Wrote) → Leaves h xs out at w
    → w ≡ goes (put_at out at (written h xs)) (at + length (written h xs))
not_refused h xs out at s room w (whole s' room') = refl
not_refused h xs out at s room w (no_room r) = let n = written_header h xs in absurd (omega arith)
not_refused h xs out at s room w (too_long done x more e ok before k) =
    let n : length (payload_bytes x.fields x.body) ≤ 65535 = short_split done x more (rw e at s) in
    absurd (omega arith)
not_refused h xs out at s room w (too_short done x more e ok before k r) =
    let n = written_split h done x more in
    let fits : at + length (written h (done ++ (x ∷ more))) ≤ length out = rw e at room in
    absurd (omega arith)

pub none_refused : NoneRefused
none_refused h xs out at s room = not_refused h xs out at s room (writes h xs out at) (calls_leave h xs out at)

-- ---- what was written is read again

writable : (xs : List Said) → AllRanged xs → Short xs → Writable xs
writable [] r s = tt
writable (x ∷ xs) r s = ((r.0, s.0), writable xs r.1 s.1)

there : (out : List ℕ) (at : ℕ) (bytes : List ℕ) → at + length bytes ≤ length out → take (at + length bytes - at) (drop at (put_at out at bytes)) ≡ bytes
unfolding put_at
there out at bytes room =
    let n : at + length bytes - at ≡ length bytes = omega arith in
    rw (n, append_assoc (take at out) bytes (drop (at + length bytes) out), drop_at (take at out) (bytes ++ drop (at + length bytes) out) at (length-take-le at out (omega arith)))
    (take-append_seam bytes (drop (at + length bytes) out))

left_reads : (h : MessageHeader) (x : Said) (xs : List Said) (out : List ℕ) (at : ℕ) (output : List ℕ) (place : ℕ) → HeaderRanged h → AllRanged (x ∷ xs)
    → Leaves h (x ∷ xs) out at (goes output place) → reading (take (place - at) (drop at output)) ≡ says h (map kept (x ∷ xs))
left_reads h x xs out at output place r rs (whole s room) =
    rw (there out at (written h (x ∷ xs)) room) (reads_back h x xs r (writable (x ∷ xs) rs s))

pub calls_read_back : CallsReadBack
calls_read_back h x xs out at output place r rs e = left_reads h x xs out at output place r rs (rw e at (calls_leave h (x ∷ xs) out at))

pub message_written : MessageWritten
unfolding message_bytes written
message_written h x = rw (append-nil (sub_bytes x.fields x.body))
