-- What is held under a number is the message of the last DATA reply that took it; so is what an ACKNACK repeats.
use Rattle.std.specs.Prelude.{Option, None, Some}
use Rattle.std.proofs.Common.{◌≡◌, ℕ, zero, suc, ◌+◌, ◌<◌, ◌≤◌, Bool, true, false, cond, eqb, List, [], ◌∷◌, ◌++◌, length, sym, refl, ap, ◌∙◌, ⊎_elim, append-nil, eq-or-lt_of_le, arith, length-append, eq-eqb, ne_eqb, eqb-true}
use mathlib.Core.List.Memᴰ
use mathlib.Core.List.{Memᴰ}
use borrow.Author.Tests.{eqb-false}
use Rattle.std.specs.List.{slice_get}
use lib.Seq.{append_snoc}
use Rattle.streams.specs.Sequence.{plus, seq_lt}
use Rattle.streams.specs.Acknowledged.{bit_of}
use Rattle.streams.specs.View.{Kept, fresh_of, sent_in, acknack_in, receive_in, list_of, repeated_from, repeated_in}
use Rattle.streams.specs.Repeats.{Event, sent, acknacked, received, on_event, on_events, data_of, number_of, LastUnder, AskedLast, Spared, RepeatsAsSent}
use Rattle.streams.proofs.Kept.{receive_spares}

-- ---- an element of a list, and of one with an element more

module _ {A : Type 0} where
  before_more : (l r : List A) (k : ℕ) (x : A) → slice_get l k ≡ Some x → slice_get (l ++ r) k ≡ Some x
  before_more [] r k x e = absurd (let z : ◌≡◌ {A = ℕ} 0 1 = cc in omega arith)
  before_more (a ∷ l) r zero x e = e
  before_more (a ∷ l) r (suc k) x e = before_more l r k x e

  the_last : (l : List A) (y : A) → slice_get (l ++ (y ∷ [])) (length l) ≡ Some y
  the_last [] y = refl
  the_last (a ∷ l) y = the_last l y

-- ---- what is known of a stream, by the DATA replies so far

abbrev Known : {A : Type 0} → Kept A → List A → Type 0
Known {A} k messages = (k.next ≡ number_of (length messages)) × ((n : ℕ) (x : A) → k.held n ≡ Some x → LastUnder n x messages)

-- one event more
module _ {A : Type 0} (k : Kept A) (messages : List A) (known : Known k messages) where
  known_sent : (y : A) → Known (sent_in y k) (messages ++ (y ∷ []))
  known_sent y = (rw known.0 (omega (arith, longer)), λ n x e. by n x (eqb n k.next) refl e)
    where
      longer : length (messages ++ (y ∷ [])) ≡ length messages + 1
      longer = length-append messages (y ∷ [])

      by : (n : ℕ) (x : A) (b : Bool) → eqb n k.next ≡ b → cond b (Some y) (k.held n) ≡ Some x → LastUnder n x (messages ++ (y ∷ []))
      by n x true t e = record {
        k = length messages;
        message = the_last messages y ∙ e;
        number = sym known.0 ∙ sym (eqb-true n k.next t);
        last = λ j h l f. omega (arith, longer);
      }
      by n x false t e =
          let u = known.1 n x e in record {
            k = u.k;
            message = before_more messages (y ∷ []) u.k x u.message;
            number = u.number;
            last = λ j h l f.
                let most : j ≤ length messages = omega (arith, longer) in
                ⊎_elim
                (λ same. eqb-false n k.next t (sym f ∙ ap number_of same ∙ sym known.0))
                (λ less. u.last j h less f)
                (eq-or-lt_of_le most);
          }

  -- an ACKNACK only drops messages, and a message that comes leaves them
  known_acknacked : (first : ℕ) → Known (acknack_in first k) messages
  known_acknacked first = (known.0, λ n x e. by n x (seq_lt n first) e)
    where
      by : (n : ℕ) (x : A) (b : Bool) → cond b None (k.held n) ≡ Some x → LastUnder n x messages
      by n x true e = absurd (let z : ◌≡◌ {A = ℕ} 0 1 = cc in omega arith)
      by n x false e = known.1 n x e

  known_received : (m : ℕ) → Known (receive_in m k) messages
  known_received m = let same = receive_spares k m in (same.0 ∙ known.0, λ n x e. known.1 n x (sym (same.1 n) ∙ e))

all_known : {A : Type 0} (es : List (Event A)) (k : Kept A) (messages : List A) → Known k messages → Known (on_events es k) (messages ++ data_of es)
unfolding on_events on_event data_of
all_known [] k messages known = rw (append-nil messages) known
all_known (sent y ∷ es) k messages known =
    rw (← append_snoc messages y (data_of es)) (all_known es (sent_in y k) (messages ++ (y ∷ [])) (known_sent k messages known y))
all_known (acknacked first bitmap ∷ es) k messages known = all_known es (acknack_in first k) messages (known_acknacked k messages known first)
all_known (received m ∷ es) k messages known = all_known es (receive_in m k) messages (known_received k messages known m)

-- ---- a message stays held while its number is neither acknowledged nor taken again

-- the numbers from m on that so many DATA replies take
abbrev Elsewhere : ℕ → ℕ → ℕ → Type 0
Elsewhere n m count = (j : ℕ) → j < count → number_of (m + j) ≡ n → ⊥

module _ {A : Type 0} (n : ℕ) (x : A) where
  stays : (es : List (Event A)) (k : Kept A) (m : ℕ) → k.held n ≡ Some x → k.next ≡ number_of m → Elsewhere n m (length (data_of es)) → Spared n es
      → (on_events es k).held n ≡ Some x
  unfolding on_events on_event data_of
  stays [] k m e next free spared = e
  stays (sent y ∷ es) k m e next free spared =
      stays es (sent_in y k) (m + 1)
      (rw (ne_eqb n k.next (λ z. free 0 (omega arith) (omega arith))) e)
      (rw next (omega arith))
      (λ j h f. free (j + 1) (omega arith) (omega arith))
      (λ first bitmap i. spared first bitmap (Memᴰ.tail i))
  stays (acknacked first bitmap ∷ es) k m e next free spared =
      stays es (acknack_in first k) m (rw (spared first bitmap (Memᴰ.head refl)) e) next free (λ f b i. spared f b (Memᴰ.tail i))
  stays (received c ∷ es) k m e next free spared =
      let same = receive_spares k c in
      stays es (receive_in c k) m (same.1 n ∙ e) (same.0 ∙ next) free (λ f b i. spared f b (Memᴰ.tail i))

one_behind_other : {A : Type 0} (es fs : List (Event A)) (k : Kept A) → on_events (es ++ fs) k ≡ on_events fs (on_events es k)
unfolding on_events
one_behind_other [] fs k = refl
one_behind_other (e ∷ es) fs k = one_behind_other es fs (on_event e k)

-- ---- what is repeated is held under the number of a bit that is set

module _ {A : Type 0} (held : ℕ → Option A) (first bitmap : ℕ) (x : A) (messages : List A)
    (each : (n : ℕ) → held n ≡ Some x → LastUnder n x messages) where
  asked_from : (k bit : ℕ) → bit + k ≤ 16 → Memᴰ x (repeated_from held first bitmap k bit) → AskedLast first bitmap x messages
  unfolding repeated_from
  asked_from zero bit h i = absurd (Memᴰ.not-nil i)
  asked_from (suc k) bit h i = ⊎_elim (here (bit_of bitmap bit) refl (held (plus first bit)) refl) (asked_from k (suc bit) (omega arith)) (Memᴰ.append_cases _ i)
    where
      here : (b : Bool) → bit_of bitmap bit ≡ b → (o : Option A) → held (plus first bit) ≡ o → Memᴰ x (cond b (list_of o) []) → AskedLast first bitmap x messages
      here true t (Some y) e j = record {
        bit = bit;
        low = omega arith;
        asked = t;
        message = each (plus first bit) (e ∙ ap Some (sym (Memᴰ.eq_of_singleton j)));
      }
      here true t None e j = absurd (Memᴰ.not-nil j)
      here false t o e j = absurd (Memᴰ.not-nil j)

-- ---- from a stream that was just opened

fresh_known : {A : Type 0} (id : ℕ) → Known (fresh_of {A = A} id) []
fresh_known id = (refl, λ n x e. absurd (let z : ◌≡◌ {A = ℕ} 0 1 = cc in omega arith))

pub repeats_as_sent : {A : Type 0} (id : ℕ) (es : List (Event A)) → RepeatsAsSent id es
unfolding repeated_in on_events on_event
repeats_as_sent {A} id es =
    let known = all_known es (fresh_of id) [] (fresh_known id) in record {
      next = known.0;
      held = known.1;
      kept = λ before behind x e few spared.
          let k = on_events before (fresh_of id) in
          let l = length (data_of before) in
          let at = (all_known before (fresh_of id) [] (fresh_known id)).0 in
          ap (λ (fs : List (Event A)). (on_events fs (fresh_of id)).held (number_of l)) e
          ∙ ap (λ (then : Kept A). then.held (number_of l)) (one_behind_other before (sent x ∷ behind) (fresh_of id))
          ∙ stays (number_of l) x behind (sent_in x k) (l + 1) (rw (at, eq-eqb (number_of l) (number_of l) refl)) (rw at (omega arith)) (λ j h f. omega arith) spared;
      repeated = λ first bitmap x i. asked_from (acknack_in first (on_events es (fresh_of id))).held first bitmap x (data_of es)
          (λ n. (known_acknacked (on_events es (fresh_of id)) (data_of es) known first).1 n x) 16 0 (omega arith) i;
    }
