-- A loop over submessages, one turn at a time: of a datagram, of rebuilt bytes (W6), of a leg; and what a loop of the code keeps, whatever its turns are.
use Prim.Native.Nat.{ℕ, zero, suc, ◌+◌, ◌-◌, ◌≤◌, ◌<◌}
use mathlib.Core.Path.{◌≡◌, refl, sym, ap, ◌∙◌, subst}
use mathlib.Core.Bool.{Bool, true, false, cond}
use mathlib.Core.List.{List, [], ◌++◌}
use native.Mathlib.Omega.{arith}
use Rattle.agent.specs.Step.{Reply}
use Rattle.agent.specs.Run.{count_replies, put_replies}
use Rattle.agent.specs.declared.turn.Ran.{Ran}
use Rattle.agent.proofs.Counted.{count_behind, put_replies_behind}

-- S: the stores that it works over; X: what a turn leaves of them, with the run so far and its replies
pub record Loop (S X : Type 0) : Type 0 where
  pub len : ℕ
  pub room : ℕ
  pub goes : Ran → S → Bool
  pub turn : Ran → S → X
  pub ran : X → Ran
  pub state : X → S
  pub replies : X → List Reply
  pub still : Ran → S → X
  pub join : X → X → X
  pub all : ℕ → Ran → S → X
  pub whole : Ran → S → X
  pub still_is : (r : Ran) (s : S) → (ran (still r s) ≡ r) × (state (still r s) ≡ s) × (replies (still r s) ≡ [])
  pub join_is : (x y : X) → (ran (join x y) ≡ ran y) × (state (join x y) ≡ state y) × (replies (join x y) ≡ replies x ++ replies y)
  pub none_left : (r : Ran) (s : S) → all zero r s ≡ still r s
  pub one_more : (n : ℕ) (r : Ran) (s : S) → all (suc n) r s ≡ cond (goes r s) (join (turn r s) (all n (ran (turn r s)) (state (turn r s)))) (still r s)
  pub whole_is : (r : Ran) (s : S) → whole r s ≡ all (len - r.at) r s
  pub within : (r : Ran) (s : S) → goes r s ≡ true → r.at < len
  pub ahead : (r : Ran) (s : S) → goes r s ≡ true → r.at < (ran (turn r s)).at
  pub told : (r : Ran) (s : S) → goes r s ≡ true → (ran (turn r s)).wrote ≡ count_replies room r.wrote (replies (turn r s))

module _ {S X : Type 0} (l : Loop S X) where
  -- ---- one turn at a time

  abbrev further : (r : Ran) (s : S) → X → X
  further r s y = l.join (l.turn r s) y

  abbrev behind : ℕ → (r : Ran) (s : S) → X
  behind n r s = l.all n (l.ran (l.turn r s)) (l.state (l.turn r s))

  in_end : (n : ℕ) (r : Ran) (s : S) → l.goes r s ≡ false → l.all n r s ≡ l.still r s
  in_end zero r s e = l.none_left r s
  in_end (suc n) r s e = l.one_more n r s ∙ ap (λ (b : Bool). cond b (further r s (behind n r s)) (l.still r s)) e

  in_more : (n : ℕ) (r : Ran) (s : S) → l.goes r s ≡ true → l.all (suc n) r s ≡ further r s (behind n r s)
  in_more n r s e = l.one_more n r s ∙ ap (λ (b : Bool). cond b (further r s (behind n r s)) (l.still r s)) e

  ends_past : (r : Ran) (s : S) → l.len ≤ r.at → l.goes r s ≡ false
  ends_past r s h = go (l.goes r s) refl
    where
      go : (b : Bool) → l.goes r s ≡ b → l.goes r s ≡ false
      go true e = let w = l.within r s e in absurd (omega (arith, w, h))
      go false e = e

  -- any count that is large enough gives the same
  fuel : (k j : ℕ) (r : Ran) (s : S) → l.len - r.at ≤ k → l.len - r.at ≤ j → l.all k r s ≡ l.all j r s
  fuel zero j r s hk hj = let e = ends_past r s (omega (arith, hk)) in in_end zero r s e ∙ sym (in_end j r s e)
  fuel (suc k) zero r s hk hj = let e = ends_past r s (omega (arith, hj)) in in_end (suc k) r s e ∙ sym (in_end zero r s e)
  fuel (suc k) (suc j) r s hk hj = go (l.goes r s) refl (λ r s a b. fuel k j r s a b)
    where
      go : (b : Bool) → l.goes r s ≡ b → ((r : Ran) (s : S) → l.len - r.at ≤ k → l.len - r.at ≤ j → l.all k r s ≡ l.all j r s) → l.all (suc k) r s ≡ l.all (suc j) r s
      go true e same =
          let h = l.within r s e in
          let a = l.ahead r s e in
          in_more k r s e ∙ (ap (further r s) (same (l.ran (l.turn r s)) (l.state (l.turn r s)) (omega (arith, a, h, hk)) (omega (arith, a, h, hj))) ∙ sym (in_more j r s e))
      go false e same = in_end (suc k) r s e ∙ sym (in_end (suc j) r s e)

  pub whole_end : (r : Ran) (s : S) → l.goes r s ≡ false → l.whole r s ≡ l.still r s
  whole_end r s e = l.whole_is r s ∙ in_end (l.len - r.at) r s e

  pub whole_more : (r : Ran) (s : S) → l.goes r s ≡ true → l.whole r s ≡ l.join (l.turn r s) (l.whole (l.ran (l.turn r s)) (l.state (l.turn r s)))
  whole_more r s e =
      let h = l.within r s e in
      let a = l.ahead r s e in
      let x = l.turn r s in
      let n = l.len - (r.at + 1) in
      let c : l.len - r.at ≡ suc n = omega (arith, h) in
      l.whole_is r s
      ∙ (ap (λ (k : ℕ). l.all k r s) c
      ∙ (in_more n r s e ∙ ap (further r s) (fuel n (l.len - (l.ran x).at) (l.ran x) (l.state x) (omega (arith, a)) (omega arith) ∙ sym (l.whole_is (l.ran x) (l.state x)))))

  -- ---- what is counted is what is replied

  abbrev Told : Ran → X → Type 0
  Told r x = (l.ran x).wrote ≡ count_replies l.room r.wrote (l.replies x)

  none_told : (r : Ran) (s : S) → Told r (l.still r s)
  unfolding count_replies
  none_told r s = let e = l.still_is r s in ap (λ (x : Ran). x.wrote) e.0 ∙ sym (ap (count_replies l.room r.wrote) e.2)

  both_told : (r : Ran) (x y : X) → Told r x → Told (l.ran x) y → Told r (l.join x y)
  both_told r x y a b =
      let e = l.join_is x y in
      ap (λ (z : Ran). z.wrote) e.0
      ∙ (b ∙ (ap (λ (w : ℕ). count_replies l.room w (l.replies y)) a
      ∙ (sym (count_behind l.room r.wrote (l.replies x) (l.replies y)) ∙ sym (ap (count_replies l.room r.wrote) e.2))))

  in_told : (n : ℕ) (r : Ran) (s : S) → Told r (l.all n r s)
  in_told zero r s = subst (Told r) (sym (l.none_left r s)) (none_told r s)
  in_told (suc n) r s = go (l.goes r s) refl (in_told n (l.ran (l.turn r s)) (l.state (l.turn r s)))
    where
      go : (b : Bool) → l.goes r s ≡ b → Told (l.ran (l.turn r s)) (behind n r s) → Told r (l.all (suc n) r s)
      go true e rest = subst (Told r) (sym (in_more n r s e)) (both_told r (l.turn r s) (behind n r s) (l.told r s e) rest)
      go false e rest = subst (Told r) (sym (in_end (suc n) r s e)) (none_told r s)

  pub whole_told : (r : Ran) (s : S) → (l.ran (l.whole r s)).wrote ≡ count_replies l.room r.wrote (l.replies (l.whole r s))
  whole_told r s = subst (Told r) (sym (l.whole_is r s)) (in_told (l.len - r.at) r s)

  -- it goes no way back, and on where it goes on at all
  in_further : (n : ℕ) (r : Ran) (s : S) → r.at ≤ (l.ran (l.all n r s)).at
  in_further zero r s = let e = ap (λ (x : X). (l.ran x).at) (l.none_left r s) ∙ ap (λ (v : Ran). v.at) (l.still_is r s).0 in omega (arith, e)
  in_further (suc n) r s = go (l.goes r s) refl (in_further n (l.ran (l.turn r s)) (l.state (l.turn r s)))
    where
      go : (b : Bool) → l.goes r s ≡ b → (l.ran (l.turn r s)).at ≤ (l.ran (behind n r s)).at → r.at ≤ (l.ran (l.all (suc n) r s)).at
      go true e rest =
          let a = l.ahead r s e in
          let m = ap (λ (x : X). (l.ran x).at) (in_more n r s e) ∙ ap (λ (v : Ran). v.at) (l.join_is (l.turn r s) (behind n r s)).0 in
          omega (arith, a, m, rest)
      go false e rest = let m = ap (λ (x : X). (l.ran x).at) (in_end (suc n) r s e) ∙ ap (λ (v : Ran). v.at) (l.still_is r s).0 in omega (arith, m)

  pub whole_further : (r : Ran) (s : S) → l.goes r s ≡ true → r.at < (l.ran (l.whole r s)).at
  whole_further r s e =
      let x = l.turn r s in
      let a = l.ahead r s e in
      let y = l.whole (l.ran x) (l.state x) in
      let m = ap (λ (z : X). (l.ran z).at) (whole_more r s e) ∙ ap (λ (v : Ran). v.at) (l.join_is x y).0 in
      let w = ap (λ (z : X). (l.ran z).at) (l.whole_is (l.ran x) (l.state x)) in
      let b = in_further (l.len - (l.ran x).at) (l.ran x) (l.state x) in
      omega (arith, a, m, w, b)

  -- where it ends it doesn't go on
  still_ended : (n : ℕ) (r : Ran) (s : S) → l.goes r s ≡ false → l.goes (l.ran (l.all n r s)) (l.state (l.all n r s)) ≡ false
  still_ended n r s e =
      let k = l.still_is r s in
      ap (λ (x : X). l.goes (l.ran x) (l.state x)) (in_end n r s e) ∙ (ap (λ (v : Ran). l.goes v (l.state (l.still r s))) k.0 ∙ (ap (l.goes r) k.1 ∙ e))

  in_ended : (n : ℕ) (r : Ran) (s : S) → l.len - r.at ≤ n → l.goes (l.ran (l.all n r s)) (l.state (l.all n r s)) ≡ false
  in_ended zero r s h = still_ended zero r s (ends_past r s (omega (arith, h)))
  in_ended (suc n) r s h = go (l.goes r s) refl (λ k. in_ended n (l.ran (l.turn r s)) (l.state (l.turn r s)) k)
    where
      go : (b : Bool) → l.goes r s ≡ b → (l.len - (l.ran (l.turn r s)).at ≤ n → l.goes (l.ran (behind n r s)) (l.state (behind n r s)) ≡ false)
          → l.goes (l.ran (l.all (suc n) r s)) (l.state (l.all (suc n) r s)) ≡ false
      go true e rest =
          let w = l.within r s e in
          let a = l.ahead r s e in
          let j = l.join_is (l.turn r s) (behind n r s) in
          let k = rest (omega (arith, a, w, h)) in
          ap (λ (x : X). l.goes (l.ran x) (l.state x)) (in_more n r s e) ∙ (ap (λ (v : Ran). l.goes v (l.state (further r s (behind n r s)))) j.0 ∙ (ap (l.goes (l.ran (behind n r s))) j.1 ∙ k))
      go false e rest = still_ended (suc n) r s e

  pub whole_ended : (r : Ran) (s : S) → l.goes (l.ran (l.whole r s)) (l.state (l.whole r s)) ≡ false
  whole_ended r s = ap (λ (x : X). l.goes (l.ran x) (l.state x)) (l.whole_is r s) ∙ in_ended (l.len - r.at) r s (omega arith)

-- ---- the loop: what is left from here is what was to be done from the start

-- a loop as far as its code goes: what it does is its first turn and what it does from there
pub record Steps (S X : Type 0) : Type 0 where
  pub len : ℕ
  pub room : ℕ
  pub goes : Ran → S → Bool
  pub turn : Ran → S → X
  pub ran : X → Ran
  pub state : X → S
  pub replies : X → List Reply
  pub whole : Ran → S → X
  pub ends : (r : Ran) (s : S) → goes r s ≡ false → (ran (whole r s) ≡ r) × (state (whole r s) ≡ s) × (replies (whole r s) ≡ [])
  pub goes_on : (r : Ran) (s : S) → goes r s ≡ true
      → let x = turn r s in let y = whole (ran x) (state x) in (ran (whole r s) ≡ ran y) × (state (whole r s) ≡ state y) × (replies (whole r s) ≡ replies x ++ replies y)
  pub within : (r : Ran) (s : S) → goes r s ≡ true → r.at < len
  pub ahead : (r : Ran) (s : S) → goes r s ≡ true → r.at < (ran (turn r s)).at
  pub told : (r : Ran) (s : S) → goes r s ≡ true → (ran (turn r s)).wrote ≡ count_replies room r.wrote (replies (turn r s))

module _ {S X : Type 0} (l : Loop S X) where
  pub its_ends : (r : Ran) (s : S) → l.goes r s ≡ false → (l.ran (l.whole r s) ≡ r) × (l.state (l.whole r s) ≡ s) × (l.replies (l.whole r s) ≡ [])
  its_ends r s e =
      let m = whole_end l r s e in
      let k = l.still_is r s in
      (ap l.ran m ∙ k.0, ap l.state m ∙ k.1, ap l.replies m ∙ k.2)

  pub its_more : (r : Ran) (s : S) → l.goes r s ≡ true
      → let x = l.turn r s in let y = l.whole (l.ran x) (l.state x) in (l.ran (l.whole r s) ≡ l.ran y) × (l.state (l.whole r s) ≡ l.state y) × (l.replies (l.whole r s) ≡ l.replies x ++ l.replies y)
  its_more r s e =
      let m = whole_more l r s e in
      let j = l.join_is (l.turn r s) (l.whole (l.ran (l.turn r s)) (l.state (l.turn r s))) in
      (ap l.ran m ∙ j.0, ap l.state m ∙ j.1, ap l.replies m ∙ j.2)

  abbrev pub steps_of : Steps S X
  steps_of =
      record {
        len = l.len;
        room = l.room;
        goes = l.goes;
        turn = l.turn;
        ran = l.ran;
        state = l.state;
        replies = l.replies;
        whole = l.whole;
        ends = its_ends;
        goes_on = its_more;
        within = l.within;
        ahead = l.ahead;
        told = l.told;
      }

pub record Left {S X : Type 0} (l : Steps S X) (start : Ran) (t : S) (out : List ℕ) (r : Ran) (t' : S) (w : List ℕ) : Type 0 where
  pub ran : l.ran (l.whole r t') ≡ l.ran (l.whole start t)
  pub state : l.state (l.whole r t') ≡ l.state (l.whole start t)
  pub written : put_replies l.room w r.wrote (l.replies (l.whole r t')) ≡ put_replies l.room out start.wrote (l.replies (l.whole start t))

module _ {S X : Type 0} (l : Steps S X) (start : Ran) (t : S) (out : List ℕ) where
  pub left_start : Left l start t out start t out
  left_start = record { ran = refl; state = refl; written = refl }

  module _ (r : Ran) (t' : S) (w : List ℕ) (left : Left l start t out r t' w) where
    abbrev next : X
    next = l.turn r t'

    abbrev rest : X
    rest = l.whole (l.ran next) (l.state next)

    pub left_again : l.goes r t' ≡ true → Left l start t out (l.ran next) (l.state next) (put_replies l.room w r.wrote (l.replies next))
    left_again e =
        let m = l.goes_on r t' e in
        record {
          ran = sym m.0 ∙ left.ran;
          state = sym m.1 ∙ left.state;
          written = ap (λ (n : ℕ). put_replies l.room (put_replies l.room w r.wrote (l.replies next)) n (l.replies rest)) (l.told r t' e)
              ∙ (sym (put_replies_behind l.room w r.wrote (l.replies next) (l.replies rest)) ∙ (ap (put_replies l.room w r.wrote) (sym m.2) ∙ left.written));
        }

    pub left_less : l.goes r t' ≡ true → l.len - (l.ran next).at < l.len - r.at
    left_less e =
        let h = l.within r t' e in
        let a = l.ahead r t' e in
        omega (arith, h, a)

    pub left_end : l.goes r t' ≡ false
        → (r ≡ l.ran (l.whole start t)) × (t' ≡ l.state (l.whole start t)) × (w ≡ put_replies l.room out start.wrote (l.replies (l.whole start t)))
    unfolding put_replies
    left_end e =
        let k = l.ends r t' e in
        (sym k.0 ∙ left.ran, sym k.1 ∙ left.state, ap (put_replies l.room w r.wrote) (sym k.2) ∙ left.written)
