-- Laws of where a stream is.
use Prim.Native.Nat.{ℕ, ◌<◌, ◌≤◌}
use mathlib.Core.Path.{◌≡◌, refl, sym, ap, subst}
use mathlib.Core.Bool.{Bool, true, false, cond}
use mathlib.Core.List.{List}
use native.Mathlib.Omega.{arith}
use borrow.Author.Tests.{ltb-true, leb-false}
use lib.Dec.{leb, ltb}
use lib.ListN.{length}
use Rattle.std.specs.Option.{MatchOption, unwrap_or}
use Rattle.std.specs.Prelude.{None, Option, Some}
use Rattle.streams.specs.Places.{first_from}
use Rattle.streams.proofs.places.Laws.{never, found_from, before_from, most_from}
use Rattle.sessions.specs.Streams.{first_stream}
use Rattle.sessions.specs.SessionStreams.{streams_used, streams_named, is_stream, place_by, stream_place, one_of_eight}
use Rattle.sessions.proofs.table.Laws.{live_fits}
use Rattle.sessions.specs.declared.session_streams.StreamPlace.{StreamPlace}
use Rattle.sessions.specs.declared.session_streams.StreamPlace.TheVariants.{Have, Add, Full}
use Rattle.std.specs.Prelude.{Err, Ok, Result}
use Rattle.codec.specs.declared.refusals.Refusal.{Refusal}

module _ (sessions streams : List (List ℕ)) (id : ℕ) where
  pub streams_few : streams_named sessions (length streams) id ≡ (Ok true) → streams_used sessions id ≤ 8
  unfolding streams_named
  streams_few e = (live_fits sessions id (streams_used sessions id) 8 (length streams) 2048 e).count

  module _ (n : ℕ) where
    pub place_is : (w : Result Bool Refusal) → streams_named sessions (length streams) id ≡ w → place_by w sessions streams id n ≡ stream_place sessions streams id n
    unfolding stream_place
    place_is w e = ap (λ (v : Result Bool Refusal). place_by v sessions streams id n) (sym e)

    -- a place is one of eight
    all_small : one_of_eight (stream_place sessions streams id n)
    unfolding stream_place
    all_small = by (streams_named sessions (length streams) id) refl
      where
        used : ℕ
        used = streams_used sessions id

        room : (b : Bool) → leb 8 used ≡ b → one_of_eight (cond b (Ok Full) (Ok (Add used)))
        room true p = tt
        room false p = leb-false 8 used p

        place : (j : ℕ) (b : Bool) → ltb j used ≡ b → used ≤ 8 → one_of_eight (cond b (Ok (Have j)) (cond (leb 8 used) (Ok Full) (Ok (Add used))))
        place j true p u = omega (arith, ltb-true j used p)
        place j false p u = room (leb 8 used) refl

        by : (w : Result Bool Refusal) → streams_named sessions (length streams) id ≡ w → one_of_eight (place_by w sessions streams id n)
        by (Ok true) e = let j = first_from (is_stream streams (first_stream id) n) used 0 in place j (ltb j used) refl (streams_few e)
        by (Ok false) e = tt
        by (Err r) e = tt

    pub place_small : (w : Result StreamPlace Refusal) → w ≡ stream_place sessions streams id n → one_of_eight w
    place_small w e = subst one_of_eight (sym e) all_small

-- what `find` gives over n places is the first of them at which a test holds, or the one behind them
module _ (t : ℕ → Bool) (n : ℕ) where
  pub found_first : (r : Option ℕ) → MatchOption r ((k : ℕ) → 0 ≤ k → k < n → t k ≡ false) (λ i. (0 ≤ i) × (i < n) × (t i ≡ true) × ((k : ℕ) → 0 ≤ k → k < i → t k ≡ false))
      → unwrap_or r n ≡ first_from t n 0
  found_first None none =
      let f = first_from t n 0 in
      let most = most_from t n 0 in
      let miss : f < n → ⊥ = λ h. never (found_from t n 0 (omega arith)) (none f (omega arith) h) in
      omega arith
  found_first (Some i) some =
      let f = first_from t n 0 in
      let low : i < f → ⊥ = λ h. never some.2 (before_from t n 0 i (omega arith) h) in
      let inside : i < n = some.1 in
      let high : f < i → ⊥ = λ h. never (found_from t n 0 (omega arith)) (some.3 f (omega arith) h) in
      omega arith
