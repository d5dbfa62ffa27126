-- A stream that is read has the number that it is read under, whatever the host has put into the lent rows.
use Prim.Native.Nat.{ℕ}
use mathlib.Core.Path.{◌≡◌, refl}
use mathlib.Core.Bool.{Bool, true, false, cond}
use mathlib.Core.List.{List}
use native.Mathlib.Omega.{arith}
use borrow.Author.Tests.{eqb-true, ltb-true}
use lib.Dec.{leb, ltb}
use lib.ListN.{length}
use Rattle.streams.specs.Places.{first_from}
use Rattle.streams.specs.declared.state.StreamState.{StreamState}
use Rattle.streams.proofs.places.Laws.{found_from}
use Rattle.sessions.specs.Need.{most_streams}
use Rattle.sessions.specs.Streams.{first_stream}
use Rattle.sessions.specs.SessionStreams.{streams_used, streams_named, is_stream, place_by, stream_place, named_as, state_at, read_as}
use Rattle.sessions.specs.declared.session_streams.StreamNamed.{StreamNamed}
use Rattle.sessions.specs.declared.session_streams.StreamNamed.TheVariants as stream
use Rattle.sessions.specs.declared.session_streams.StreamPlace.{StreamPlace}
use Rattle.sessions.specs.declared.session_streams.StreamPlace.TheVariants.{Have, Add, Full}
use Rattle.std.specs.Prelude.{Err, Ok, Result}
use Rattle.codec.specs.declared.refusals.Refusal.{Refusal}

-- a stream that is open has number n
abbrev pub Numbered : ℕ → Result StreamNamed Refusal → StreamState → Type 0
Numbered n (Ok stream.Open) s = s.stream_id ≡ n
Numbered n (Ok stream.NotOpen) s = Unit {0}
Numbered n (Ok stream.NotLive) s = Unit {0}
Numbered n (Err r) s = Unit {0}

module _ (sessions streams : List (List ℕ)) (id n : ℕ) where
  abbrev NumberedAt : Result StreamPlace Refusal → Type 0
  NumberedAt p = Numbered n (named_as p) (state_at p streams id)

  used : ℕ
  used = streams_used sessions id

  found : ℕ
  found = first_from (is_stream streams (first_stream id) n) used 0

  placed : (b : Bool) → ltb found used ≡ b → NumberedAt (cond b (Ok (Have found)) (cond (leb most_streams used) (Ok Full) (Ok (Add used))))
  unfolding found
  placed true e =
      let l = ltb-true found used e in
      eqb-true _ n (found_from (is_stream streams (first_stream id) n) used 0 (omega (arith, l)))
  placed false e = by (leb most_streams used)
    where
      by : (b : Bool) → NumberedAt (cond b (Ok Full) (Ok (Add used)))
      by true = tt
      by false = tt

  pub read_number : let r = read_as (stream_place sessions streams id n) streams id in Numbered n r.answer r.state
  unfolding stream_place used found
  read_number = by (streams_named sessions (length streams) id)
    where
      by : (w : Result Bool Refusal) → NumberedAt (place_by w sessions streams id n)
      by (Ok true) = placed (ltb found used) refl
      by (Ok false) = tt
      by (Err r) = tt
