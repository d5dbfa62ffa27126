-- The place of an open call in its datagram: what is left of it from there on.
use Rattle.std.specs.Prelude.{ℕ, List, [], map}
use Rattle.codec.specs.Reading.{Items, items, stopped, items_at}
use Rattle.codec.specs.Grammar.{said_in}
use Rattle.isolation.specs.Rules.{Sub}
use Rattle.agent.specs.Brings.{Opening, In, in_of, sub_of}
use Rattle.agent.specs.declared.state.Moment.{Moment}

abbrev pub subs_from : Moment → ℕ → List ℕ → Items → List (Sub Opening In)
subs_from moment stream s (items xs) = map (λ x. sub_of moment stream (said_in s x)) xs
subs_from moment stream s (stopped r) = []

-- the submessages from a place of a datagram on: an open call's `rest`, where its place is the one behind its submessage
abbrev pub subs_at : Moment → ℕ → List ℕ → ℕ → List (Sub Opening In)
subs_at moment stream s at = subs_from moment stream s (items_at s at)

-- W6: the rebuilt submessages from a place of their bytes on: what waits behind an open call
abbrev pub ins_from : Moment → ℕ → List ℕ → Items → List In
ins_from moment stream s (items xs) = map (λ x. let y = said_in s x in in_of moment stream y.fields y.body) xs
ins_from moment stream s (stopped r) = []

abbrev pub ins_at : Moment → ℕ → List ℕ → ℕ → List In
ins_at moment stream s at = ins_from moment stream s (items_at s at)
