-- The two strings behind a Topic's CREATE, as parts of the datagram.
use Rattle.std.specs.Prelude.{ℕ, ◌+◌, List, Err, None, Ok, Option, Result, Some}
use Rattle.codec.specs.Reading.{part_of}
use Rattle.codec.specs.Strings.{string_at}
use Rattle.codec.specs.declared.layouts.Span.{Span}
use Rattle.codec.specs.declared.refusals.Refusal.{Refusal}

-- a part of the body as a part of the datagram
abbrev pub placed_in : Span → Span → Span
placed_in body x = record { start = body.start + x.start; len = x.len }

-- "Topic: name and type are two strings"; W7: they can't be read where either is "cut short or ill-formed"
abbrev pub type_after : Span → Span → Result Span Refusal → Option (Span × Span)
type_after body name (Ok type) = Some ((placed_in body name), (placed_in body type))
type_after body name (Err r) = None

abbrev pub name_then : List ℕ → Span → Result Span Refusal → Option (Span × Span)
name_then d body (Ok name) = type_after body name (string_at (part_of d body) (name.start + name.len))
name_then d body (Err r) = None

unfoldable pub names_in : List ℕ → Span → Option (Span × Span)
names_in d body = name_then d body (string_at (part_of d body) 0)
