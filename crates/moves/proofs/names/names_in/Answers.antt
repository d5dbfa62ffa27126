-- `moves::names::names_in` meets its contract.
use Rattle.std.proofs.Common.{◌≡◌, ◌+◌, ◌≤◌, length, ℕ, List, Result, Ok, Err, Some, sym, ap, ◌∙◌, arith}
use Rattle.std.specs.Result.{result_ok}
use Rattle.codec.specs.Reading.{part_of}
use Rattle.codec.specs.Strings.{string_at}
use Rattle.codec.specs.declared.layouts.Span.{Span}
use Rattle.codec.specs.declared.refusals.Refusal.{Refusal}
use Rattle.moves.proofs.Strings.{part_within, string_within}
use Rattle.moves.proofs.names.names_in.Goals as goal

-- a string that was read in a part of the datagram ends within the datagram
within : (d : List ℕ) (body : Span) (text : List ℕ) (at : ℕ) (r : Result Span Refusal) (x : Span) → text ≡ part_of d body → r ≡ string_at text at → Some x ≡ result_ok r → body.start + x.start + x.len ≤ length d
within d body text at (Ok y) x t e o =
    let s = string_within text at x (sym e ∙ cc) in
    let l : length text ≡ length (part_of d body) = ap (λ (s : List ℕ). length s) t in
    let w = part_within d body (omega arith) in
    omega arith
within d body text at (Err y) x t e o = cc

pub overflow_add-name : goal.overflow_add-name
overflow_add-name c =
    let w = within _ _ _ _ _ _ c.part-text.ensures c.decode_string.ensures c.in_ok-name.ensures.value in
    omega arith

pub placed_in-requires : goal.placed_in-requires
placed_in-requires c =
    let w = within _ _ _ _ _ _ c.part-text.ensures c.decode_string.ensures c.in_ok-name.ensures.value in
    omega arith

pub placed_in-requires-2 : goal.placed_in-requires-2
placed_in-requires-2 c =
    let w = within _ _ _ _ _ _ c.part-text.ensures c.decode_string-2.ensures c.in_ok-type_name.ensures.value in
    omega arith
