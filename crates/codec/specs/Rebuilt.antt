-- Document 02, W6: what reading rebuilt bytes gives. "the rebuilt bytes are read as submessages"; "Checks on rebuilt bytes: 1 to 5, then 17".
use Rattle.std.specs.Prelude.{ℕ, Bool, true, false, cond, ◌||◌, List, [], ◌∷◌, map, eqb, length, Err, Ok, Result}
use Rattle.codec.specs.Reading.{Item, Items, items, stopped, items_at}
use Rattle.codec.specs.Grammar.{Said, said_in}
use Rattle.codec.specs.declared.refusals.Refusal.TheVariants.{BufferTooShort, NotInFragments}
use Rattle.codec.specs.declared.submessages.Submessage.{Submessage}
use Rattle.codec.specs.declared.submessages.Submessage.TheVariants.{CreateClient, Create, Delete, Status, WriteData, ReadData, Data, Heartbeat, Acknack, Fragment}
use Rattle.codec.specs.declared.refusals.Refusal.{Refusal}

-- "a FRAGMENT or CREATE_CLIENT"
abbrev pub barred : Submessage → Bool
barred (CreateClient p) = true
barred (Create p) = false
barred (Delete p) = false
barred (Status p) = false
barred (WriteData p) = false
barred (ReadData p) = false
barred (Data p) = false
barred (Heartbeat p) = false
barred (Acknack p) = false
barred (Fragment p) = true

-- their ids
abbrev pub barred_id : ℕ → Bool
barred_id id = eqb id 0x00 || eqb id 0x0F

-- one is "among them"
abbrev pub any_barred : List Item → Bool
any_barred [] = false
any_barred (x ∷ xs) = barred x.says || any_barred xs

-- "1 to 5, then 17": 17 is for bytes that read to their end; else how many submessages
abbrev pub rebuilt_by : Items → Result ℕ Refusal
rebuilt_by (items xs) = cond (any_barred xs) (Err NotInFragments) (Ok (length xs))
rebuilt_by (stopped r) = Err r

-- the submessages from a place to the end
unfoldable pub rebuilt_at : List ℕ → ℕ → Result ℕ Refusal
rebuilt_at s at = rebuilt_by (items_at s at)

-- the whole: no bytes at all are 1, "no submessage"
unfoldable pub rebuilt_of : List ℕ → Result ℕ Refusal
rebuilt_of s = cond (eqb (length s) 0) (Err BufferTooShort) (rebuilt_at s 0)

-- what they say
abbrev pub said_of : List ℕ → Items → List Said
said_of s (items xs) = map (said_in s) xs
said_of s (stopped r) = []

-- "On any of these no rebuilt submessage takes effect": refused bytes say nothing
abbrev pub said_if : Result ℕ Refusal → List ℕ → List Said
said_if (Ok n) s = said_of s (items_at s 0)
said_if (Err r) s = []

unfoldable pub rebuilt_reading : List ℕ → List Said
rebuilt_reading s = said_if (rebuilt_of s) s
