-- A call's answer, one number: the refusal's number (0: none), 256 times its byte, and 65,536 times the number that comes with "none".
use Rattle.std.specs.Prelude.{ℕ, ◌+◌, ◌*◌, ◌%◌, Bool, Err, None, Ok, Option, Result, Some, false, true}
use Rattle.codec.specs.Refusals.{number_of, byte_of}
use Rattle.codec.specs.declared.refusals.Refusal.{Refusal}
use Rattle.agent.specs.declared.process.Outcome.{Outcome}
use Rattle.sessions.specs.declared.need.Need.{Need}

abbrev pub refused_as : Refusal → ℕ
refused_as r = number_of r + 256 * byte_of r

-- of a call that tells a number
abbrev pub answer_as : Result ℕ Refusal → ℕ
answer_as (Ok n) = 65536 * n
answer_as (Err r) = refused_as r

abbrev pub outcome_as : Result Outcome Refusal → ℕ
outcome_as (Ok o) = 0
outcome_as (Err r) = refused_as r

-- 1 if the session was live
abbrev pub removed_as : Result Bool Refusal → ℕ
removed_as (Ok true) = 65536
removed_as (Ok false) = 0
removed_as (Err r) = refused_as r

-- how many a sweep or a listing has
abbrev pub counted_as : Result ℕ Refusal → ℕ
counted_as (Ok n) = 65536 * (n % 65536)
counted_as (Err r) = refused_as r

-- how many ids a sweep listed, 255 at most
abbrev pub swept_as : Result ℕ Refusal → ℕ
swept_as x = counted_as x

-- how many numbers a listing has, 32 at most
abbrev pub listed_as : Result ℕ Refusal → ℕ
listed_as x = counted_as x

-- 1 and the minute's place in the week, 1,440 to a day; 0 where no minute is open (W8)
abbrev pub minute_as : ℕ → ℕ → ℕ
minute_as day minute = 65536 * (1 + 1440 * day + minute)

abbrev pub first_open_as : Result (Option (ℕ × ℕ)) Refusal → ℕ
first_open_as (Ok (Some (day, minute))) = minute_as day minute
first_open_as (Ok None) = 0
first_open_as (Err r) = refused_as r

-- the bytes of all tables and stores together, 1,048,576 × 256 at most
abbrev pub needed_as : Result Need Refusal → ℕ
needed_as (Ok n) = 65536 * (n.bytes % 4294967296)
needed_as (Err r) = refused_as r
