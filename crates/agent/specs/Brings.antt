-- What a datagram brings to a session, or to the table of sessions.
use Rattle.std.specs.Prelude.{ℕ, Bool, List, map, Option, None, Some}
use Rattle.codec.specs.Answers.{Answer as Read, gives, refused_as}
use Rattle.codec.specs.Grammar.{Said, reading}
use Rattle.codec.specs.declared.header.MessageHeader.{MessageHeader}
use Rattle.codec.specs.declared.submessages.Submessage.{Submessage}
use Rattle.codec.specs.declared.submessages.Submessage.TheVariants.{CreateClient, Create, Delete, Status, WriteData, ReadData, Data, Heartbeat, Acknack, Fragment}
use Rattle.isolation.specs.Rules.{Sub, opens, names, Message}
use Rattle.agent.specs.declared.state.Given.{Given}
use Rattle.agent.specs.declared.state.Moment.{Moment}

-- "milliseconds, 64 bits, given with each datagram"; W8: "each datagram brings weekday and minute". These are all that the host gives with a datagram's bytes.
pub record Datagram : Type 0 where
  pub given : Given
  pub bytes : List ℕ

-- what a datagram's submessages go by: its time, and (W8) whether its minute is open, as `is_open` says of its weekday and minute
abbrev pub moment_of : (ℕ → ℕ → Bool) → Given → Moment
moment_of is_open g = record { time = g.time; is_open = is_open g.day g.minute }

-- a CREATE_CLIENT with its datagram's time: of its payload the tables keep the key
pub record Opening : Type 0 where
  pub time : ℕ
  pub key : ℕ

-- any other submessage, "with that header and its datagram's time"; W8's weekday and minute, of which "a session fed alone sees both", have gone into whether the minute is open, and nothing
-- else of them matters to a rule. Of the header the session is the machine's own, the sequence is unused.
pub record In : Type 0 where
  pub moment : Moment
  pub stream : ℕ
  pub fields : Submessage
  pub body : List ℕ

-- a submessage with a header's stream and a datagram's moment
abbrev pub in_of : Moment → ℕ → Submessage → List ℕ → In
in_of moment stream fields body = record { moment = moment; stream = stream; fields = fields; body = body }

abbrev pub sub_from : Moment → ℕ → Submessage → List ℕ → Sub Opening In
sub_from moment stream (CreateClient p) body = opens (record { time = moment.time; key = p.client_key })
sub_from moment stream (Create p) body = names (in_of moment stream (Create p) body)
sub_from moment stream (Delete p) body = names (in_of moment stream (Delete p) body)
sub_from moment stream (Status p) body = names (in_of moment stream (Status p) body)
sub_from moment stream (WriteData p) body = names (in_of moment stream (WriteData p) body)
sub_from moment stream (ReadData p) body = names (in_of moment stream (ReadData p) body)
sub_from moment stream (Data p) body = names (in_of moment stream (Data p) body)
sub_from moment stream (Heartbeat p) body = names (in_of moment stream (Heartbeat p) body)
sub_from moment stream (Acknack p) body = names (in_of moment stream (Acknack p) body)
sub_from moment stream (Fragment p) body = names (in_of moment stream (Fragment p) body)

abbrev pub sub_of : Moment → ℕ → Said → Sub Opening In
sub_of moment stream x = sub_from moment stream x.fields x.body

abbrev pub message_from : Moment → MessageHeader → List Said → Message Opening In
message_from moment h xs = record { header = h.session_id; subs = map (sub_of moment h.stream_id) xs }

-- none: "stopped by 1 to 5"
abbrev pub parsed_as : Moment → Read (MessageHeader × List Said) → Option (Message Opening In)
parsed_as moment (gives m) = Some (message_from moment m.0 m.1)
parsed_as moment (refused_as number byte) = None

abbrev pub parse : (ℕ → ℕ → Bool) → Datagram → Option (Message Opening In)
parse is_open d = parsed_as (moment_of is_open d.given) (reading d.bytes)
