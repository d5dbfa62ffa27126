-- What a reader must believe of a submessage's handling: the bridge calls and the replies, in document 01's words; then, over the lent rows, what a
-- submessage comes to and what it leaves, which the contracts cite.
pub mod Calls
pub mod Replies
pub mod Proxy
pub mod Names
pub mod Moves
pub mod RowsStreams
pub mod Rows
pub mod Answers
