-- What a reader must believe of the wire, in document 01's order.
pub mod Refusals
pub mod Bytes
pub mod Submessages
pub mod Answers
pub mod Header
pub mod Layouts
pub mod Reading
pub mod Writing
pub mod Text
pub mod Strings
pub mod Cutting
pub mod Reassembly
pub mod Inserts
pub mod Grammar
pub mod Rebuilt
pub mod Promises
pub mod Writes
