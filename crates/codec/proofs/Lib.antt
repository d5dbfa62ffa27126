-- Laws and theorems that belong to no one function.
pub mod Either
pub mod Pieces
pub mod Complete
pub mod Sound
pub mod Promises
pub mod Writes
pub mod Cases
