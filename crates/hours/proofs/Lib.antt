-- What other crates may cite of quiet hours.
pub mod Held
pub mod Kept
pub mod Search
pub mod Round
pub mod Promises
