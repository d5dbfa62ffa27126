-- What is proved of the C interface: what a call leaves, taken apart; and that a record is read back as it was written.
pub mod Left
pub mod Back
