-- What a reader must believe of quiet hours, in the order of document 02, W8.
pub mod Windows
pub mod Week
pub mod Promises
