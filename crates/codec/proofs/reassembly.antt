-- Laws of a fragment store, and what is promised of it.
pub mod Laws
pub mod View
pub mod Inserts
pub mod Held
pub mod Left
pub mod Numbers
pub mod Theorems
