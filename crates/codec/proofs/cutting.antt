-- Laws of the cut, and what is promised of it.
pub mod Laws
pub mod Theorems
