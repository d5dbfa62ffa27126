-- Laws and theorems of text.
pub mod Laws
pub mod Fits
pub mod Theorems
