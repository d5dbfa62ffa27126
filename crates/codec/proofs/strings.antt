-- Laws and theorems of strings.
pub mod Laws
pub mod Theorems
