-- Laws and theorems of rebuilt bytes.
pub mod Laws
pub mod Theorems
