-- Laws of the bits of an ACKNACK.
pub mod Laws
