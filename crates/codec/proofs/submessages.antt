-- Laws of kinds and codes.
pub mod Laws
