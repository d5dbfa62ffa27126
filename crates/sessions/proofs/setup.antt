-- Laws of set-up.
pub mod Laws
