-- Laws of failures.
pub mod Laws
