-- Laws of the payload layouts.
pub mod Laws
