-- Laws of held messages.
pub mod Laws
