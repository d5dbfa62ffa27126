-- Laws of the search over a stream's places, and of what a place holds.
pub mod Laws
pub mod Held
