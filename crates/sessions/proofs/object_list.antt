-- Laws of the listing.
pub mod Laws
