-- Laws of held messages over the tables.
pub mod Laws
