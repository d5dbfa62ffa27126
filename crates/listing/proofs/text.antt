-- Laws of text in a lent output.
pub mod Laws
