-- Laws of the week's minutes.
pub mod Laws
