-- Laws of the objects of a session.
pub mod Laws
