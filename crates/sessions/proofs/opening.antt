-- Laws of opening a session.
pub mod Laws
