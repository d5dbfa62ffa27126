-- Laws of the streams of a session.
pub mod Laws
