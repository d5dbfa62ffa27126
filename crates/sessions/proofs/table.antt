-- Laws of the table of sessions.
pub mod Laws
