-- Laws of the reply to an answer.
pub mod Laws
