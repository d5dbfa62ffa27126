-- Laws of what an ACKNACK drops and lists.
pub mod Laws
