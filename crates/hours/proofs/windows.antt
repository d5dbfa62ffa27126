-- Laws of the windows.
pub mod Laws
