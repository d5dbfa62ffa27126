-- Laws of what 16 looks at.
pub mod Laws
