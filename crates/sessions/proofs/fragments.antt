-- Laws of a session's fragments over the lent stores, and of its store.
pub mod Laws
pub mod Store
