-- Laws of the entry points.
mod Laws
