-- Laws of slices that are read and written, and of a grid that is gathered from them.
pub mod Examples
pub mod Laws
pub mod Lent
