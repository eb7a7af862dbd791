-- Laws of a rectilinear grid.
pub mod Sizes
pub mod Locating
pub mod Taking
