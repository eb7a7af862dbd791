-- Laws of a regular grid.
pub mod Calls
pub mod Sizes
pub mod Locating
pub mod Taking
