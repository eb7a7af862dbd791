-- Laws of a regular grid.
pub mod Taking
