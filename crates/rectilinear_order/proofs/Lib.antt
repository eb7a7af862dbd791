-- Laws of the order of axes.
pub mod Order
pub mod Passes
pub mod Strict
pub mod Examples
