-- Laws of the reduction.
pub mod Spacing
pub mod Reduction
pub mod Blocks
