-- The value and the gradient of a block.
pub mod Value
pub mod Gradient
pub mod Nodes
pub mod Internal
