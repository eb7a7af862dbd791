-- The weights of a block on a rectilinear axis by t.
pub mod Weights
