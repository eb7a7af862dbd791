-- One rectilinear axis: its entries.
pub mod Place
pub mod Weights
pub mod Nodes
pub mod Internal
