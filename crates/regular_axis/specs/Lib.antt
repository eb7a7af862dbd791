-- One regular axis: its start, its step and its count.
pub mod Place
pub mod Weights
pub mod Nodes
