-- A grid of either kind, over a list of axes that give outcomes.
pub mod Query
pub mod Batch
pub mod Nodes
pub mod Edges
pub mod Internal
