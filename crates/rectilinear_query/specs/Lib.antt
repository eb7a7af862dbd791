-- A rectilinear grid, and what internal functions ask of each other.
pub mod Grid
pub mod Internal
