-- Checks 5, 6 and 10 of a rectilinear grid.
pub mod Grid
pub mod Internal
