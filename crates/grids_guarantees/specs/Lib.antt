-- What is guaranteed of the calls on the grids that callers keep.
pub mod Statements
pub mod Kept
