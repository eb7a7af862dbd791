-- The grid that a caller keeps, as the calls see it.
pub mod Kept
