-- Laws of IEEE 754 arithmetic, the format a parameter. None knows of tables.
pub mod Zero
pub mod Unique
pub mod ZeroOne
pub mod Cancel
pub mod Bound
pub mod Gap
pub mod Rise
pub mod Multiple
pub mod Rank
pub mod Order
pub mod Nan
pub mod Rises
