-- The statements hold of what the calls for C leave.
pub mod Typing
pub mod Lent
pub mod Read
pub mod Owed
pub mod Unmarked
pub mod Gathered
pub mod Relied
pub mod Calls
