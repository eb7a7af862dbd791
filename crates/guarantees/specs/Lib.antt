-- What is guaranteed of the calls.
pub mod Statements
pub mod Marked
