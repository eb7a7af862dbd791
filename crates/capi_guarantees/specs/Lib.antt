-- What is guaranteed of the calls for C.
pub mod Statements
pub mod Gathered
