-- What src/ computes, operation by operation, over the format.
pub mod Basis
pub mod Dot
pub mod Lists
