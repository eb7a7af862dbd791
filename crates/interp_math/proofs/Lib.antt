-- Laws of the definitions, beyond the functions' own proofs.
pub mod AtNodes
pub mod Comparing
pub mod Lists
