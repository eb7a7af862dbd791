-- Laws of the definitions, beyond the functions' own proofs.
pub mod Slopes
pub mod Rows
