-- Laws of the definitions, beyond the functions' own proofs.
pub mod Floor
pub mod Missing
pub mod Said
pub mod Rows
pub mod Exact
pub mod AtNodes
pub mod Examples
