-- Laws of the definitions, beyond the functions' own proofs.
pub mod Search
pub mod Said
pub mod Cell
pub mod Blocks
pub mod Count
pub mod AtNodes
pub mod Examples
pub mod Missing
