-- Laws of the definitions that both kinds of grid share.
pub mod Nodes
pub mod Places
pub mod Numbers
pub mod Sizes
pub mod Checks
pub mod Passed
pub mod Said
pub mod Examples
