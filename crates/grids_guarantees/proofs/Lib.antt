-- The statements hold of what the contracts of the calls say.
pub mod Owed
pub mod Kept
