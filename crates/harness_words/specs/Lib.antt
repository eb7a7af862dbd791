-- What the contracts of the test programs' words and tally cite.
pub mod Bytes
pub mod Tally
