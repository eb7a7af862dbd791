-- What a call tells and writes.
pub mod Told
