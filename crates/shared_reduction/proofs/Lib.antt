-- What the values of the code are, read as floats.
pub mod Reading
