-- What a rectilinear grid supplies to the laws of `guarantees`, and what may be relied on where it is taken.
pub mod Supplied
pub mod Relied
