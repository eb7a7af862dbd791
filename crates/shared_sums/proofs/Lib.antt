-- Laws of the shared reduction, and of the pass over the axes that ends in it.
pub mod Joining
pub mod Both
