-- What slices of any length add to the calls; what depends on the width of an axis stands apart.
pub mod Slices
pub mod Axes
pub mod Lent
pub mod Internal
