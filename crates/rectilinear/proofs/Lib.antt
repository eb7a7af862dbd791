-- Section 8 on a rectilinear grid, the ends of its axes, and refusal 9.
pub mod Laws
pub mod Ends
pub mod Missing
pub mod Guarantees
pub mod Examples
