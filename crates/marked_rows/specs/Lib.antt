-- The marked cases of clause 9.1.
pub mod MarkedRows
