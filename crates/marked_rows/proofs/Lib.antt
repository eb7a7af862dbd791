-- The lemma about them.
pub mod MarkedRows
