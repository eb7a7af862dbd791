-- The definitions that both kinds of grid share: answers, checks 1 to 4, places.
pub mod Answers
pub mod Types
pub mod Grid
pub mod Place
pub mod Internal
