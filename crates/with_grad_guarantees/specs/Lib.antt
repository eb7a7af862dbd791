-- What is guaranteed of the call that gives value and gradient together.
pub mod Together
