-- The look through all pairs of a fact, and the marking.
pub mod GridLaws
