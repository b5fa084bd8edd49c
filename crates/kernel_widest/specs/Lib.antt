-- What is asked and promised, and a law for callers.
pub mod View
pub mod Laws
