-- What a guard of a pair is, what the questions on it ask and say, and laws for those who ask.
pub mod Pair
pub mod Basis
pub mod Laws
