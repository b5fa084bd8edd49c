-- The bytes of the planner's list, that they are the least list, and what the writer promises.
pub mod ListBytes
pub mod Places
pub mod Sizes
pub mod Least
pub mod View
pub mod Answers
pub mod Example
