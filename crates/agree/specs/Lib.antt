-- Sheets that agree below their counts have the same plans and the same answers.
-- What is said: Agree, Theorem. Why it holds: the files between, in the order of document 01.
pub mod Agree
pub mod Formed
pub mod Plan
pub mod RunList
pub mod Wanted
pub mod Order
pub mod Class
pub mod Least
pub mod Answer
pub mod Theorem
