-- P1 to P10 of document 01, proved together. What is said: Sheets, Examples; of late starts of P1: LateStarts. That it holds: proofs/.
-- How it is computed: tests, over the laws of the crate theory.
pub mod Sheets
pub mod Examples
pub mod Test
pub mod Own
pub mod Marks
pub mod Class
pub mod Solution
pub mod Least
pub mod Answers
pub mod LateStarts
