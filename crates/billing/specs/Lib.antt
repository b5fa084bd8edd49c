-- What a run costs: what an instance's minutes are (Minutes), that the answer leaves no choice, is exact and has a greatest (Answers), a plan of
-- picked instances (Picked), and what does not move the sum: groups summed apart (Splitting), another order (Order), delays
-- (Delays). Lists of P1 are billed in Example.
pub mod Minutes
pub mod Answers
pub mod Picked
pub mod Splitting
pub mod Order
pub mod Delays
pub mod Example
