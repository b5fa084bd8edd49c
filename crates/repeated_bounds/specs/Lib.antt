-- Bounds of one pair that stand several times. The lookup gives one answer (Lookup); ticks are own times exactly if they meet the tightest of
-- each pair (OwnPairs); rows that cannot all hold (Crossing); and that nothing else moved (Unmoved), by the rule that stood before (FormerPairs).
pub mod FormerPairs
pub mod Lookup
pub mod OwnPairs
pub mod Crossing
pub mod Unmoved
