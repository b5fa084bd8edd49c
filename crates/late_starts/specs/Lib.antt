-- Late starts: what delays can break of point 1 (Delays), that a plan is a list without fault (Faults), what of a list makes it a plan (Same),
-- that the answers leave no choice and what they say (Answers), what a run state holds (Moves), and the delayed list in bytes (DelayedList).
pub mod Delays
pub mod Faults
pub mod Same
pub mod Answers
pub mod Moves
pub mod DelayedList
