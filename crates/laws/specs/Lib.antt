-- General laws: a test's answer, what holds at the places of a range or below a number, sums and extremes over them, and what a store changes; and
-- what a well-formed sheet has. Faults: the number of a sheet's fault.
-- Distance: none for the same instance, the gap for another.
-- SameForm: a sheet that says the same is well formed too.
pub mod Test
pub mod Bools
pub mod Throughout
pub mod Places
pub mod OneEach
pub mod Below
pub mod Rise
pub mod Counts
pub mod Sums
pub mod First
pub mod Set
pub mod Limits
pub mod Formed
pub mod Faults
pub mod SameForm
pub mod Extremes
pub mod Tightest
pub mod Pairs
pub mod Events
pub mod Present
pub mod Planned
pub mod Columns
pub mod Distance
