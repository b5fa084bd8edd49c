-- Absent jobs: what their events do is of no consequence (Nowhere), what makes a job absent (Causes), that nobody gives 15 (Numbers); the
-- definitions from before (Former), and what did not move (Unmoved).
pub mod Nowhere
pub mod Former
pub mod Unmoved
pub mod Causes
pub mod Numbers
