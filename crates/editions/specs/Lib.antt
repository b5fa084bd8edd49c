-- The two editions of the sheet. Nothing moved for edition 1 (Unmoved, by what stood before: Former). Rewriting leaves no choice (Unique), has
-- an answer for every sheet (Answers), and loses nothing (ThereAndBack, NewAgain). What moved with the default gap, and that nothing else did
-- (DefaultGap, by what stood before: FormerGap); what was rewritten before is mended by one byte (Mended).
pub mod Former
pub mod Unmoved
pub mod Unique
pub mod Answers
pub mod ThereAndBack
pub mod NewAgain
pub mod FormerGap
pub mod DefaultGap
pub mod Mended
