-- Why it holds: from the sheet's form to the least list, each file over those before it.
pub mod Places
pub mod Distance
pub mod Own
pub mod Same
pub mod Alone
pub mod Sound
pub mod Present
pub mod Necessary
pub mod Sufficient
pub mod Least
pub mod Entries
pub mod Bytes
pub mod Answers
pub mod Unique
