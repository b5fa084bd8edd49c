pub mod Points
pub mod Verdict
pub mod RowEvent
pub mod Empty
