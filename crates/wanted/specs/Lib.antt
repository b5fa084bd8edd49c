-- What the marks say, what marking asks and gives, and the list of noted jobs.
pub mod Noted
pub mod View
