-- What rewriting asks and promises.
pub mod View
