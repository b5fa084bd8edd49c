-- What the writer of sheets asks and promises.
pub mod View
