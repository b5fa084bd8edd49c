-- What the index of a sheet says, and laws that its callers cite too.
pub mod View
pub mod Keys
pub mod Laws
pub mod Between
