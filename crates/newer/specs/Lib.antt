-- What a choice between two sheets says.
pub mod View
pub mod Laws
