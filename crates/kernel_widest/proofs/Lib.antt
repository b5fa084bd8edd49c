-- Raised and lowered ticks attain every greatest difference.
pub mod Laws
