-- The definitions of document 01, a file for each of its sections, in its order; then those of the requests of document 02.
pub mod Count
pub mod Sheet
pub mod RunList
pub mod Plan
pub mod Wanted
pub mod Order
pub mod Class
pub mod Answer
pub mod Rewrite
pub mod Late
pub mod Cost
pub mod Newer
