-- What the marks mean (View), laws on them (Laws), and laws on the events of a fact in the index (Sweep).
pub mod View
pub mod Laws
pub mod Sweep
