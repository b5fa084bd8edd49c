-- The list rules as difference rules (Rules), what the routines ask and promise (View), and what solves the rows (Laws).
pub mod Rules
pub mod View
pub mod Laws
