-- What the planner's steps ask and promise (View), and why each of its answers is the one of the table (Laws).
pub mod View
pub mod Laws
