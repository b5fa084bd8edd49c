-- What the orders hold and ask, and what each step of showing them asks and gives.
pub mod View
pub mod Grid
