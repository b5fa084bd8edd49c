-- What showing the orders asks, and why it may be asked of them.
pub mod View
pub mod Laws
