-- What own times are found, and what the table of widest own times holds.
pub mod Wide
pub mod Rules
pub mod Times
pub mod View
pub mod Lists
pub mod Laws
