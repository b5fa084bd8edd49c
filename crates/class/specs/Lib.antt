-- What the class test answers, what it asks and says, and laws that its callers cite.
pub mod Answer
pub mod View
pub mod Laws
