-- Rules in a list, and the rows made from it.
pub mod RuleList
pub mod Sort
