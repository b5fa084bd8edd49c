-- One pair: a search among a fact's events, the comparison by the table of widest own times, and one guard.
pub mod Laws
