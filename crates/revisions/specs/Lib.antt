-- Which sheet counts: where the revision stands (Revision); that the answer leaves no choice, and when each comes
-- (Answers); the sheets exchanged, and revisions in order (Exchange); what C is told (InC). Sheets of P1 are compared in Example.
pub mod Revision
pub mod Answers
pub mod Exchange
pub mod InC
pub mod Example
