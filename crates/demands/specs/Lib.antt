-- What the user demands, of every routine (Demands); how long a least list is at most (Longest); that all of it holds (Hold).
pub mod Demands
pub mod Longest
pub mod Hold
