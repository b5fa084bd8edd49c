-- What the sheet reader promises, and laws on the definitions for those who cite them.
pub mod Reads
pub mod Loop
pub mod Adjacent
