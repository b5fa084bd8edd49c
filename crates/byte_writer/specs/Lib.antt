-- Bytes that are written one after the other (Bytes), what is read back from them (Joined, Stands), and a buffer that they are laid into (Fill).
pub mod Bytes
pub mod Joined
pub mod Stands
pub mod Fill
