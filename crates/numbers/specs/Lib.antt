-- How many numbers a byte and two bytes can hold.
pub mod Size
