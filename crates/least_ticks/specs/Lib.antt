-- What finding the least ticks asks and promises (View), and why its result is right (Laws).
pub mod View
pub mod Laws
