-- What the code's values hold and mean (View), and what follows for a sheet that is formed (Laws).
pub mod View
pub mod Laws
pub mod Props
pub mod WellFormed
