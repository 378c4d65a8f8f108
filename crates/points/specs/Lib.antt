pub mod Points
pub mod AtZero
