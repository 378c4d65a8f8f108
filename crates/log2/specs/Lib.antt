-- To be read: Log2, and the claim of Exact.
pub mod Log2
pub mod Exact
pub mod Inner
