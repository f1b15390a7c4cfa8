pub mod Lengths
pub mod Ranks
