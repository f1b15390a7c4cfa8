pub mod Pieces
pub mod Progress
pub mod Holding
pub mod Listed
