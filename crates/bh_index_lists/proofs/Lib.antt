pub mod Members
pub mod Segments
pub mod Ties
pub mod Unlinked
pub mod Pushed
