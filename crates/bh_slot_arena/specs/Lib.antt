pub mod Lists
pub mod Slots
pub mod Family
pub mod Whole
pub mod Linked
pub mod Nodes
pub mod Fields
