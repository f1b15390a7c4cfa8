pub mod TableView
pub mod Entries
pub mod Fields
