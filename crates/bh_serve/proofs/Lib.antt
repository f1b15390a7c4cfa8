pub mod Called
pub mod Told
