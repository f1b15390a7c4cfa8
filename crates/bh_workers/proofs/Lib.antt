pub mod Adding
pub mod Working
pub mod Calling
pub mod Progress
pub mod Expiring
pub mod Drives
pub mod Telling
