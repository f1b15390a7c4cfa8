pub mod Status
pub mod Linted
pub mod Summary
