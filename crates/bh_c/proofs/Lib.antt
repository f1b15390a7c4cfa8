pub mod Answered
pub mod HeldCases
pub mod LooseValues
pub mod Refused
pub mod Texts
