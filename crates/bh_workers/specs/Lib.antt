pub mod Receipts
pub mod Work
pub mod Calls
pub mod Collecting
pub mod Timing
pub mod Driving
pub mod Callers
pub mod CallLaw
