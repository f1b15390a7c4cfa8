pub mod Accepting
pub mod Echo
pub mod Ending
pub mod Idle
pub mod Reports
pub mod ServiceControlView
pub mod Served
