pub mod Ending  -- how a connection ended
pub mod Opened  -- the groups that a service is opened with
