pub mod Properties  -- what is in force of a command
pub mod PropertiesLine  -- the line that tells it
pub mod Sent  -- how the line is put
