pub mod Turns  -- what came of a line
pub mod Taken  -- what is taken of the bytes that have come, and what it asks
pub mod Answers  -- what lines are answered, one after the other
pub mod Session  -- what a whole conversation writes
