pub mod ShareLine  -- what a line asks, or its fault
pub mod Answer  -- the lines that answer them
