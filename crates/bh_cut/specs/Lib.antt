pub mod Named  -- which lines name one of the groups
pub mod Kept  -- what is kept of some bytes
pub mod Alike  -- the lines of a script with their answers, and what is said of them once some were cut out
pub mod Outcome  -- what a cut has written, at its end and on the way
