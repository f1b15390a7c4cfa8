pub mod Kinds  -- what a reply tells of one request
pub mod Tallies  -- what the requests of a command came to, in numbers
pub mod Times  -- how long requests took, and what is told of that
pub mod Inside  -- what the fields of times show
pub mod Steps  -- what a step did to the commands of its group
pub mod Looked  -- what is looked at of a command before a step and behind it
pub mod Scripts  -- what the lines of a script did
pub mod Watched  -- what is kept of a script while its lines come
pub mod Rows  -- the rows that tell of the commands of groups
pub mod Summaries  -- the rows of a script
pub mod Objects  -- the objects that tell rows
pub mod Tables  -- the table that tells rows
