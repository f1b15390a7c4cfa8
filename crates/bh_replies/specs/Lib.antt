-- The lines that answer:
pub mod ReplyLine  -- the lines of replies
pub mod FaultLine  -- the lines of faults
pub mod ToldLine  -- the lines of what a line of a script is told
-- How they are put:
pub mod Puts  -- what is put behind bytes
pub mod Sent  -- what is sent to a writer of JSON
