-- Bytes in pieces:
pub mod Pieces  -- bytes in pieces, each with its line feed, and the lines that these are
pub mod Feeds  -- the first line feed of some bytes
-- A cut as the lines come:
pub mod Looking  -- what is written of lines that were looked at one after the other
pub mod AtOnce  -- what was kept from nothing on is then written at once, or a front of it
pub mod Running  -- a cut, from the reader's first byte to its last
-- The answers to what is kept:
pub mod Numbers  -- the number that a name has among the groups of a run, as these come and go
pub mod Leaving  -- what a line leaves as it is
pub mod Worlds  -- the lines of some groups among all others, and alone
pub mod Single  -- the lines of one of the groups that are kept
pub mod Answering  -- what is kept of a script is answered as in the whole
