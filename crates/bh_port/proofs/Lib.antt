-- Lists and names:
pub mod Lists  -- lists of which one item is new or changed, or that have one item for each of another list
pub mod Naming  -- groups by name and number, one of which is new or was retired
pub mod Finding  -- a further command, found by the hash of its name
pub mod FoundFrom  -- where the further commands of each group stand in their list, found from the end of the list on
-- The groups of a run, and what they show:
pub mod Opening  -- groups that are opened one after the other
pub mod Keeping  -- the groups by name are those of the core, whatever is done
pub mod Noting  -- the numbers that are noted for names, where one group more is noted or one was retired
pub mod Showing  -- what the groups show at the beginning of a run, and after one act more
-- The text of a script, and a run that writes it:
pub mod TextLaws  -- the text of a script, by its first line
pub mod Outcomes  -- what follows where all went well
pub mod Answering  -- a run of answers, from the bytes that had come to those that are left
pub mod ReadLines  -- lines that were read before the first of them is answered
pub mod AtOnce  -- what was answered from nothing on is then written at once, or a front of it
pub mod Running  -- a run of a script, from the reader's first byte to its last
