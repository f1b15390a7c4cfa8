pub mod Timeouts  -- how many tickets time out in a step, by what is counted before and behind it
pub mod Adding  -- what a step adds to the lanes of its group, by what is looked at and told
pub mod Watching  -- what is kept of a script with one act more
pub mod Taking  -- lines that are taken, from the bytes that had come to those that are left
pub mod Reading  -- a run that is watched, from the reader's first byte to its last
pub mod RowPlaces  -- the rows that are told of, with one more or with more in one
pub mod Naming  -- the names of the further commands, once those up to one of them were noted
pub mod Summaries  -- the rows of a script
pub mod Objects  -- the texts of rows, with one row more
pub mod Tables  -- lists that grow by an element of two others, and texts by what they tell
pub mod Grades  -- where the grades of times begin, and that their times are near to one another
pub mod Counts  -- counts of times by grade, and what they say of ranks
pub mod Kept  -- what is kept of times as more of them come
