pub mod Sums  -- sums, and what is earlier or greater, in whatever order they are made
pub mod Filling  -- what is kept of moments side by side, joined, with each step
pub mod Joining  -- columns that are joined, and their width
pub mod Lists  -- lists of which each became another
pub mod Tracking  -- the columns of a track, by their indexes
pub mod Lanes  -- what is kept of a lane with one step more, all but the usage
pub mod Keeping  -- what is kept of all groups, where each panel became another
pub mod Recording  -- what is kept of all groups with one step more
pub mod Within  -- what is kept of moments outside the extent: nothing
pub mod Asked  -- what a line can ask for, and whose it is
pub mod Placing  -- the panels of groups, as these come, step and go
pub mod Laying  -- which panels are kept, as groups come and go
pub mod Stepping  -- what is kept of a run with one step more
pub mod Beginning  -- panels in which a life begins, or none
pub mod Coming  -- what is kept of a run with one group more
pub mod Going  -- what is kept of a run with one group fewer
pub mod Taking  -- lines whose columns are kept
pub mod Reading  -- a run whose columns are kept, from the reader's first byte to its last
pub mod Charting  -- what a picture is drawn from, and what happened
