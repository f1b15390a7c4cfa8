pub mod Columns  -- what is kept of a command in the moments of a column
pub mod Spans  -- what is kept of a command in the moments from one on and before another
pub mod Tracks  -- columns side by side, by their indexes
pub mod Steps  -- what a step did to the columns of its group's commands
pub mod Panels  -- what is kept of the commands of a group
pub mod Laws  -- laws of what is kept of moments
pub mod Filled  -- what is kept of all groups, by panels and commands
pub mod Named  -- what is kept of all moments of a script, by the names of its groups
pub mod Layouts  -- which panels are kept of a run
pub mod Recorded  -- what is kept of a script while its lines come
pub mod Placed  -- where the panel of a group that comes stands
pub mod Charts  -- what a picture is drawn from, by what is kept
