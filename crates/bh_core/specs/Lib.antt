-- What callers see: all groups, one step, looks:
pub mod CoreView  -- what callers see of all groups, and of the replies to many steps
pub mod Step  -- what one step does to all groups: it is made in its own group, and leaves the others as they were
pub mod Looks  -- what a reply says that a look at a group asks for beforehand, and whether a group is in use
-- One command, and its events:
pub mod History  -- the history of a command's events: two rings of counts, and what they show at a moment
pub mod Command  -- what a group keeps of each of its commands, and what it shows at a moment
pub mod Counted  -- how many events the tables of a group have: the number by which it is shown that no count wraps
-- One group, and its step taken apart:
pub mod Stepping  -- a step of one group, taken apart into its begin, the case of its operation, and its end
pub mod GroupView  -- what the fields of a group show, alone and together with its tickets
-- All groups: runs, what holds between steps, acts and lives:
pub mod Runs  -- two worlds: a group's own steps decide what it is told and shows, whatever other groups do beside them
pub mod Whole  -- what holds of all groups between steps
pub mod Acts  -- what steps, registrations and retirements do to all groups
pub mod Lives  -- the life of a group in a list of acts: the part after its registration and before its retirement
