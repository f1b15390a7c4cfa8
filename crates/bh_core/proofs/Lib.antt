-- The events of a command, and of all commands:
pub mod Counting  -- how the number of counted events changes in a step
pub mod Histories  -- rings and histories that move on, get an event, and are counted
pub mod Commands  -- the commands of a group: one of them is changed, or all are seen at a later moment
-- Single operations:
pub mod Ops  -- what Collect does where a fallback is to run
pub mod Pool  -- how many runs of a group's tickets its thread pool has
pub mod Below  -- the due tickets of the first commands of a group, and of one command more
pub mod Timeouts  -- what an Expire does, part by part
pub mod Joining  -- a submit, part by part
pub mod Tuned  -- a group whose properties were changed by a Tune
-- One step of one group:
pub mod Stepping  -- the events of a step one by one are all of them at once
pub mod Steady  -- a step keeps the bounds that hold between steps
pub mod Own  -- a group together with its tickets
-- One step of all groups:
pub mod OneOfMany  -- one group of many makes a step
pub mod Refused  -- what a refusal leaves of all groups
pub mod OneStep  -- a step of all groups, by what its own group did
pub mod AllGroups  -- all groups together with the tickets of them all
-- Groups that come and go:
pub mod Registered  -- one more group
pub mod Retired  -- a group is retired
pub mod Lives  -- the life of a group in a list of acts
pub mod Acting  -- a registration as an act
-- Lists of steps:
pub mod Whole  -- a run goes on by one step
pub mod TwoWorlds  -- no group can tell one world from the other
-- Looks:
pub mod Looks  -- what a step would be answered, by what the code looks at
