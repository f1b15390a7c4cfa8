-- Texts:
mod TextLemmas  -- a text and the zeros behind it in an array
-- The view law: counts and tables in place of histories:
pub mod Windows  -- the table of a history says how many events of each kind lie in each later window
pub mod Tables  -- the table at a moment says the table at a later one, with events added then
pub mod LaterTables  -- what a later table counts: what the table before it counted then, and the new events
pub mod Tuned  -- what a change of a property leaves as it was
pub mod Kept  -- no op changes the shape of the properties, the latest moment, or how many circuits there are
pub mod Views  -- the view of a state says each reply, and the view after it
-- What each step keeps of the tickets:
pub mod Rising  -- each step keeps the tickets in the order of their serials
pub mod Known  -- each step keeps the tickets to commands that the group has
-- Replies and refusals:
pub mod Answering  -- the machine gives only replies that the operation can get
pub mod Refusing  -- what a refusal leaves
-- Numbers that a step bounds:
pub mod Bounded  -- what bounds the holders of a ticket, and the events of a step
pub mod Few  -- a step records at most two events, or a timeout for each of the tickets
-- Lists of steps:
pub mod OneMore  -- a list of steps with one more step behind
