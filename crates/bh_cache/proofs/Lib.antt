-- Lists of slots:
pub mod Members  -- members and places of a list of slots, and payloads by their slots
pub mod Moves  -- a slot that moves to the end of a list of a family
pub mod Walks  -- a walk along a list
pub mod Along  -- a walk along a list that may take the slot at hand off it
pub mod Order  -- slots along a list whose serials rise, and how many numbers pass a test
-- The tickets of a group:
pub mod Listed  -- tickets at numbered places, as one list by rising serial
pub mod Counts  -- how many tickets pass, by their places
pub mod Earliest  -- the ticket of least serial among those that pass
-- The chains of a group:
pub mod Placed  -- where a group's slots lie, and what stays as one of them is placed
pub mod Found  -- what is found along a chain is what is found among all of the group's tickets
-- The end of a request context:
pub mod Dropped  -- what becomes of the slots of a list
pub mod Noting  -- what is noted
