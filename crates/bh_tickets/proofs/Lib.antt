-- One ticket changes: what stays, and what is counted:
pub mod Changed  -- what a change leaves of a ticket
pub mod ByCommand  -- the counts of a group's tickets by command
pub mod Since  -- since when tickets of a command wait or run
pub mod InTime  -- tickets of later serials were not submitted earlier
pub mod InTurn  -- running tickets lie in the order of their serials
-- One slot of a group changes: its lists, its chains, and the other groups:
pub mod Touched  -- one slot gets another ticket, or goes to another list
pub mod Chained  -- the chains of a group as one of its slots changes, and as other groups do
pub mod Own  -- what a change of one slot does to its group's tickets
pub mod Others  -- the other groups stay as they were
-- The changes of one ticket:
pub mod Puts  -- one ticket of a group changes
pub mod Adds  -- a ticket comes
pub mod Releases  -- a ticket goes that nobody needs
pub mod InPlace  -- a ticket is changed in place
pub mod Times  -- a ticket times out, where it is due
-- All groups, of which one changes:
pub mod Whole  -- one group of many changes, and what is read of its tickets
pub mod Tables  -- the tables by serial as one group changes
-- Searches:
pub mod Finds  -- which ticket a search finds
pub mod Exists  -- the ticket of a name, and whether a group has a ticket of a kind
-- Walks along the lists of a group:
pub mod Along  -- what a walk along a list does to the tickets of a group, one slot after another
pub mod TimedAll  -- all of a group's tickets that are due time out
pub mod SinceAll  -- a walk for tickets that are due finds since when tickets of the command wait or run
pub mod Rising  -- lists whose tickets lie in the order of their submits
pub mod ReleasedAll  -- all of a group's tickets go that nobody needs
pub mod Uncached  -- the end of a request context
-- A group is added: new lists and new slots:
pub mod AddedLists  -- families get empty lists, and then one of each the new slots
pub mod Beside  -- chains of groups, and of none, that have no list in common
pub mod AddedGroup  -- a group is added
pub mod NewGroup  -- lists are made for a group
pub mod Made  -- a slot of a group is made
-- Slots go from one group without tickets to another:
pub mod Vacant  -- a group without tickets
pub mod Shifted  -- slots come to a group without tickets, or go from it
pub mod Taken  -- slots go from one group without tickets to another
pub mod Gathered  -- what lies on several lists of a family goes to another
pub mod Given  -- all slots of a group go to one without tickets
-- Groups come and go: what becomes of all of them:
pub mod NamesLeft  -- chains that no group has stay so as groups change
pub mod Exchanged  -- a place gets other chains
pub mod Rebuilt  -- slots go between the spare ones and a group: what becomes of all groups
pub mod Ready  -- spare slots and places are made ready
pub mod SlotCounts  -- how many slots all groups have, as contracts see them
pub mod Readied  -- a slot is free for a group's next ticket: what all groups are then
pub mod Chosen  -- a place is chosen for a group, and slots for it among the spare ones; then it has them
