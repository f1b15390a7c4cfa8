-- Names, and parts of names:
pub mod Dotted  -- a dotted name is cut at its first dot
pub mod Each  -- items with their numbers, and one more at the end
pub mod Named  -- names that are not bad
pub mod Short  -- a text that is longer than each name is none of them
-- Further commands:
pub mod ByGroup  -- the further commands in lists by group: no commands, and one more
pub mod Further  -- the further commands, as the members of the table under `service.command` give them in the order of their keys
pub mod Gathered  -- the further commands so far, counted by their groups, and one more
pub mod Known  -- the further commands of a file are of its groups, at most 15 of each, and their numbers are in their ranges
-- Groups, subjects and their checks:
pub mod Groups  -- entries of new names are put into a map behind the others: the groups in their order, each with what its place gives
pub mod Subjects  -- the subjects of the groups so far and of one more
pub mod Checks  -- the checks at one subject of the list
-- What is read: settings in range, and those of a file:
pub mod InRange  -- settings that nothing refuses have their fields in range
pub mod SettingsFile  -- the settings in a file: it is no text, or they are those of its text
