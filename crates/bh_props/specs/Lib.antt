-- The tree of a file, the table, and values in force:
pub mod Tree  -- values of a TOML tree, found by dotted names
pub mod Table  -- the properties: where each stands in a file, what it may be, and what it is where the file does not say
pub mod InForce  -- the value that is in force for a group or a further command
pub mod Found  -- what a file has for all names, and for one name, where it was looked up
-- Names and further commands:
pub mod Names  -- the names of the groups, or why they are refused
pub mod Commands  -- the further commands that a file names under `service.command`
pub mod ByGroup  -- the further commands, in a list for each group
pub mod Gathered  -- how many further commands each group has so far
pub mod Subjects  -- whose properties are checked and shown: each group, and behind it its further commands
-- Refusals, and the settings:
pub mod Refusals  -- the checks of a file whose groups are known
pub mod SettingsView  -- what contracts see of settings
pub mod Settings  -- the settings of a text: what each group's properties are, or the first refusal
pub mod SettingsFile  -- the settings that the bytes of a file give
-- The lines that show them:
pub mod Printed  -- the lines that show what is in force
pub mod Shown  -- what settings show: the entries of their maps, in lists, and the limit of audited steps
