-- Tables of a file, values in force that are in doubt, and findings of both:
pub mod Table  -- the tables that are looked into, and the names in them that are looked up
pub mod LookedUp  -- the places of a file on which a value in force depends
pub mod Doubt  -- values in force that can hardly be meant
pub mod Finding  -- what a finding tells of a file
pub mod Findings  -- all errors and warnings of a file
pub mod Lines  -- the lines that tell findings
pub mod Objects  -- the objects that tell findings
pub mod Form  -- the texts that tell findings, by their forms
pub mod Refuses  -- the errors beside the first refusal of a check
pub mod Report  -- what is told of the bytes of a settings file
pub mod Reports  -- a report, and the findings that it is on
pub mod Unused  -- what stands at a name that nothing looks up changes no settings, and at any other it can
