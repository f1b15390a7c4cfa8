pub mod Grown  -- a list that grows by what each item of another gives
pub mod First  -- there is an error exactly where a check refuses, and the first is its refusal
pub mod InBytes  -- the errors and warnings in bytes are those of their text, and the errors are what a check refuses
pub mod Tables  -- what is looked up in a table
pub mod Any  -- whether one of a list passes a test
pub mod Ways  -- the keys that follow a place on the paths at which values are looked up
pub mod Listed  -- the groups and the further commands of a file, as subjects
pub mod Agree  -- the tables of names agree with the paths at which values are looked up
pub mod Floatless  -- objects that tell findings have no floats
pub mod Unused  -- what stands at a name that nothing looks up changes no settings
pub mod Used  -- what stands at a name that is looked up can change a value in force
