-- Bytes cut into lines:
pub mod Lines  -- the lines of a text of bytes
pub mod Taken  -- what is taken of the bytes that have come
pub mod Front  -- the plain line in front of some bytes, where it stands
pub mod Ascii  -- a line of ASCII, and the bytes at which ASCII or a line ends
-- What a line asks for:
pub mod Names  -- the names of groups and of their commands
pub mod StepLine  -- the step that an object says, or the fault
pub mod ScriptLine  -- what a line of a script asks for, or its fault
pub mod Flat  -- the data of an object whose members hold no others
pub mod Plain  -- what stands in front of a text, and the tokens that it is
