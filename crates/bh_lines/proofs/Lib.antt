-- Bytes cut into lines:
pub mod Cutting  -- the codec's scan agrees with `cut`
pub mod Taking  -- what the codec's answers say of the bytes in the buffer
pub mod Fronting  -- the line in front, found by its line feed
pub mod AsciiLines  -- the line in front, where it is ASCII: the byte at which its run of ASCII ends
pub mod LinesThen  -- lines in front of others, and what is left behind a line feed
pub mod PortErrors  -- what is known where no error was answered
-- What a line asks for:
pub mod FlatReading  -- the members of an object that holds scalars alone: how they are put, and what is found of them
pub mod Lanes  -- sixteen bytes at once: where the first stands that passes a test
pub mod PlainLanes  -- sixteen bytes of a text at once: which of them are stops
pub mod Escapes  -- texts with escapes: what their bytes say, and where they end
pub mod PlainReading  -- plain lines: the tokens that their bytes are, and the members of these
pub mod GroupNumber  -- the number of a group, found by comparing the name from either side
