pub mod Putting  -- pieces that are put behind bytes, one after the other
pub mod Unescaped  -- texts that stand in a string as they are
pub mod Texts  -- the texts that are put are the compact texts of the values
pub mod Counting  -- the counts of events, as they are put and as JSON has them
pub mod Sending  -- what is printed of the tokens that were sent
pub mod Rooms  -- the room that objects with texts of any bytes take
