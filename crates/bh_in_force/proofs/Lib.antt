pub mod Sending  -- what is printed of the tokens that were sent
