pub mod Stepping  -- what steps make of the groups of a service are its groups still
pub mod Expiring  -- groups in which what is due was timed out, one after the other
pub mod Entering  -- a request context that a connection asks to enter
pub mod Told  -- what one turn tells a connection
pub mod Listing  -- objects whose members are listed
pub mod Saying  -- what the line of a step says
pub mod Waking  -- which connections are told to look again
