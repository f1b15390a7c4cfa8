pub mod Service  -- what is known of a service that connections share, by its type
pub mod Client  -- what a connection has, and what its lines may be answered
pub mod Locked  -- what one turn does to what stands under the lock
pub mod Turns  -- what is done in one turn of the lock, by what was asked for
pub mod Shared  -- what one turn tells of groups that others change too
pub mod Waiters  -- which connections wait for what, and which of them are to look again
pub mod LineObject  -- objects whose members are listed
pub mod StepText  -- the line of a script that says a step, and what it says
