pub mod Grammar  -- which arguments may be given
pub mod Program  -- to which commands
pub mod Invocations  -- what they ask for
