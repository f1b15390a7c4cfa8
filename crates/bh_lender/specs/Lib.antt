pub mod StepLog  -- the steps that were made, for whoever keeps a record of them
pub mod Journals  -- what a step does to the journals of all groups
pub mod Recorded  -- all groups, with an account and a log of the steps that are made in them
pub mod Looks  -- what is seen of a group, for which no step is made
pub mod Steps  -- steps one after another
pub mod Settling  -- the holders that are left with the service, and what is done for them
pub mod Lender  -- what is done in one turn
pub mod Account  -- the account of steps that were made
pub mod Laws  -- what a log and an account have of the steps that were made
