pub mod Counting  -- holders that are left, one more or one less
pub mod Settled  -- what a holder that has collected does, and that one holder more has
pub mod Returned  -- one lease more was given back
pub mod Looking  -- what is seen of a group
pub mod Logging  -- what a log has of the steps that were made
pub mod Accounting  -- what the account has of the steps that were made
