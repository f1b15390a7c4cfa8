pub mod Lease  -- what a connection has of one ticket, or of one request context
pub mod Leases  -- whose a ticket and a request context are: what is allowed to a connection, and what it has after each step
