pub mod Lists  -- the lease at the first place that passes a test
