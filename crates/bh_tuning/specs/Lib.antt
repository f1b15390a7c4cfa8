pub mod Named  -- the properties that may change, by the names that the settings have for them
