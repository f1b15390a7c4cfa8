pub mod Each  -- answers to lines, one after the other
pub mod Lines  -- the answer to one line
pub mod Holding  -- answers that are held, until they are written
pub mod Progress  -- how far a session has come
