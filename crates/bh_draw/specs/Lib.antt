pub mod Bars  -- which count a bar shows
pub mod Lengths  -- how high and how wide something is drawn
pub mod Texts  -- how a text ends
