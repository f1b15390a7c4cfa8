pub mod RunStatus
pub mod Files
pub mod CutStatus
pub mod Whole
