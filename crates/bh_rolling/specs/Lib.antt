pub mod RingView
pub mod Buckets
pub mod Inside
pub mod Stretches
pub mod Healths
