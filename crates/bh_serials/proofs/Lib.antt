pub mod Rising
pub mod Alive
pub mod Searched
pub mod Left
pub mod Looked
