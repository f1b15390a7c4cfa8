pub mod ControlLine
pub mod AnswerLine
pub mod Taken
pub mod ConversationView
pub mod Pieces
pub mod Session
