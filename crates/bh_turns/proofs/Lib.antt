pub mod Idling  -- whether a start would be answered Idle, by what looks at the group say
pub mod Answering  -- what comes of a step that a connection asks for
