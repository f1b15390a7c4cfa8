pub mod Turn  -- what a step that a connection asks for is answered, and when it has to wait
