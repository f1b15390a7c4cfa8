-- What contracts see of a conversation.
use Rattle.std.specs.Prelude.{◌≡◌, ℕ, false, List, Option, Some, None}
use Rattle.bh_lines.specs.declared.port_error.PortError.{PortError}
use Rattle.bh_lines.specs.declared.port_error.PortError.TheVariants.{Read, Write, Line, Memory}
use Rattle.bh_lines.specs.Lines.{has_line}

-- the bytes of a line that has not ended, and the fault that it answers from now on
pub record ConversationView : Type 0 where
  pub rest : List ℕ
  pub fault : Option PortError

-- a conversation goes on with a rest in which no line has ended, or it has failed
abbrev pub IsKept : List ℕ → Option PortError → Type 0
IsKept rest None = has_line rest ≡ false
IsKept rest (Some Line) = Unit {0}
IsKept rest (Some Memory) = Unit {0}
IsKept rest (Some Read) = ⊥
IsKept rest (Some Write) = ⊥
