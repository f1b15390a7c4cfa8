-- What a group keeps of each of its commands, and what it shows at a moment.
use Rattle.std.specs.Prelude.{ℕ}
use Rattle.bh_base.specs.declared.props.CommandProps.{CommandProps}
use Rattle.bh_base.specs.declared.event.Window.{Window}
use Rattle.bh_base.specs.Circuit.{AreBefore, Circuit, new_circuit}
use Rattle.bh_base.specs.History.{PastView, window_of}
use Rattle.bh_core.specs.declared.command.Command.{Command}
use Rattle.bh_core.specs.History.{IsUpTo, history_opened, history_seen}

-- a command of a new group
abbrev pub new_command : CommandProps → Command
new_command props = record { circuit = new_circuit; history = history_opened (window_of props) }

abbrev pub circuit_in : Command → Circuit
circuit_in c = c.circuit

abbrev pub window_in : Command → Window
window_in c = c.history.reported.window

-- what is seen of its events at the moment
abbrev pub past_in : ℕ → Command → PastView
past_in moment c = history_seen moment c.history

-- nothing that it keeps is later than the moment
pub record IsCommandUpTo (moment : ℕ) (c : Command) : Type 0 where
  pub circuit : AreBefore moment c.circuit
  pub history : IsUpTo moment c.history
