-- What is in force of a command of a group.
use Rattle.std.specs.Prelude.{ℕ, Option, Some, None, if◌then◌else◌}
use Rattle.bh_base.specs.Props.{GroupProps}
use Rattle.bh_base.specs.Commands.{has_command, props_of}
use Rattle.bh_in_force.specs.declared.properties.InForce.{InForce}

-- what the group's commands share, and what is the own of the command of the number
abbrev pub in_force_of : ℕ → GroupProps → InForce
in_force_of command p = record {
  slots = p.slots;
  core = p.core;
  max_queue = p.max_queue;
  queue_threshold = p.queue_threshold;
  command = props_of command p;
}

-- the same, where the group may lack the command
abbrev pub in_force_found : ℕ → GroupProps → Option InForce
in_force_found command p = if has_command command p then Some (in_force_of command p) else None
