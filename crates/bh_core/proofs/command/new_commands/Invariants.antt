use Rattle.std.proofs.Common.{◌≡◌, ◌≤◌, map, take, length, vec_capacity}
use Rattle.bh_core.specs.Command.{new_command}
use Rattle.bh_core.proofs.command.new_commands.Given as goal

-- the commands before the place are there, and there is room for all
abbrev pub invariant-loop-own : goal.invariant-loop-own
invariant-loop-own l = record {
  made : l.commands.items ≡ map new_command (take l.own-index l.props.commands);
  room : length l.props.commands ≤ vec_capacity l.commands;
}
