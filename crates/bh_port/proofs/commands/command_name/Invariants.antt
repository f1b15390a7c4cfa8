use Rattle.std.proofs.Common.{◌≡◌}
use Rattle.std.specs.Prelude.{find, option_map, ◌==◌, ◌&&◌}
use Rattle.bh_port.proofs.commands.command_name.Given as goal

abbrev pub invariant-loop-name : goal.invariant-loop-name
invariant-loop-name l =
    option_map (λ c. c.0) (find (λ c. (c.1.0 == l.group.0) && (c.1.1 == l.command)) l.name-iterator)
    ≡ option_map (λ c. c.0) (find (λ c. (c.1.0 == l.group.0) && (c.1.1 == l.command)) l.settings.commands.entries)
