use Rattle.std.proofs.Common.{◌≡◌}
use Rattle.std.specs.Prelude.{find, option_map}
use Rattle.std.specs.Str.{bytes_eq}
use Rattle.bh_port.proofs.commands.listed_command.Given as goal

abbrev pub invariant-loop-other : goal.invariant-loop-other
invariant-loop-other l =
    option_map (λ c. c.1) (find (λ c. bytes_eq c.0 l.name) l.other-iterator) ≡ option_map (λ c. c.1) (find (λ c. bytes_eq c.0 l.name) l.commands.entries)
