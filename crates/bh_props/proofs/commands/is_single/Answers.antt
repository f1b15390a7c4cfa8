use Rattle.std.proofs.Common.{◌∙◌, ◌==◌, ap, sym}
use Rattle.toml.proofs.Views.{view-Table}
use Rattle.toml.specs.View.{view}
use Rattle.bh_props.specs.Commands.{is_single}
use Rattle.bh_props.proofs.Further.{single}
use Rattle.bh_props.proofs.commands.is_single.Goals as goal

pub returns-in-Table : goal.returns-in-Table
returns-in-Table c =
    ap (λ n. n == 1) c.len.ensures.len ∙ single c.in-Table.table.entries
    ∙ ap is_single (sym (ap view c.in-Table.is ∙ view-Table c.in-Table.table))
