use Rattle.std.proofs.Common.{◌++◌}
use Rattle.std.specs.Prelude.{codes, decimal}
use Rattle.bh_lint.proofs.Grown.{behind}
use Rattle.bh_lint.proofs.messages.put_range.Goals as goal

pub returns : goal.returns
returns c =
    behind c.put_number.result _ _ _ (codes "a whole number from " ++ decimal c.args.least ++ codes " to ") (decimal c.args.most)
    c.in_ok-put_between.ensures c.put_number.ensures
