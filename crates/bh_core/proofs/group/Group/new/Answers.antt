use Rattle.std.proofs.Common.{List, map, sym, ap, subst, ◌∙◌, arith}
use Rattle.std.specs.List.{AllByRecursion}
use Rattle.bh_base.specs.declared.props.CommandProps.{CommandProps}
use Rattle.bh_core.specs.Command.{IsCommandUpTo, window_in}
use Rattle.bh_core.proofs.Commands.{new_up_to, new_windows}
use Rattle.bh_core.proofs.group.Group.new.Goals as goal

pub invariant_of-result : goal.invariant_of-result
invariant_of-result c =
    let ps : List CommandProps = c.args.props.commands in
    record {
      served = c.requires.props;
      windows = ap (map window_in) c.requires.commands ∙ new_windows ps;
      commands = subst (AllByRecursion (IsCommandUpTo 0)) (sym c.requires.commands) (new_up_to ps c.requires.props.commands);
      limit = c.requires.limit;
      steps = omega arith;
    }
