use Rattle.std.proofs.Common.{◌≡◌, map, sym, ap, subst, ◌∙◌, arith}
use Rattle.bh_base.specs.Props.{GroupProps}
use Rattle.bh_base.specs.Tunings.{group_tuned}
use Rattle.bh_base.proofs.Tuned.{tuned_shape}
use Rattle.bh_core.specs.GroupView.{IsReady}
use Rattle.bh_core.proofs.Tuned.{served_tuned}
use Rattle.bh_core.proofs.group.Group.set_property.Goals as goal

pub invariant_of-self : goal.invariant_of-self
invariant_of-self c =
    let g = c.self.inside in
    let ready = c.self.invariant in
    let P : GroupProps → Type 0 = λ p. IsReady (record g { props = p }) in
    subst P (sym c.tune.ensures) (record {
      served = served_tuned c.args.tuning.now c.args.command g.props c.requires.within ready.served;
      windows = ready.windows ∙ sym (tuned_shape c.args.tuning.now c.args.command g.props).windows;
      commands = ready.commands;
      limit = ready.limit;
      steps = ready.steps;
    })
