use Rattle.std.proofs.Common.{◌∷◌, [], ◌++◌, ap, sym, ◌∙◌, subst}
use Rattle.bh_base.specs.Ranges.{IsInRange}
use Rattle.bh_port.specs.Entries.{new_entry}
use Rattle.bh_port.specs.Kept.{AreOf}
use Rattle.bh_port.proofs.Keeping.{of_opened}
use Rattle.bh_port.proofs.Lists.{every_at}
use Rattle.bh_port.proofs.groups.Groups.register.Goals as goal

pub register-requires-clause-props : goal.register-requires-clause-props
register-requires-clause-props c = every_at (λ group. IsInRange group.1) c.args.settings.now.groups.entries c.args.like (c.in-Some._name.now, c.in-Some.props.now) c.args.settings.now.in_range (sym c.in-Some.ensures.entry)

pub invariant_of-self-in-Ok : goal.invariant_of-self-in-Ok
invariant_of-self-in-Ok c = (
  c.list.ensures.numbered,
  subst (AreOf c.register.new.self) (sym (c.list.ensures.entries ∙ ap (λ es. es ++ new_entry c.args.name c.args.like ∷ []) c.make_room.ensures.entries))
      (of_opened c.self.inside.core c.register.new.self c.self.inside.entries.items c.args.name c.args.like c.in-Some.props.now c.step_limit.result c.in-Ok.ensures.added c.self.invariant.1),
  c.list.ensures.latest,
)
