use Rattle.std.proofs.Common.{Err, subst, sym, ap}
use Rattle.bh_base.specs.Ranges.{IsInRange}
use Rattle.bh_core.specs.declared.service.acts.Act.{Act}
use Rattle.bh_core.specs.declared.service.acts.Outcome.TheVariants as outcome
use Rattle.bh_core.specs.Acts.{IsAct}
use Rattle.bh_core.proofs.Acting.{all_at, asked_props, registered_act, unregistered_act}
use Rattle.bh_core.proofs.service.Core.act.Goals as goal

pub register-requires-clause-props : goal.register-requires-clause-props
register-requires-clause-props c =
    all_at IsInRange c.args.props.now c.in-Register.place c.index-props-place.result c.requires.props (asked_props c.args.props.now c.args.act.now c.in-Register.place c.in-Register.step_limit c.index-props-place.result c.requires.act c.in-Register.is c.index-props-place.is)

pub returns-in-Ok : goal.returns-in-Ok
returns-in-Ok c =
    let at = asked_props c.args.props.now c.args.act.now c.in-Register.place c.in-Register.step_limit c.index-props-place.result c.requires.act c.in-Register.is c.index-props-place.is in
    let P : Act → Type 0 = λ a. IsAct c.args.props.now c.args.self.now (a, outcome.Registered c.in-Ok.id) c.register.new.self in
    subst P (sym c.in-Register.is)
    (registered_act c.args.props.now c.in-Register.place c.in-Register.step_limit c.index-props-place.result c.args.self.now c.register.new.self c.in-Ok.id at c.in-Ok.ensures.number (λ h. let both = c.in-Ok.ensures.many.1 h in absurd cc) (λ h. let both = c.in-Ok.ensures.room.1 h in absurd cc) c.in-Ok.ensures.added)

pub returns-in-Err : goal.returns-in-Err
returns-in-Err c =
    let at = asked_props c.args.props.now c.args.act.now c.in-Register.place c.in-Register.step_limit c.index-props-place.result c.requires.act c.in-Register.is c.index-props-place.is in
    let P : Act → Type 0 = λ a. IsAct c.args.props.now c.args.self.now (a, outcome.NotRegistered c.in-Err.error) c.register.new.self in
    subst P (sym c.in-Register.is)
    (unregistered_act c.args.props.now c.in-Register.place c.in-Register.step_limit c.index-props-place.result c.args.self.now c.register.new.self c.in-Err.error at
    (λ e. c.in-Err.ensures.many.0 (ap Err e)) (λ h. let both = c.in-Err.ensures.many.1 h in cc) (λ e. c.in-Err.ensures.room.0 (ap Err e)) (λ h. let both = c.in-Err.ensures.room.1 h in cc) c.in-Err.ensures.err)
