use Rattle.std.proofs.Common.{◌∙◌, ap}
use Rattle.std.specs.Prelude.{slice_get}
use Rattle.bh_base.specs.Props.{GroupProps}
use Rattle.bh_core.specs.CoreView.{living}
use Rattle.bh_core.proofs.OneOfMany.{shown_living}
use Rattle.bh_in_force.specs.Properties.{in_force_found}
use Rattle.bh_audit.proofs.locked.Locked.in_force.Goals as goal

pub returns-in-Some-clause-known : goal.returns-in-Some-clause-known
returns-in-Some-clause-known g c = λ v shown.
    let life = shown_living (slice_get c.core.result.now.lives c.args.group.0) v (rw (← c.core.ensures) at shown) in
    c.find.ensures ∙ ap (λ (p : GroupProps). in_force_found c.args.command p) (c.in-Some.ensures.known (living v) life).0
