use Rattle.std.proofs.Common.{◌∙◌, ap}
use Rattle.std.specs.Prelude.{slice_get}
use Rattle.bh_core.specs.CoreView.{living}
use Rattle.bh_core.proofs.OneOfMany.{shown_living}
use Rattle.bh_audit.specs.Calls.{workers_of}
use Rattle.bh_audit.proofs.locked.Locked.workers.Goals as goal

pub returns-in-Some-clause-known : goal.returns-in-Some-clause-known
returns-in-Some-clause-known g c = λ v shown.
    let life = shown_living (slice_get c.core.result.now.lives c.args.group.0) v (rw (← c.core.ensures) at shown) in
    c.workers_of.ensures ∙ ap workers_of (c.in-Some.ensures.known (living v) life).0
