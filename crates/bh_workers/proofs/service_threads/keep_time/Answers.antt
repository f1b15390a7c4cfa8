use Rattle.std.proofs.Common.{sym, List, subst}
use Rattle.std.specs.List.{AllByRecursion}
use Rattle.bh_journal.specs.Passes.{PassView}
use Rattle.bh_workers.specs.Timing.{AreTimed}
use Rattle.bh_workers.specs.Driving.{IsTimerPass}
use Rattle.bh_workers.proofs.Drives.{timer_passes, whole_back}
use Rattle.bh_workers.proofs.service_threads.keep_time.Goals as goal

pub returns : goal.returns
returns g c =
    let P : List PassView → Type 0 = λ x. AreTimed g.C.Clock.moments c.args.environment.now.shared.now.audited x c.timer_loop.new.passes in
    let timed : AreTimed g.C.Clock.moments c.args.environment.now.shared.now.audited c.args.passes.items c.timer_loop.new.passes = subst P c.as_mut_slice.ensures.value c.timer_loop.ensures in
    let All : List PassView → Type 0 = AllByRecursion (IsTimerPass g.C.Clock.moments) in
    subst All (sym (whole_back c.args.passes.len c.timer_loop.new.passes c.args.passes.items timed.count c.args.passes.ok.0))
    (timer_passes g.C.Clock.moments c.args.environment.now.shared.now.audited c.args.passes.items c.timer_loop.new.passes c.requires timed)
