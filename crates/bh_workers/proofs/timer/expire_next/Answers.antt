use Rattle.std.proofs.Common.{get_or}
use Rattle.std.proofs.lemmas.Option.{slice_get-get_or}
use Rattle.bh_workers.proofs.Expiring.{all_untouched, one_more}
use Rattle.bh_workers.proofs.timer.expire_next.Goals as goal

pub returns-in-Some-clause-timed : goal.returns-in-Some-clause-timed
returns-in-Some-clause-timed g c =
    let passes = c.args.passes.now in
    let due = c.in-Some.due in
    let pass = c.index-passes-due.result in
    one_more g.C.Clock.moments c.args.shared.now.audited passes passes due (get_or passes due pass) c.expire.new.pass (all_untouched g.C.Clock.moments c.args.shared.now.audited passes)
    (slice_get-get_or passes due pass c.in-Some.ensures.2) c.expire.ensures
