use Rattle.std.proofs.Common.{[], refl, sym, ap}
use Rattle.bh_base.specs.declared.reply.Reply.{Reply}
use Rattle.bh_base.specs.Machine.{answers, metrics}
use Rattle.bh_base.specs.Runs.{View}
use Rattle.bh_core.specs.GroupView.{group_view, view_in}
use Rattle.bh_core.specs.Stepping.{rolling_now}
use Rattle.bh_core.proofs.Ops.{done_quiet}
use Rattle.bh_core.proofs.group.Group.read.Goals as goal

pub returns : goal.returns
returns c =
    let n = c.args.command in
    let v : View = view_in c.args.tickets.now (group_view c.self.inside) in
    let told = rw (← c.self.view_is) at c.metrics_at.ensures in
    rw (← c.self.view_is) (done_quiet v (answers (metrics n (rolling_now v n) v.present) [] v.present) _ v.present v
    (ap (λ (r : Reply). answers r [] v.present) (sym told))
    refl)
