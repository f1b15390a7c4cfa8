use Rattle.std.proofs.Common.{◌≡◌, ◌≤◌, length, sym, ◌∙◌, subst, arith}
use Rattle.bh_base.specs.Runs.{View}
use Rattle.bh_core.specs.GroupView.{GroupView, group_view, view_in}
use Rattle.bh_core.specs.Stepping.{released_view}
use Rattle.bh_core.proofs.Commands.{have_buckets}
use Rattle.bh_core.proofs.Counting.{HaveBuckets}
use Rattle.bh_core.proofs.Own.{view_released}
use Rattle.bh_core.proofs.Stepping.{replied, stepped}
use Rattle.bh_core.proofs.Steady.{stays_steady}
use Rattle.bh_core.proofs.group.Group.apply.Goals as goal

pub returns-clause-reply : goal.returns-clause-reply
returns-clause-reply c =
    let ts = c.args.tickets.now in
    let v : View = view_in ts (group_view c.self.inside) in
    rw (← c.self.view_is) (replied v (view_in ts c.begin.new.self) c.args.op.now c.args.now c.act.new.reply (sym (rw (← c.self.view_is) at c.is_known.ensures) ∙ c.if-not-is_known.false) c.if-self.false (rw (← c.self.view_is) at c.begin.ensures.begins ts) c.act.ensures.done.reply)

pub returns-clause-view : goal.returns-clause-view
returns-clause-view c =
    let ts = c.args.tickets.now in
    let us = c.act.new.tickets in
    let vs = c.release.new.self in
    let v : View = view_in ts (group_view c.self.inside) in
    let ended : view_in vs c.act.new.self ≡ released_view (view_in us c.act.new.self) = subst (λ (g : GroupView). view_in vs g ≡ released_view (view_in us g)) c.self-2.view_is (view_released us vs (group_view c.self-2.inside) c.release.ensures.items c.release.ensures.left.next) in
    rw (← c.self.view_is) (stepped v (view_in ts c.begin.new.self) (view_in us c.act.new.self) (view_in vs c.act.new.self) c.args.op.now c.args.now
    (sym (rw (← c.self.view_is) at c.is_known.ensures) ∙ c.if-not-is_known.false) c.if-self.false (rw (← c.self.view_is) at c.begin.ensures.begins ts) c.act.ensures.done.view ended)

pub returns-clause-steady : goal.returns-clause-steady
returns-clause-steady c =
    let ts = c.args.tickets.now in
    let us = c.act.new.tickets in
    let vs = c.release.new.self in
    let ready = c.self.invariant in
    let has = c.requires.has in
    let v : View = view_in ts c.args.self.now in
    let some : HaveBuckets v.pasts = rw (← c.self.view_is) (have_buckets c.self.inside.latest c.self.inside.commands.items ready.commands) in
    let few : length v.present.tickets ≤ 4096 = rw (← c.self.view_is) (omega (arith, (rw (← c.self.view_is) at has.few), ready.served.slots)) in
    let ended : view_in vs c.act.new.self ≡ released_view (view_in us c.act.new.self) = subst (λ (g : GroupView). view_in vs g ≡ released_view (view_in us g)) c.self-2.view_is (view_released us vs (group_view c.self-2.inside) c.release.ensures.items c.release.ensures.left.next) in
    stays_steady v (view_in ts c.begin.new.self) (view_in us c.act.new.self) (view_in vs c.act.new.self) c.args.op.now c.args.now c.act.new.reply (sym c.is_known.ensures ∙ c.if-not-is_known.false) some few c.requires.steady (c.begin.ensures.begins ts) (c.begin.ensures.bounded ts has c.requires.steady) c.act.ensures.done ended
