use Rattle.std.proofs.Common.{◌≡◌, ◌≤◌, max, min, subst, arith}
use Rattle.bh_columns.specs.Panels.{HasAddedTime, HasSpent}
use Rattle.bh_columns.specs.Tracks.{IsReach}
use Rattle.bh_columns.proofs.Lanes.{time_added, time_nothing}
use Rattle.bh_columns.proofs.Lists.{each_same, each_weaker}
use Rattle.bh_columns.proofs.panel.KeptPanel.add_time.Goals as goal

pub returns-then-since-until-clause-lanes : goal.returns-then-since-until-clause-lanes
returns-then-since-until-clause-lanes c =
    let width = c.args.grid.now.width in
    let when = c.args.when.now in
    let s = max when.since when.from in
    let u = min when.moment when.to in
    let r = c.reach.result in
    let s_is : c.max-since.result ≡ s = c.max-since.ensures in
    let u_is : c.min-until.result ≡ u = c.min-until.ensures in
    let reach : IsReach r s u = subst (λ n. IsReach r n u) s_is (subst (λ n. IsReach r c.max-since.result n) u_is (c.reach.ensures.reach c.if-since-until.true)) in
    each_weaker c.args.self.now.lanes.items c.spend.new.self.lanes.items (λ k lane next. HasSpent r c.max-since.result c.min-until.result lane next) (λ k lane next. HasAddedTime width when lane next)
    (λ k x y spent. time_added width when r x y c.reach.ensures.width reach (subst (λ n. HasSpent r n u x y) s_is (subst (λ n. HasSpent r c.max-since.result n x y) u_is spent)))
    c.spend.ensures.lanes

pub returns-else-since-until-clause-lanes : goal.returns-else-since-until-clause-lanes
returns-else-since-until-clause-lanes c =
    let when = c.args.when.now in
    let none : min when.moment when.to ≤ max when.since when.from = omega (arith, c.if-since-until.false, c.max-since.ensures, c.min-until.ensures) in
    each_same c.args.self.now.lanes.items (λ k lane next. HasAddedTime c.args.grid.now.width when lane next) (λ k x. time_nothing c.args.grid.now.width when x none)
