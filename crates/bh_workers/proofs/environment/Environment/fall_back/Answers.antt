use Rattle.std.proofs.Common.{inl, inr}
use Rattle.bh_workers.proofs.Progress.{fallback_collected, fallback_refused, fallback_stepped}
use Rattle.bh_workers.proofs.environment.Environment.fall_back.Goals as goal

pub returns-in-Refused : goal.returns-in-Refused
returns-in-Refused g c =
    let a = c.args.self.now.shared.now.audited in
    let p = c.args.pass.now in
    let q = c.step_and_collect.new.pass in
    let adds = c.step_and_collect.ensures.adds in
    elim c.in-Refused.is [
      | inl is ↦
          fallback_refused g.D.Dependency.ends g.D.Dependency.fallback_ends g.C.Clock.moments a p q c.args.serial c.args.cause c.args.request.now c.fallback-end.result c.step_and_collect.new.reply (rw is at adds)
      | inr is ↦
          fallback_collected g.D.Dependency.ends g.D.Dependency.fallback_ends g.C.Clock.moments a p q c.group.result c.args.serial c.args.cause c.args.request.now c.fallback-end.result c.step_and_collect.new.reply
          c.group.ensures c.fallback-end.ensures.named (rw is at adds)
    ]

pub returns-in-Stepped : goal.returns-in-Stepped
returns-in-Stepped g c =
    fallback_stepped g.D.Dependency.ends g.D.Dependency.fallback_ends g.C.Clock.moments c.args.self.now.shared.now.audited c.args.pass.now c.step_and_collect.new.pass c.collect.new.pass c.group.result
    c.args.serial c.args.cause c.args.request.now c.fallback-end.result c.step_and_collect.new.reply c.collect.new.reply
    c.group.ensures c.fallback-end.ensures.named (rw c.in-Stepped.is at c.step_and_collect.ensures.adds) c.collect.ensures.made
