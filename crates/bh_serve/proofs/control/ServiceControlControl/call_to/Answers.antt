use Rattle.std.proofs.Common.{ap, refl}
use Rattle.bh_serve.specs.ServiceControlView.{ServiceControlView}
use Rattle.bh_serve.proofs.Called.{called, may_answer}
use Rattle.bh_serve.proofs.control.ServiceControlControl.call_to.Goals as goal

pub returns-clause-made : goal.returns-clause-made
returns-clause-made g c =
    called g.D.Dependency.ends g.D.Dependency.fallback_ends g.C.Clock.moments c.self.inside.shared.now c.args.self.now.service c.in-Ok.pass c.call_to-told.new.pass c.args.group c.args.request.now c.call_to-told.new.reply c.call_to-told.result
    (ap (λ (v : ServiceControlView). v.service) c.self.view_is) c.in-Ok.ensures.blank c.call_to-told.ensures.call

pub returns-clause-answer : goal.returns-clause-answer
returns-clause-answer g c =
    let service = c.self.inside.shared.now in
    may_answer g.D.Dependency.ends g.D.Dependency.fallback_ends g.C.Clock.moments service c.call_to-told.new.pass c.args.group c.args.request.now c.call_to-told.new.reply c.call_to-told.result
    (called g.D.Dependency.ends g.D.Dependency.fallback_ends g.C.Clock.moments service service c.in-Ok.pass c.call_to-told.new.pass c.args.group c.args.request.now c.call_to-told.new.reply c.call_to-told.result
    refl c.in-Ok.ensures.blank c.call_to-told.ensures.call)
