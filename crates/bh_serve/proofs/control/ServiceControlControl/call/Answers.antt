use Rattle.std.proofs.Common.{Ok, subst}
use Rattle.bh_base.specs.declared.reply.Answer.{Answer}
use Rattle.bh_serve.specs.Served.{IsCalled}
use Rattle.bh_serve.proofs.Called.{same_answer}
use Rattle.bh_serve.proofs.control.ServiceControlControl.call.Goals as goal

-- the answer that the reply tells is that of the call
pub returns-clause-made : goal.returns-clause-made
returns-clause-made g c =
    let made = c.in_ok-call_to.ensures.made in
    let P : Answer → Type 0 = λ x. IsCalled g.D.Dependency.ends g.D.Dependency.fallback_ends g.C.Clock.moments c.args.self.now.service c.args.group c.args.request (Ok x) c.call_to.new.self.last in
    subst P (same_answer c.call_to.new.reply made.0 c.in-Answered.answer made.1 c.in-Answered.is) made.2
