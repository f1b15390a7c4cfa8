use Rattle.std.proofs.Common.{inl, inr, refl}
use Rattle.bh_base.specs.declared.reply.Reply.{Reply}
use Rattle.bh_base.specs.declared.reply.Reply.TheVariants as reply
use Rattle.bh_workers.specs.Calls.{result_of}
use Rattle.bh_workers.proofs.Calling.{call_is, finds_full, finds_missing, finds_no_group, finds_worn, runs, waits}
use Rattle.bh_workers.proofs.environment.Environment.submit.Goals as goal

pub returns-in-Queued : goal.returns-in-Queued
returns-in-Queued g c =
    let a = c.args.self.now.shared.now.audited in
    let p = c.args.pass.now in
    let q = c.settle.new.pass in
    let serial = c.in-Queued.serial in
    let adds = c.make_step.ensures.adds in
    let result = result_of c.settle.new.reply in
    let waited = λ (answer : Reply). waits g.D.Dependency.ends g.D.Dependency.fallback_ends g.C.Clock.moments a p c.make_step.new.pass q c.args.request.now serial answer result in
    call_is g.D.Dependency.ends g.D.Dependency.fallback_ends g.C.Clock.moments a p q c.args.request.now result
    (elim c.in-Queued.is [
      | inl is ↦ waited (reply.Queued serial) refl (rw is at adds) (λ r h. inl h) c.settle.ensures
      | inr (inl is) ↦ waited (reply.Joined serial) refl (rw is at adds) (λ r h. inr (inl h)) c.settle.ensures
      | inr (inr (cause, is)) ↦ waited (reply.FallbackDue serial cause) refl (rw is at adds) (λ r h. inr (inr (cause, h))) c.settle.ensures
    ])

pub returns-in-Inline : goal.returns-in-Inline
returns-in-Inline g c =
    let a = c.args.self.now.shared.now.audited in
    let p = c.args.pass.now in
    let q = c.run_inline.new.pass in
    let result = result_of c.run_inline.new.reply in
    call_is g.D.Dependency.ends g.D.Dependency.fallback_ends g.C.Clock.moments a p q c.args.request.now result
    (runs g.D.Dependency.ends g.D.Dependency.fallback_ends g.C.Clock.moments a p c.make_step.new.pass q c.args.request.now c.in-Inline.serial result
    (rw c.in-Inline.is at c.make_step.ensures.adds) c.run_inline.ensures)

pub returns-in-GroupFull : goal.returns-in-GroupFull
returns-in-GroupFull g c =
    let D = g.D.Dependency.ends in
    let F = g.D.Dependency.fallback_ends in
    let M = g.C.Clock.moments in
    let a = c.args.self.now.shared.now.audited in
    let p = c.args.pass.now in
    let q = c.make_step.new.pass in
    let request = c.args.request.now in
    let adds = c.make_step.ensures.adds in
    elim c.in-GroupFull.is [
      | inl is ↦ rw is (finds_full D F M a p q request (rw is at adds))
      | inr (inl is) ↦ rw is (finds_worn D F M a p q request (rw is at adds))
      | inr (inr (inl is)) ↦ rw is (finds_no_group D F M a p q request (rw is at adds))
      | inr (inr (inr is)) ↦ rw is (finds_missing D F M a p q request (rw is at adds) (c.make_step.ensures.missing is))
    ]
