use Rattle.std.proofs.Common.{Ok, Err, ◌∙◌, refl, subst}
use Rattle.std.proofs.lemmas.Result.{err_from_is_err_and}
use Rattle.bh_lines.specs.Names.{Names}
use Rattle.bh_control.specs.AnswerLine.{responder, IsAnswer, IsPut}
use Rattle.bh_control.specs.Taken.{TakesAsked}
use Rattle.bh_control.proofs.Holding.{holds-none, holds-one, holds-moved, holds-broken, holds-short, holds-waits, holds-refused}
use Rattle.bh_control.proofs.session.answer_lines.Goals as goal

pub loop-asked-init : goal.loop-asked-init
loop-asked-init g c = record { same_writer = refl; names = refl; none_refused = refl; holds = holds-none _ _ _ _ c.requires }

pub loop-asked-preserved : goal.loop-asked-preserved
loop-asked-preserved g c =
    let inv = c.loop-asked.invariant in
    let who = λ (names : Names). responder names g.C.Control.may_show g.C.Control.may_answer g.C.Control.may_close g.C.Control.may_total g.C.Control.may_tune g.C.Control.may_force in
    let taken = subst (λ (names : Names). TakesAsked names c.loop-asked.received (Ok c.in_ok-asked.field-0) c.next.new.self) inv.names c.in_ok-asked.ensures.taken in
    let put = subst (λ (names : Names). IsPut (IsAnswer (who names) c.in-Some.asked) c.write_before.new.answers.items c.put_answer.new.out.items) inv.names c.in_ok-put_answer.ensures.answer in
    let before = c.in_ok-write_before.ensures in record {
      same_writer = before.same_writer ∙ inv.same_writer;
      names = c.in_ok-put_answer.ensures.groups ∙ inv.names;
      none_refused = before.none_refused ∙ inv.none_refused;
      holds = holds-one _ _ _ _ _ _ _ _ _ _ (holds-moved _ _ _ _ _ _ _ _ inv.holds before.ok) c.in-Some.is taken put;
    }

pub returns-in_err-asked-clause-outcome : goal.returns-in_err-asked-clause-outcome
returns-in_err-asked-clause-outcome g c =
    let inv = c.loop-asked.invariant in
    let p = err_from_is_err_and c.from_residual.result c.from_residual.ensures.1 in
    let taken = subst (λ (names : Names). TakesAsked names c.loop-asked.received (Err c.in_err-asked.field-0.0) c.next.new.self) inv.names c.in_err-asked.ensures.taken in
    rw (p.1, p.2) (holds-refused _ _ _ _ _ _ _ _ inv.holds taken)

pub returns-in_err-write_before-clause-outcome : goal.returns-in_err-write_before-clause-outcome
returns-in_err-write_before-clause-outcome g c =
    let inv = c.loop-asked.invariant in
    let p = err_from_is_err_and c.from_residual-in_err-write_before.result c.from_residual-in_err-write_before.ensures.1 in
    let e = c.in_err-write_before.ensures in
    rw (p.1, p.2) (holds-broken _ _ _ _ _ _ _ _ _ _ inv.holds e.front e.err.0)

pub returns-in_err-put_answer-clause-outcome : goal.returns-in_err-put_answer-clause-outcome
returns-in_err-put_answer-clause-outcome g c =
    let inv = c.loop-asked.invariant in
    let p = err_from_is_err_and c.from_residual-in_err-put_answer.result c.from_residual-in_err-put_answer.ensures.1 in
    rw p.1 (holds-short _ _ _ _ _ _ _ _ p.0 (holds-moved _ _ _ _ _ _ _ _ inv.holds c.in_ok-write_before.ensures.ok) c.in_err-put_answer.ensures.kept p.2)

pub returns-clause-outcome : goal.returns-clause-outcome
returns-clause-outcome g c =
    let inv = c.loop-asked.invariant in
    let taken = subst (λ (names : Names). TakesAsked names c.loop-asked.received (Ok c.in_ok-asked.field-0) c.next.new.self) inv.names c.in_ok-asked.ensures.taken in
    holds-waits _ _ _ _ _ _ _ _ inv.holds c.in_default.is taken
