use Rattle.std.proofs.Common.{get_or, set, ◌∙◌, sym, ap, subst, arith}
use Rattle.bh_look.specs.Times.{AreTimes, TimesView}
use Rattle.bh_look.specs.Inside.{times_of}
use Rattle.bh_look.specs.Tallies.{sum_up_to}
use Rattle.std.proofs.lemmas.List.{with_items_is}
use Rattle.bh_port.proofs.Outcomes.{on_err}
use Rattle.bh_look.proofs.Kept.{padded_kept, with_one}
use Rattle.bh_look.proofs.times.Times.add.Goals as goal

pub returns-in_err-reach-clause-err : goal.returns-in_err-reach-clause-err
returns-in_err-reach-clause-err c = on_err c.from_residual.result (λ ts are.
    padded_kept ts (times_of c.self.inside) c.reach.new.numbers.items c.reach.ensures.empty (subst (λ v. AreTimes ts v) (sym c.self.view_is) are))

pub returns-clause-ok : goal.returns-clause-ok
returns-clause-ok c = λ ts are few.
    let v : TimesView = times_of c.self.inside in
    let mine : AreTimes ts v = subst (λ x. AreTimes ts x) (sym c.self.view_is) are in
    let padded : AreTimes ts (record v { numbers = c.reach.new.numbers.items }) = padded_kept ts v c.reach.new.numbers.items c.reach.ensures.empty mine in
    with_one ts c.args.milliseconds c.grade_of-grade.result _ _ padded few (omega (arith, c.in_ok-reach.ensures.enough)) c.grade_of-grade.ensures.from c.grade_of-grade.ensures.to c.saturating_add-self-inside.ensures c.min-self-inside.ensures c.max-self-inside.ensures (with_items_is c.reach.new.numbers c.add_to.new.numbers (omega (arith, c.add_to.auto.numbers, c.deref_mut.ensures.len)) ∙ c.add_to.ensures ∙ ap (λ l. set l c.grade_of-grade.result (sum_up_to (get_or l c.grade_of-grade.result 0) 1)) c.deref_mut.ensures.value)
