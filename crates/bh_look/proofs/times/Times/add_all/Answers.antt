use Rattle.std.proofs.Common.{◌≡◌, ◌+◌, ◌<◌, length, get_or, ◌∙◌, sym, ap, subst, arith, rules}
use Rattle.bh_look.specs.Times.{AreTimes, TimesView}
use Rattle.bh_look.specs.Inside.{times_of}
use Rattle.std.specs.Vec.{with_items}
use Rattle.std.proofs.lemmas.List.{with_items_is}
use Rattle.bh_port.proofs.Outcomes.{on_err}
use Rattle.bh_look.proofs.Kept.{padded_kept, with_all}
use Rattle.bh_look.proofs.times.Times.add_all.Goals as goal

pub returns-in_err-reach-clause-err : goal.returns-in_err-reach-clause-err
returns-in_err-reach-clause-err c = on_err c.from_residual.result (λ ts are.
    padded_kept ts (times_of c.self.inside) c.reach.new.numbers.items c.reach.ensures.empty (subst (λ v. AreTimes ts v) (sym c.self.view_is) are))

pub returns-clause-ok : goal.returns-clause-ok
returns-clause-ok c = λ ts us are ares few.
    let v : TimesView = times_of c.self.inside in
    let mine : AreTimes ts v = subst (λ x. AreTimes ts x) (sym c.self.view_is) are in
    let others : AreTimes us (times_of c.other.inside) = subst (λ x. AreTimes us x) (sym c.other.view_is) ares in
    let padded : AreTimes ts (record v { numbers = c.reach.new.numbers.items }) = padded_kept ts v c.reach.new.numbers.items c.reach.ensures.empty mine in
    let is = with_items_is c.reach.new.numbers c.add_each.new.numbers (omega (arith, c.add_each.auto.numbers, c.deref_mut.ensures.len)) in
    let mine_is = c.deref_mut.ensures.value in
    with_all ts us _ (times_of c.other.inside) _ padded others few (search rules) c.saturating_add-self-inside.ensures c.min-self-inside.ensures c.max-self-inside.ensures (ap length is ∙ c.add_each.ensures.count ∙ ap length mine_is)
    (λ k. subst (λ l. get_or l k 0 + get_or c.other.inside.numbers.items k 0 < 18_446_744_073_709_551_616 → get_or (with_items c.reach.new.numbers c.add_each.new.numbers).items k 0 ≡ get_or l k 0 + get_or c.other.inside.numbers.items k 0) mine_is (λ fits. let same = ap (λ l. get_or l k 0) c.deref.ensures.value in omega (arith, ap (λ l. get_or l k 0) is, same, c.add_each.ensures.each k (omega (arith, fits, same)))))
