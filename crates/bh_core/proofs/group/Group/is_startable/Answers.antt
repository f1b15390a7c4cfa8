use Rattle.std.proofs.Common.{◌≡◌, false, true, sym, ap, ◌∙◌}
use Rattle.std.specs.Prelude.{nat_lt}
use Rattle.std.specs.List.{list_any}
use Rattle.bh_base.specs.Machine.{pool_busy_count}
use Rattle.bh_base.specs.Runs.{View, is_worn}
use Rattle.bh_base.specs.Tickets.{is_queued}
use Rattle.bh_core.specs.GroupView.{group_view, view_in}
use Rattle.bh_core.proofs.Looks.{none_queued, some_queued}
use Rattle.bh_core.proofs.group.Group.is_startable.Goals as goal

pub returns-then-any_queued : goal.returns-then-any_queued
returns-then-any_queued c = λ moment.
    let v : View = view_in c.args.tickets.now (group_view c.self.inside) in
    let fresh : is_worn v.present ≡ false = sym (rw (← c.self.view_is) at c.is_worn.ensures) ∙ c.if-is_worn.false in
    let counted : c.pool_busy_count.result ≡ pool_busy_count v.present = rw (← c.self.view_is) at c.pool_busy_count.ensures in
    let workers : c.workers.result ≡ v.present.props.core = rw (← c.self.view_is) at c.workers.ensures in
    let some : list_any is_queued v.present.tickets ≡ true = sym c.any_queued.ensures ∙ c.if-any_queued.true in
    rw (← c.self.view_is) (ap (λ n. nat_lt n c.workers.result) counted ∙ ap (nat_lt (pool_busy_count v.present)) workers ∙ sym (some_queued v moment fresh some))

pub returns-else-any_queued : goal.returns-else-any_queued
returns-else-any_queued c = λ moment.
    let v : View = view_in c.args.tickets.now (group_view c.self.inside) in
    let fresh : is_worn v.present ≡ false = sym (rw (← c.self.view_is) at c.is_worn.ensures) ∙ c.if-is_worn.false in
    let none : list_any is_queued v.present.tickets ≡ false = sym c.any_queued.ensures ∙ c.if-any_queued.false in
    rw (← c.self.view_is) (c.if-any_queued.false ∙ sym (none_queued v moment fresh none))
