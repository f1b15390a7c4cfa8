use Rattle.std.proofs.Common.{◌≡◌, false, Some, refl, sym, ◌∙◌}
use Rattle.std.specs.Prelude.{find}
use Rattle.bh_base.specs.Runs.{View, is_worn}
use Rattle.bh_base.specs.Tickets.{is_held_at}
use Rattle.bh_core.specs.GroupView.{group_view, view_in}
use Rattle.bh_core.proofs.Looks.{collect_seen, unheld_not_pending}
use Rattle.bh_core.proofs.group.Group.is_pending.Goals as goal

pub returns-in-None : goal.returns-in-None
returns-in-None c = λ moment.
    let v : View = view_in c.args.tickets.now (group_view c.self.inside) in
    let fresh : is_worn v.present ≡ false = sym (rw (← c.self.view_is) at c.is_worn.ensures) ∙ c.if-is_worn.false in
    rw (← c.self.view_is) (unheld_not_pending v c.args.serial moment fresh (c.in-None.ensures.none refl))

pub returns-in-Some : goal.returns-in-Some
returns-in-Some c = λ moment.
    let v : View = view_in c.args.tickets.now (group_view c.self.inside) in
    let fresh : is_worn v.present ≡ false = sym (rw (← c.self.view_is) at c.is_worn.ensures) ∙ c.if-is_worn.false in
    let same : Some c.in-Some.ensures.found.ticket ≡ Some c.get.result.now = sym c.in-Some.ensures.found.here ∙ c.get.ensures in
    let held : find (is_held_at c.args.serial) v.present.tickets ≡ Some c.get.result.now = c.in-Some.ensures.found.first ∙ same in
    rw (← c.self.view_is) (c.is_unanswered.ensures ∙ collect_seen v c.args.serial moment c.get.result.now fresh held)
