use Rattle.bh_audit.proofs.Waking.{keeps_wake_ups}
use Rattle.bh_audit.proofs.locked.Locked.make.Goals as goal

pub returns-then-audited-clause-told : goal.returns-then-audited-clause-told
returns-then-audited-clause-told g c =
    keeps_wake_ups _ _ c.args.step.now c.apply_to-place.new.reply c.freed-freed.result c.startable-was_startable.result c.apply_to-place.ensures.groups
    (λ v m at. (rw c.core.ensures at c.startable-was_startable.ensures.known) v m at)
    c.freed-freed.ensures.worker c.freed-freed.ensures.next_worker c.freed-freed.ensures.worn c.freed-freed.ensures.fresh

pub returns-else-audited-clause-told : goal.returns-else-audited-clause-told
returns-else-audited-clause-told g c =
    keeps_wake_ups _ _ c.args.step.now c.apply_to-place.new.reply c.freed-freed.result c.startable-was_startable.result c.apply_to-place.ensures.groups
    (λ v m at. (rw c.core.ensures at c.startable-was_startable.ensures.known) v m at)
    c.freed-freed.ensures.worker c.freed-freed.ensures.next_worker c.freed-freed.ensures.worn c.freed-freed.ensures.fresh

pub returns-in_default-clause-told : goal.returns-in_default-clause-told
returns-in_default-clause-told g c =
    keeps_wake_ups _ _ c.args.step.now c.apply_to-place.new.reply c.freed-freed.result c.startable-was_startable.result c.apply_to-place.ensures.groups
    (λ v m at. (rw c.core.ensures at c.startable-was_startable.ensures.known) v m at)
    c.freed-freed.ensures.worker c.freed-freed.ensures.next_worker c.freed-freed.ensures.worn c.freed-freed.ensures.fresh
