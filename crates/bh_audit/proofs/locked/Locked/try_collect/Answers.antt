use Rattle.std.proofs.Common.{◌≡◌, true, false, sym, ◌∙◌}
use Rattle.bh_base.specs.declared.reply.Reply.TheVariants as replies
use Rattle.bh_audit.proofs.Looking.{collect_told, collects}
use Rattle.bh_audit.proofs.locked.Locked.try_collect.Goals as goal
use Rattle.bh_audit.proofs.locked.Locked.try_collect.Goals.{else-not-self-via-then-not-self+else-pending, else-not-self-via-else-not-self, in-Pending, in_default}

pub returns-then-matches-clause-does : goal.returns-then-matches-clause-does
returns-then-matches-clause-does g c =
    let pending : c.step-freed.new.reply ≡ replies.Pending = elim c.match-matches.branch [
      | in-Pending w ↦ w.in-Pending.is
      | in_default w ↦ (let both : true ≡ false = sym c.if-matches.true ∙ w.matches-is in absurd cc)
    ] in
    record {
      now = c.now-now.result;
      between = c.step-freed.new.pass;
      named = c.now-now.ensures;
      made = rw c.group-group.ensures at c.step-freed.ensures;
      was_stopped = λ is. elim c.else-not-self.branch [
        | else-not-self-via-then-not-self+else-pending w ↦
            let waits : c.step-freed.new.reply ≡ replies.Pending = is in
            absurd (collects c.args.self.now.book.groups _ c.group-group.result c.args.serial c.now-now.result c.step-freed.new.reply w.pending.result c.step-freed.ensures.groups w.if-pending.false
            (rw w.core.ensures at w.pending.ensures.known) waits)
        | else-not-self-via-else-not-self w ↦ w.if-not-self.false
      ];
      adds = collect_told _ _ c.args.pass.now c.step-freed.new.pass _ c.args.serial c.now-now.result c.now-now.ensures c.step-freed.new.reply pending (rw c.group-group.ensures at c.step-freed.ensures.adds) c.mark_stopped.ensures;
    }
