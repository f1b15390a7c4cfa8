use Rattle.std.proofs.Common.{◌∙◌, ap, arith}
use Rattle.bh_base.specs.Props.{GroupProps}
use Rattle.bh_core.specs.CoreView.{in_force}
use Rattle.bh_journal.specs.Replay.{empty_journal}
use Rattle.bh_audit.proofs.Accounting.{listed_next}
use Rattle.bh_audit.proofs.book.open_journals.Goals as goal

pub loop-number-preserved : goal.loop-number-preserved
loop-number-preserved c =
    listed_next (λ life. empty_journal (in_force life).0 c.args.steps) c.args.core.now.lives c.loop-number.number c.in_ok-new.field-0 c.loop-number.journals.items c.push.new.self.items (omega arith)
    c.loop-number.invariant (λ life at. c.in_ok-new.ensures ∙ ap (λ (p : GroupProps). empty_journal p c.args.steps) (c.in-Some.ensures.known life at).0) c.in_ok-push.ensures.items
