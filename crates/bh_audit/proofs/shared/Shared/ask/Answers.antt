use Rattle.std.proofs.Common.{true, false}
use Rattle.bh_audit.proofs.Turns.{did_so}
use Rattle.bh_audit.proofs.shared.Shared.ask.Goals as goal
use Rattle.bh_audit.proofs.shared.Shared.ask.Goals.{in-Audited, in-Plain}

pub returns-in_default : goal.returns-in_default
returns-in_default g c = elim c.match-self.branch [
  | in-Audited w ↦
      did_so g.C.Clock.moments true c.args.self.now.audited c.args.ask.now c.args.pass.now w.ask.new.pass c.match-self.pass w.ask.new.reply c.match-self.reply w.ask.result c.match-self.said
      (rw (← c.self.view_is, w.in-Audited.is)) w.pass-is w.reply-is w.said-is w.ask.ensures
  | in-Plain w ↦
      did_so g.C.Clock.moments false c.args.self.now.audited c.args.ask.now c.args.pass.now w.ask-in-Plain.new.pass c.match-self.pass w.ask-in-Plain.new.reply c.match-self.reply w.ask-in-Plain.result c.match-self.said
      (rw (← c.self.view_is, w.in-Plain.is)) w.pass-is w.reply-is w.said-is w.ask-in-Plain.ensures
]
