use Rattle.std.proofs.Common.{sym, ◌∙◌}
use Rattle.bh_tickets.proofs.SinceAll.{timed_out_none}
use Rattle.bh_tickets.proofs.sweeps.time_out.Goals as goal

pub returns-then-not-may_be_due : goal.returns-then-not-may_be_due
returns-then-not-may_be_due c = timed_out_none c.args.arena.now c.args.group.now c.args.due.now c.requires.group (sym c.may_be_due.ensures ∙ c.if-not-may_be_due.true) c.requires.arena
