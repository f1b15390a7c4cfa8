use Rattle.bh_port.proofs.Keeping.{of_step}
use Rattle.bh_port.proofs.groups.Groups.apply_to.Goals as goal

pub invariant_of-self : goal.invariant_of-self
invariant_of-self c = (c.self.invariant.0, of_step c.self.inside.core c.apply_to.new.self c.self.inside.entries.items (record { group = c.args.group; now = c.args.now; op = c.args.op.now }) c.apply_to.new.reply c.apply_to.ensures c.self.invariant.1, c.self.invariant.2)
