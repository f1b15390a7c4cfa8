use Rattle.bh_audit.proofs.Looking.{due_within}
use Rattle.bh_audit.proofs.shared.Shared.first_due.Goals as goal

pub returns : goal.returns
returns g c =
    let asked = c.look.ensures in
    due_within _ c.args.self.now.audited c.args.passes asked.0 asked.1 asked.2 c.look.result asked.3 c.in-Due.place c.in-Due.is asked.4
