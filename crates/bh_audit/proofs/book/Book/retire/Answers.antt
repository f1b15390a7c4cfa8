use Rattle.bh_audit.proofs.Journals.{audited_retired}
use Rattle.bh_audit.proofs.Quiet.{quiet_retired}
use Rattle.bh_audit.proofs.book.Book.retire.Goals as goal

pub invariant_of-self : goal.invariant_of-self
invariant_of-self c = (
  λ audited. audited_retired c.self.inside.core c.retire.new.self c.self.inside.journals.items c.args.group.0 c.retire.result c.retire.ensures.ended c.retire.ensures.err (c.self.invariant.0 audited),
  quiet_retired c.self.inside.core c.retire.new.self c.self.inside.quiet_until.items c.args.group.0 c.retire.result c.retire.ensures.ended c.retire.ensures.err c.self.invariant.1,
)
