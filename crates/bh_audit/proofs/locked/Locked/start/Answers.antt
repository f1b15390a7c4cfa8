use Rattle.bh_audit.proofs.Looking.{start_told, starts}
use Rattle.bh_audit.proofs.locked.Locked.start.Goals as goal

pub returns : goal.returns
returns g c = record {
  now = c.now-now.result;
  named = c.now-now.ensures;
  made = rw c.group-group.ensures at c.step.ensures;
  adds = start_told _ _ c.args.pass.now c.step.new.pass c.now-now.result c.now-now.ensures c.step.new.reply
      (λ run worn none. starts c.args.self.now.book.groups _ c.group-group.result c.now-now.result c.step.new.reply c.step.ensures.groups (rw c.group-group.ensures c.requires.ready) run worn none)
      (rw c.group-group.ensures at c.step.ensures.adds);
}
