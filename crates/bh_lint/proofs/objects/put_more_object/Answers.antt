use Rattle.bh_lint.proofs.Floatless.{more-floatless}
use Rattle.bh_lint.proofs.objects.put_more_object.Goals as goal

pub put_value-requires : goal.put_value-requires
put_value-requires c = rw c.in_ok-value.ensures (more-floatless c.args.file.now c.args.more)
