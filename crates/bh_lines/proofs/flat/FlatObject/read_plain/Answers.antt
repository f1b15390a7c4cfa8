use Rattle.std.proofs.Common.{refl, arith}
use Rattle.bh_lines.proofs.flat.FlatObject.read_plain.Goals as goal

pub overflow_sub-self : goal.overflow_sub-self
overflow_sub-self c = omega (arith, (c.in-UpTo.ensures.front c.in-UpTo.name refl).0)
