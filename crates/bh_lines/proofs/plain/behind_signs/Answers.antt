use Rattle.std.proofs.Common.{refl}
use Rattle.bh_lines.proofs.PlainReading.{signs_stand}
use Rattle.bh_lines.proofs.plain.behind_signs.Goals as goal

pub returns-then-are_at : goal.returns-then-are_at
returns-then-are_at c =
    signs_stand c.args.line.now c.args.place c.args.first c.args.second (c.if-are_at.ensures.stands refl) (c.if-are_at.ensures.within refl)
