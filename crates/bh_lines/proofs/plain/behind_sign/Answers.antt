use Rattle.std.proofs.Common.{refl}
use Rattle.bh_lines.proofs.PlainReading.{sign_stands, sign_behind_space}
use Rattle.bh_lines.proofs.plain.behind_sign.Goals as goal

pub returns-then-is_at : goal.returns-then-is_at
returns-then-is_at c = sign_stands c.args.line.now c.args.place c.args.sign (c.if-is_at.ensures.stands refl) (c.if-is_at.ensures.within refl)

pub returns-then-is_at-3 : goal.returns-then-is_at-3
returns-then-is_at-3 c =
    sign_behind_space c.args.line.now c.args.place c.args.sign (c.if-is_at-2.ensures.stands refl) (c.if-is_at-3.ensures.stands refl) (c.if-is_at-3.ensures.within refl)
