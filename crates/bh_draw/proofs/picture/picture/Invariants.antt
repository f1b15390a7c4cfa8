-- What was drawn last is a whole picture.
use Rattle.std.proofs.Common.{codes}
use Rattle.bh_draw.specs.Texts.{EndsIn}
use Rattle.bh_draw.proofs.picture.picture.Given as goal

abbrev pub invariant-loop : goal.invariant-loop
invariant-loop l = EndsIn (codes "</svg>\n") l.drawn
