use Rattle.std.proofs.Common.{◌≡◌, ◌+◌, ◌∷◌, drop, refl, sym, ap, ◌∙◌}
use Rattle.json.specs.Lex.{between, lex}
use Rattle.bh_lines.proofs.PlainReading.{lex-space}
use Rattle.bh_lines.proofs.plain.past_space.Goals as goal

pub returns-then-is_at : goal.returns-then-is_at
returns-then-is_at c =
    let line = c.args.line.now in
    let place = c.args.place in
    let is : drop place line ≡ 32 ∷ drop (place + 1) line = c.if-is_at.ensures.stands refl in
    sym (ap (lex between) is ∙ lex-space (drop (place + 1) line))
