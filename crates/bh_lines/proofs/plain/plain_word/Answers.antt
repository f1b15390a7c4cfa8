use Rattle.std.proofs.Common.{◌+◌, drop, refl}
use Rattle.bh_lines.proofs.PlainReading.{true_scalar, false_scalar, null_scalar}
use Rattle.bh_lines.proofs.plain.plain_word.Goals as goal

pub returns-then-is_word_at : goal.returns-then-is_word_at
returns-then-is_word_at c =
    let line = c.args.line.now in
    true_scalar (drop c.args.place line) (drop (c.args.place + 4) line) (c.if-is_word_at.ensures.stands refl)

pub returns-then-is_word_at-2 : goal.returns-then-is_word_at-2
returns-then-is_word_at-2 c =
    let line = c.args.line.now in
    false_scalar (drop c.args.place line) (drop (c.args.place + 5) line) (c.if-is_word_at-2.ensures.stands refl)

pub returns : goal.returns
returns c =
    let line = c.args.line.now in
    null_scalar (drop c.args.place line) (drop (c.args.place + 4) line) (c.if-not-is_word_at.ensures.stands refl)
