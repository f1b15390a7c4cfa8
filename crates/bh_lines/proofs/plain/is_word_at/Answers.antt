use Rattle.bh_lines.proofs.PlainReading.{word_stands}
use Rattle.bh_lines.proofs.plain.is_word_at.Goals as goal

pub returns-then-place-bytes-clause-stands : goal.returns-then-place-bytes-clause-stands
returns-then-place-bytes-clause-stands c =
    word_stands c.args.line.now _ c.args.word.now _ c.args.place _ c.as_bytes-bytes.ensures.value c.as_bytes-word.ensures.value c.starts_with.ensures.value
