use Rattle.std.proofs.Common.{arith, refl}
use Rattle.bh_lines.proofs.Escapes.{says_letter, says_number}
use Rattle.bh_lines.proofs.escaped.escape_at.Goals as goal

pub returns-then-bytes-place-eq117-clause-says : goal.returns-then-bytes-place-eq117-clause-says
returns-then-bytes-place-eq117-clause-says c =
    let bytes = c.as_bytes-bytes.result.now in
    says_number c.args.line.now bytes c.args.place c.in_ok-character.character c.as_bytes-bytes.ensures.value (c.if-not-is_at.ensures.stands refl) (omega (arith, c.if-place-bytes.false)) c.if-bytes-place-eq117.true c.in_ok-character.ensures

pub returns-clause-says : goal.returns-clause-says
returns-clause-says c =
    let bytes = c.as_bytes-bytes.result.now in
    says_letter c.args.line.now bytes c.args.place c.in_ok-byte.byte c.as_bytes-bytes.ensures.value (c.if-not-is_at.ensures.stands refl) (omega (arith, c.if-place-bytes.false)) c.in_ok-byte.ensures.value c.in_ok-byte.ensures.ascii
