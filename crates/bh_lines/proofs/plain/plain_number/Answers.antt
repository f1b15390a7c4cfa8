use Rattle.std.proofs.Common.{◌<◌, drop, length, subst, arith}
use Rattle.bh_lines.specs.Plain.{IsNumberThen}
use Rattle.bh_lines.proofs.PlainReading.{number_there, zero_at}
use Rattle.bh_lines.proofs.plain.plain_number.Goals as goal

pub returns-then-bytes-place-eq48 : goal.returns-then-bytes-place-eq48
returns-then-bytes-place-eq48 c =
    zero_at c.args.line.now c.as_bytes-bytes.result.now c.args.place c.as_bytes-bytes.ensures.value c.if-place-bytes.false c.if-bytes-place-eq48.true

pub returns : goal.returns
returns c =
    let bytes = c.as_bytes-bytes.result.now in
    let place = c.args.place in
    let found = c.read_digits-end in
    let inside : place < length bytes = c.if-place-bytes.false in
    let value = found.ensures.value in
    subst (λ t. IsNumberThen (drop place t) found.result.1 (drop found.result.0 t)) c.as_bytes-bytes.ensures.value
    (number_there bytes place found.result.0 found.result.1 (omega (arith, inside)) found.ensures.end c.if-end-place.false c.if-end-place-gt-SURE_DIGITS.false value (λ e. c.if-bytes-place-eq48.false e))
