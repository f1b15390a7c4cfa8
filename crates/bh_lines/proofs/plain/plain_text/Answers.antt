use Rattle.std.proofs.Common.{◌+◌, drop, refl, ap, ◌∙◌, subst, arith, IsUtf8}
use Rattle.std.specs.List.{prefix_len}
use Rattle.json.specs.Run.{is_plain}
use Rattle.bh_lines.proofs.Escapes.{says_all, says_run}
use Rattle.bh_lines.proofs.PlainReading.{sign_is_boundary}
use Rattle.bh_lines.proofs.plain.plain_text.Goals as goal

pub range-requires-clause-start_boundary : goal.range-requires-clause-start_boundary
range-requires-clause-start_boundary g c some =
    sign_is_boundary c.args.line.now c.requires.0 34 c.args.start (omega arith) (subst IsUtf8 c.as_bytes.ensures.value c.as_bytes.ensures.utf8) c.requires.1

pub returns-then-is_at : goal.returns-then-is_at
returns-then-is_at g c =
    let line = c.args.line.now in
    let start = c.args.start in
    let end = c.plain_end-end.result in
    let stops = c.plain_end-end.ensures.value ∙ ap (λ t. start + prefix_len is_plain (drop start t)) c.as_bytes.ensures.value in
    rw c.range.ensures.value (says_all line _ start end (says_run line start end stops) (c.if-is_at.ensures.within refl) (c.if-is_at.ensures.stands refl))
