use Rattle.std.proofs.Common.{arith}
use Rattle.bh_lines.proofs.Escapes.{unicode_escape_by}
use Rattle.bh_lines.proofs.escaped.unicode_escape_at.Goals as goal

pub returns : goal.returns
returns c =
    unicode_escape_by c.args.bytes.now c.args.place c.in_ok-a.a c.in_ok-b.b c.in_ok-c.c c.in_ok-d.d c.from_u32.result (omega (arith, c.requires, c.if-bytes-place-lt4.false))
    c.in_ok-a.ensures c.in_ok-b.ensures c.in_ok-c.ensures c.in_ok-d.ensures c.from_u32.ensures.value c.from_u32.ensures.cases
