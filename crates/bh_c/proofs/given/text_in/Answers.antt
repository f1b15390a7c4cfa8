use Rattle.std.proofs.Common.{arith, ap, Ok, sym, ◌∙◌, take}
use Rattle.bh_c.proofs.Texts.{given-none, given-text, given-within}
use Rattle.bh_c.proofs.given.text_in.Goals as goal

pub returns-in_default : goal.returns-in_default
returns-in_default g c =
    sym (given-none (take c.args.count c.args.bytes.now) c.in_default.ensures.cases.0) ∙ given-within g.row.N c.args.count c.args.bytes.now (omega (arith, c.if-count.false))

pub returns-in-Ok-new : goal.returns-in-Ok-new
returns-in-Ok-new g c =
    ap Ok c.in-Ok-new.ensures.ok ∙ sym (given-text (take c.args.count c.args.bytes.now) c.in-Ok.text.now c.in-Ok.ensures.cases)
    ∙ given-within g.row.N c.args.count c.args.bytes.now (omega (arith, c.if-count.false))
