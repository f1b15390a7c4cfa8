use Rattle.std.proofs.Common.{ap, subst, ◌++◌, ◌∙◌, ◌∷◌, []}
use Rattle.bh_replies.specs.ToldLine.{told_line}
use Rattle.bh_c.specs.Buffers.{IsWritten}
use Rattle.bh_c.proofs.service.Service.line_of_act.Goals as goal

pub returns-clause-told : goal.returns-clause-told
returns-clause-told c = λ before agrees. record {
  answer =
      subst (λ bytes. IsWritten bytes c.args.buffer.now c.put_line.new.buffer c.put_line.new.needed)
      (ap (λ bytes. bytes ++ 10 ∷ []) c.as_slice.ensures.value ∙ c.put_told_within.ensures.line ∙ ap (λ bytes. bytes ++ told_line c.in-Ok.told) c.requires.empty ∙ ap told_line (c.in-Ok.ensures.told before agrees)) c.put_line.ensures;
  agrees = c.in-Ok.ensures.agrees before agrees;
}
