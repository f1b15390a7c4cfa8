use Rattle.std.proofs.Common.{◌∙◌, ◌++◌, ap, append_assoc, string_bytes}
use Rattle.std.specs.Prelude.{codes}
use Rattle.bh_lint.specs.Table.{part_name}
use Rattle.bh_lint.specs.Lines.{part_text}
use Rattle.bh_lint.proofs.Grown.{behind}
use Rattle.bh_lint.proofs.messages.put_command.Goals as goal

pub returns : goal.returns
returns c =
    behind c.put_part.result _ _ _ (codes "`hystrix.command." ++ c.args.name.now) (part_text (part_name c.args.part))
    (c.in_ok-put-2.ensures ∙ ap (λ rows. rows ++ c.args.name.now) c.in_ok-put.ensures ∙ append_assoc (string_bytes c.args.out.now) (codes "`hystrix.command.") c.args.name.now)
    c.put_part.ensures
