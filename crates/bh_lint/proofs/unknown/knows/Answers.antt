use Rattle.std.proofs.Common.{◌∙◌, ap, sym}
use Rattle.std.specs.List.{list_any}
use Rattle.std.specs.Str.{bytes_eq}
use Rattle.toml.specs.View.{view}
use Rattle.bh_lint.proofs.Tables.{knows-children, any-map}
use Rattle.bh_lint.proofs.unknown.knows.Goals as goal

pub returns-in_default : goal.returns-in_default
returns-in_default c =
    c.is_among.ensures ∙ any-map (λ child. bytes_eq child c.args.key.now) (λ s. s.now) c.children.result.now
    ∙ ap (list_any (λ child. bytes_eq child c.args.key.now)) c.children.ensures
    ∙ sym (knows-children c.args.names.now.texts.keys c.args.commands.now.entries c.args.table c.args.key.now (view c.args.value.now)
    c.in_default.not-Service c.in_default.not-Commands c.in_default.not-Pools)
