use Rattle.std.proofs.Common.{◌≡◌, ◌∙◌, ap, refl, true}
use Rattle.std.specs.Prelude.{map, string_bytes}
use Rattle.std.proofs.lemmas.Result.{IfErr-weaker, IfOk-weaker}
use Rattle.clap.specs.Words.{App, is_simple, subcommand_of, takes}
use Rattle.bh_arguments.specs.Program.{program}
use Rattle.bh_arguments.proofs.parsed.parse.Goals as goal

is_simple_program : is_simple program ≡ true
is_simple_program = refl

pub returns-clause-found : goal.returns-clause-found
returns-clause-found c =
    let app = c.in_ok-command.ensures.app in
    IfOk-weaker c.try_get_matches_from.result _ _ (λ m h. (h (ap is_simple app ∙ is_simple_program)).1 ∙ ap (λ (a : App). subcommand_of a (map string_bytes c.args.words.now)) app) c.try_get_matches_from.ensures.matches

pub returns-clause-taken : goal.returns-clause-taken
returns-clause-taken c =
    let app = c.in_ok-command.ensures.app in
    IfErr-weaker c.try_get_matches_from.result _ _ (λ e h takes_it. h (ap (λ (a : App). takes a (map string_bytes c.args.words.now)) app ∙ takes_it)) c.try_get_matches_from.ensures.passes
