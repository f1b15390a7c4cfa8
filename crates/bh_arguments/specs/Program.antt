-- The commands that may be given, as a parse of the words reads them.
use Rattle.std.specs.Prelude.{true, codes}
use Rattle.clap.specs.Simple.{App, new_app, with_subcommand}
use Rattle.bh_arguments.specs.Grammar.{cut, draw, lint, serve, share, summary, with_explained_file}

-- the program without its commands: it has a version, and one of the commands is required
abbrev pub bare : App
bare = let a = new_app (codes "bulkhead") in record a { top = record a.top { has_version = true; subcommand_required = true } }

-- with the commands over settings alone
abbrev pub settings_program : App
settings_program = with_subcommand (with_subcommand bare (with_explained_file (codes "check")).top) lint.top

-- and those that print lines of a script or their answers
abbrev pub line_program : App
line_program = with_subcommand (with_subcommand settings_program (with_explained_file (codes "run")).top) cut.top

-- and the others over scripts
abbrev pub script_program : App
script_program = with_subcommand (with_subcommand line_program draw.top) summary.top

-- and those that serve: the program
abbrev pub program : App
program = with_subcommand (with_subcommand script_program serve.top) share.top
