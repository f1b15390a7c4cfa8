-- Which arguments may be given, as a parse of the words reads them.
use Rattle.std.specs.Prelude.{◌≡◌, [], ◌∷◌, Some, true, false, codes, pos}
use Rattle.clap.specs.Walk.{Rule, Text, rule_of}
use Rattle.clap.specs.Simple.{App, app_of, new_app, new_rule, with_rule}
use Rattle.clap.specs.declared.builder.arg.Arg.{Arg}
use Rattle.clap.specs.declared.builder.action.ArgAction.TheVariants.{Set, Append, SetTrue}
use Rattle.clap.specs.declared.builder.command.Command.{Command}
use Rattle.clap.specs.declared.builder.command.Command.TheViews.{out-Command}
use Rattle.clap.specs.declared.builder.value_parser.ValueParser.{ValueParser}
use Rattle.clap.specs.declared.builder.value_parser.ValueParser.TheVariants as parser

-- a parse reads this of the argument, at its own command alone
pub record IsArgument (a : Arg) (r : Rule) : Type 0 where
  pub rule : rule_of a ≡ r
  pub own : a.global ≡ false

-- a parse reads this of the command, which hands no argument on
pub record IsCommand (c : Command) (a : App) : Type 0 where
  pub app : app_of c ≡ a
  pub own : (out-Command c).has_globals ≡ false

-- a flag, which is there or not
abbrev pub flag : Text → Rule
flag name = record (new_rule name) { long = Some name; action = Some SetTrue }

-- an option with a value
abbrev pub option : Text → Rule
option name = record (new_rule name) { long = Some name; value_names = 1 }

-- an option whose value is a whole number within bounds
abbrev pub number : Text → ValueParser → Rule
number name bounds = record (option name) { parser = Some bounds }

-- the same, with a value where it is not given
abbrev pub usual_number : Text → ValueParser → Text → Rule
usual_number name bounds usual = record (option name) { parser = Some bounds; defaults = usual ∷ [] }

abbrev pub settings_file : Rule
settings_file = record (new_rule (codes "FILE")) { required = true; action = Some Set }

abbrev pub group : Rule
group = record (option (codes "group")) { action = Some Append }

-- a moment in milliseconds
abbrev pub moment : Text → Rule
moment name = number name (parser.Unsigned 0 18446744073709551615)

abbrev pub columns : Rule
columns = usual_number (codes "columns") (parser.Unsigned 2 200) (codes "80")

-- it is required where there is no socket
abbrev pub port : Rule
port = record (number (codes "port") (parser.Signed (pos 1) (pos 65535))) { is_free = false }

-- it may not be given beside a port
abbrev pub socket : Rule
socket = record (new_rule (codes "socket")) { long = Some (codes "socket"); value_names = 1; is_free = false }

abbrev pub connections : Text → Rule
connections usual = usual_number (codes "connections") (parser.Signed (pos 1) (pos 64)) usual

abbrev pub tickets : Rule
tickets = usual_number (codes "tickets") (parser.Signed (pos 1) (pos 4096)) (codes "256")

abbrev pub contexts : Rule
contexts = usual_number (codes "contexts") (parser.Signed (pos 0) (pos 4096)) (codes "64")

abbrev pub idle : Rule
idle = usual_number (codes "idle") (parser.Signed (pos 0) (pos 4294967295)) (codes "0")

-- it may not be given beside keep-serving
abbrev pub serve_forever : Rule
serve_forever = record (flag (codes "forever")) { is_free = false }

-- a command over a settings file
abbrev pub with_file : Text → App
with_file name = with_rule (new_app name) settings_file

-- the same, with a flag by which more is said
abbrev pub with_explained_file : Text → App
with_explained_file name = with_rule (with_file name) (flag (codes "explain"))

abbrev pub lint : App
lint = with_rule (with_rule (with_file (codes "lint")) (flag (codes "deny-warnings"))) (flag (codes "json"))

abbrev pub cut : App
cut = with_rule (with_file (codes "cut")) (record group { required = true })

abbrev pub draw : App
draw = with_rule (with_rule (with_rule (with_rule (with_file (codes "draw")) group) (moment (codes "from"))) (moment (codes "to"))) columns

abbrev pub summary : App
summary = with_rule (with_file (codes "summary")) (flag (codes "json"))

-- a command that listens at a port or a socket
abbrev pub listening : Text → App
listening name = with_rule (with_rule (with_explained_file name) port) socket

abbrev pub serving : App
serving = with_rule (with_rule (listening (codes "serve")) (connections (codes "1"))) (flag (codes "keep-serving"))

abbrev pub serve : App
serve = with_rule (with_rule serving serve_forever) idle

abbrev pub lending : App
lending = with_rule (with_rule (with_rule (listening (codes "share")) (connections (codes "64"))) tickets) contexts

abbrev pub share : App
share = with_rule (with_rule (with_rule (with_rule lending (flag (codes "tunable"))) (option (codes "record"))) (flag (codes "forever"))) idle
