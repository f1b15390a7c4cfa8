-- What the arguments ask for, by what a parse found of them.
use Rattle.std.specs.Prelude.{◌≡◌, ◌<◌, ◌≤◌, ◌^◌, ◌⊎◌, ◌↔◌, ◌||◌, ◌&&◌, not, ℕ, Bool, true, false, List, [], map, Option, Some, None, codes, is_some, option_map, unwrap_or}
use Rattle.std.specs.Str.Parse.{IsNumeral, digits_value, without_leading_plus}
use Rattle.clap.specs.Walk.{Row, Text, all_of, first_of, one_of}
use Rattle.bh_commands.specs.declared.place.Place.{Place}
use Rattle.bh_commands.specs.declared.place.Place.TheVariants as place
use Rattle.bh_commands.specs.declared.summary.SummaryForm.{SummaryForm}
use Rattle.bh_commands.specs.declared.summary.SummaryForm.TheVariants as form
use Rattle.bh_share_serve.specs.declared.share.Sharing.{Sharing}
use Rattle.bh_arguments.specs.declared.invocation.CutArguments.{CutArguments}
use Rattle.bh_arguments.specs.declared.invocation.DrawArguments.{DrawArguments}
use Rattle.bh_arguments.specs.declared.invocation.Invocation.{Invocation}
use Rattle.bh_arguments.specs.declared.invocation.Invocation.TheVariants as ask
use Rattle.bh_arguments.specs.declared.invocation.LintArguments.{LintArguments}
use Rattle.bh_arguments.specs.declared.invocation.ServeArguments.{ServeArguments}
use Rattle.bh_arguments.specs.declared.invocation.SettingsFile.{SettingsFile}
use Rattle.bh_arguments.specs.declared.invocation.ShareArguments.{ShareArguments}
use Rattle.bh_arguments.specs.declared.invocation.SummaryArguments.{SummaryArguments}

-- the text is what was given for the argument, or empty
abbrev pub IsText : Text → List Row → Text → Type 0
IsText id rows text = text ≡ unwrap_or (first_of id rows) []

-- the truth is whether the flag was given
pub record IsFlag (id : Text) (rows : List Row) (b : Bool) : Type 0 where
  pub given : one_of id rows ≡ Some (codes "true") → b ≡ true
  pub not_given : one_of id rows ≡ Some (codes "false") → b ≡ false
  pub none : one_of id rows ≡ None → b ≡ false

-- the number of so many bits is what was given for the argument, or the usual one
pub record IsNumber (bits : ℕ) (id : Text) (rows : List Row) (usual n : ℕ) : Type 0 where
  pub given : (text : Text) → one_of id rows ≡ Some text → IsNumeral 10 (without_leading_plus text) → digits_value 10 (without_leading_plus text) < 2 ^ bits
      → n ≡ digits_value 10 (without_leading_plus text)
  pub none : one_of id rows ≡ None → n ≡ usual

-- the settings file of a command that can explain
pub record IsFile (rows : List Row) (f : SettingsFile) : Type 0 where
  pub path : IsText (codes "FILE") rows f.path.now
  pub explains : IsFlag (codes "explain") rows f.explains

pub record IsCut (rows : List Row) (a : CutArguments) : Type 0 where
  pub path : IsText (codes "FILE") rows a.path.now
  pub groups : map (λ name. name.now) a.groups.now ≡ unwrap_or (all_of (codes "group") rows) []

pub record IsDraw (rows : List Row) (a : DrawArguments) : Type 0 where
  pub path : IsText (codes "FILE") rows a.path.now
  pub groups : map (λ name. name.now) a.drawing.groups.now ≡ unwrap_or (all_of (codes "group") rows) []
  pub from : IsNumber 64 (codes "from") rows 0 a.drawing.from
  pub to : IsNumber 64 (codes "to") rows 18446744073709551615 a.drawing.to
  pub columns : IsNumber 64 (codes "columns") rows 80 a.drawing.columns

pub record IsLint (rows : List Row) (a : LintArguments) : Type 0 where
  pub path : IsText (codes "FILE") rows a.path.now
  pub objects : IsFlag (codes "json") rows a.tells_objects
  pub warnings : IsFlag (codes "deny-warnings") rows a.denies_warnings

abbrev pub is_objects : SummaryForm → Bool
is_objects form.Objects = true
is_objects form.Table = false

pub record IsSummary (rows : List Row) (a : SummaryArguments) : Type 0 where
  pub path : IsText (codes "FILE") rows a.path.now
  pub objects : IsFlag (codes "json") rows (is_objects a.form)

-- where a service listens: at the socket that was given, else at the port
abbrev pub IsPlace : List Row → Place → Type 0
IsPlace rows (place.Socket path) = first_of (codes "socket") rows ≡ Some path.now
IsPlace rows (place.Port number) = (first_of (codes "socket") rows ≡ None) × IsNumber 16 (codes "port") rows 0 number

-- a service that serves further connections, and that ends with its input, or not
pub record IsService (rows : List Row) (keeps ends : Bool) (a : ServeArguments) : Type 0 where
  pub file : IsFile rows a.file
  pub place : IsPlace rows a.serving.place
  pub connections : IsNumber 32 (codes "connections") rows 1 a.serving.limits.connections
  pub idle : IsNumber 32 (codes "idle") rows 0 a.serving.limits.idle_seconds
  pub keeps_serving : a.serving.limits.keep_serving ≡ keeps
  pub explains : a.serving.explains ≡ a.file.explains
  pub with_input : a.ends_with_input ≡ ends

pub record IsServe (rows : List Row) (a : ServeArguments) : Type 0 where
  pub keeps : Bool
  pub forever : Bool
  pub is_keeps : IsFlag (codes "keep-serving") rows keeps
  pub is_forever : IsFlag (codes "forever") rows forever
  pub service : IsService rows (keeps || forever) (keeps && not forever) a

-- what a connection may have; it may change properties at a socket, or where the flag was given
pub record IsSharing (rows : List Row) (s : Sharing) : Type 0 where
  pub tunable : Bool
  pub is_tunable : IsFlag (codes "tunable") rows tunable
  pub tickets : IsNumber 32 (codes "tickets") rows 1 s.tickets
  pub contexts : IsNumber 32 (codes "contexts") rows 0 s.contexts
  pub may_tune : s.may_tune ≡ (is_some (first_of (codes "socket") rows) || tunable)

-- the record is written to the file that was given, if any
pub record IsShare (rows : List Row) (a : ShareArguments) : Type 0 where
  pub forever : Bool
  pub is_forever : IsFlag (codes "forever") rows forever
  pub service : IsService rows true (not forever) a.service
  pub sharing : IsSharing rows a.sharing
  pub record_path : option_map (λ path. path.now) a.«record» ≡ first_of (codes "record") rows

-- what was asked for is what was found of the command
abbrev pub Asks : List Row → Invocation → Type 0
Asks rows (ask.Check f) = IsFile rows f
Asks rows (ask.Cut a) = IsCut rows a
Asks rows (ask.Draw a) = IsDraw rows a
Asks rows (ask.Lint a) = IsLint rows a
Asks rows (ask.Run f) = IsFile rows f
Asks rows (ask.Serve a) = IsServe rows a
Asks rows (ask.Share a) = IsShare rows a
Asks rows (ask.Summary a) = IsSummary rows a

-- the word by which it is asked for
abbrev pub name_of : Invocation → Text
name_of (ask.Check f) = codes "check"
name_of (ask.Cut a) = codes "cut"
name_of (ask.Draw a) = codes "draw"
name_of (ask.Lint a) = codes "lint"
name_of (ask.Run f) = codes "run"
name_of (ask.Serve a) = codes "serve"
name_of (ask.Share a) = codes "share"
name_of (ask.Summary a) = codes "summary"

-- the program refuses it: nothing lies in the stretch of time that is to be drawn
abbrev pub IsRefused : Invocation → Type 0
IsRefused (ask.Draw a) = a.drawing.to ≤ a.drawing.from
IsRefused _ = ⊥

-- what was found, the name of a command and the rows of its arguments, asks for this
abbrev pub IsAsked : Option (Text × List Row) → Invocation → Type 0
IsAsked found asked = (option_map (λ p. p.0) found ≡ Some (name_of asked)) × (rows : List Row) × (option_map (λ p. p.1) found ≡ Some rows) × Asks rows asked

-- the status that is left where this was found: 2 exactly where what it asks for is refused, or it asks for nothing
abbrev pub IsStatusOf : Option (Text × List Row) → ℕ → Type 0
IsStatusOf found status =
    ((asked : Invocation) × IsAsked found asked × ((status ≡ 2) ↔ IsRefused asked))
    ⊎ ((status ≡ 2) × ((asked : Invocation) → option_map (λ p. p.0) found ≡ Some (name_of asked) → ⊥))

-- the status that is left of words in which this was found, whether the grammar takes them or not: that of what they ask for,
-- or that of help and the version, of a refusal, or of want of memory
abbrev pub IsLeftOf : Option (Text × List Row) → ℕ → Type 0
IsLeftOf found status = IsStatusOf found status ⊎ ((status ≡ 0) ⊎ ((status ≡ 2) ⊎ (status ≡ 3)))
