-- The lines that tell findings.
use Rattle.std.specs.Prelude.{ℕ, ◌-◌, ◌==◌, List, [], ◌∷◌, ◌++◌, codes, Bool, true, false, if◌then◌else◌, Option, Some, None, is_some, take, length}
use Rattle.std.specs.List.{flat_map}
use Rattle.std.specs.Fmt.{decimal}
use Rattle.bh_props.specs.declared.property.Property.{Property}
use Rattle.bh_props.specs.declared.value.Kind.{Kind}
use Rattle.bh_props.specs.declared.value.Kind.TheVariants as kinds
use Rattle.bh_props.specs.declared.value.Fault.{Fault}
use Rattle.bh_props.specs.declared.value.Fault.TheVariants.{WrongType, OutOfRange}
use Rattle.bh_props.specs.Table.{row}
use Rattle.bh_lint.specs.declared.finding.Refusal.{Refusal}
use Rattle.bh_lint.specs.declared.finding.Refusal.TheVariants as refusals
use Rattle.bh_lint.specs.declared.finding.Stands.{Stands}
use Rattle.bh_lint.specs.declared.finding.Stands.TheVariants as stands
use Rattle.bh_lint.specs.declared.finding.Finding.{Finding}
use Rattle.bh_lint.specs.declared.finding.Finding.TheVariants as findings
use Rattle.bh_lint.specs.declared.table.Table.{Table}
use Rattle.bh_lint.specs.declared.table.Table.TheVariants as tables
use Rattle.bh_lint.specs.declared.table.Part.{Part}
use Rattle.bh_lint.specs.declared.doubt.Doubt.{Doubt}
use Rattle.bh_lint.specs.declared.doubt.Doubt.TheVariants as doubts
use Rattle.bh_lint.specs.declared.told.Told.{Told}
use Rattle.bh_lint.specs.Table.{part_name}
use Rattle.bh_lint.specs.Finding.{refusal_of}

-- between two accents
abbrev pub quoted : List ℕ → List ℕ
quoted s = codes "`" ++ s ++ codes "`"

-- what stands where a property is given
abbrev pub stands_text : Stands → List ℕ → List ℕ
stands_text stands.Nothing words = codes "nothing"
stands_text stands.Plain words = words
stands_text stands.Text words = quoted words
stands_text stands.Float words = codes "a number with a fraction"
stands_text stands.Datetime words = codes "a date or a time"
stands_text stands.Array words = codes "a list"
stands_text stands.Table words = codes "a table"

-- the range of a number
abbrev pub range_text : ℕ → ℕ → List ℕ
range_text least most = codes "a whole number from " ++ decimal least ++ codes " to " ++ decimal most

-- what it may be
abbrev pub kind_text : Kind → List ℕ
kind_text (kinds.Number least most) = range_text least most
kind_text kinds.QueueSize = codes "a whole number from -1 to 4294967295"
kind_text kinds.Truth = codes "true or false"
kind_text kinds.Strategy = codes "`THREAD` or `SEMAPHORE`"

-- the number and the words of a fault
abbrev pub fault_text : Fault → List ℕ
fault_text WrongType = codes "6 wrong type: "
fault_text OutOfRange = codes "7 out of range: "

-- a fault, whose it is, and the property
abbrev pub named_text : Fault → List ℕ → Property → List ℕ
named_text fault name p = fault_text fault ++ name ++ codes " " ++ (row p).name

-- a value that is refused
abbrev pub bad_value_text : Fault → List ℕ → Property → Stands → List ℕ → List ℕ
bad_value_text fault name p s words = named_text fault name p ++ codes " is " ++ stands_text s words ++ codes ", not " ++ kind_text (row p).kind

-- a refusal that is told without more
abbrev pub refusal_text : Refusal → List ℕ
refusal_text refusals.Syntax = codes "1 syntax"
refusal_text refusals.NoGroups = codes "2 no groups: `service.groups` is no list of 1 to 1000 texts"
refusal_text (refusals.BadName n) = codes "3 bad name at " ++ decimal n ++ codes ": it is not 1 to 32 letters, digits, `_` and `-`, or is `default`"
refusal_text (refusals.TwiceNamed n) = codes "4 twice named at " ++ decimal n ++ codes ": it stands before"
refusal_text refusals.UnknownService = codes "5 unknown service property"
refusal_text (refusals.BadCommand n) = codes "10 bad command at " ++ decimal n ++ codes ", in the order of the names: its name may not name a group, or names one; or it is no table of one key, `group`, the name of a group; or that group has 16 commands before it"
refusal_text refusals.Memory = codes "memory"

-- the part of a command's properties, behind a dot, and the accent behind it
abbrev pub part_text : Option (List ℕ) → List ℕ
part_text (Some name) = codes "." ++ name ++ codes "`"
part_text None = codes "`"

-- the part of the properties of a command of the name
abbrev pub command_text : List ℕ → Part → List ℕ
command_text name part = codes "`hystrix.command." ++ name ++ part_text (part_name part)

-- the table that a name stands in, for the name where it is of one
abbrev pub table_text : Table → List ℕ → List ℕ
table_text tables.Root name = codes "the file"
table_text tables.Service name = codes "`service`"
table_text tables.Hystrix name = codes "`hystrix`"
table_text tables.Commands name = codes "`hystrix.command`"
table_text tables.Pools name = codes "`hystrix.threadpool`"
table_text (tables.Command part) name = command_text name part
table_text tables.Pool name = codes "`hystrix.threadpool." ++ name ++ codes "`"

-- a name that nothing looks up
abbrev pub unknown_text : Table → List ℕ → List ℕ → List ℕ
unknown_text tables.Service name key = codes "5 unknown service property: `" ++ key ++ codes "` is none, or holds what it may not"
unknown_text t name key = codes "nothing looks up `" ++ key ++ codes "` in " ++ table_text t name

-- a doubt
abbrev pub doubt_text : Doubt → List ℕ
doubt_text doubts.PercentOver100 = codes "circuitBreaker.errorThresholdPercentage is over 100"
doubt_text doubts.BothForces = codes "circuitBreaker.forceOpen and circuitBreaker.forceClosed are both true"
doubt_text doubts.ThresholdOverQueue = codes "queueSizeRejectionThreshold is over maxQueueSize"
doubt_text doubts.NoTime = codes "execution.isolation.thread.timeoutInMilliseconds is 0"
doubt_text doubts.NoPermit = codes "no call can run: execution.isolation.semaphore.maxConcurrentRequests is 0, and execution.isolation.strategy is SEMAPHORE"
doubt_text doubts.IdleTimeout = codes "execution.isolation.thread.timeoutInMilliseconds is idle, since execution.timeout.enabled is false"
doubt_text doubts.IdleFallback = codes "fallback.isolation.semaphore.maxConcurrentRequests is idle, since fallback.enabled is false"
doubt_text doubts.IdleCircuit = codes "what is given of the circuit is idle, since circuitBreaker.enabled is false"

-- what a finding says
abbrev pub message : Finding → List ℕ
message (findings.Refused r) = refusal_text r
message (findings.BadValue fault name p s words) = bad_value_text fault name p s words
message (findings.NotMultiple name) = codes "8 not a multiple: " ++ name ++ codes ": the rolling window is no multiple of its number of buckets"
message (findings.Unknown t name key) = unknown_text t name key
message (findings.Doubtful name doubt) = name ++ codes ": " ++ doubt_text doubt

-- an error is what a check refuses
abbrev pub is_error : Finding → Bool
is_error f = is_some (refusal_of f)

-- its word, with what stands between it and what the finding says
abbrev pub severity : Finding → List ℕ
severity f = if is_error f then codes "error: " else codes "warning: "

-- the word alone
abbrev pub severity_word : Finding → List ℕ
severity_word f = if is_error f then codes "error" else codes "warning"

-- what makes a terminal write bold, and as it does by itself
abbrev pub bold : List ℕ
bold = 27 ∷ codes "[1m"

abbrev pub no_colour : List ℕ
no_colour = 27 ∷ codes "[0m"

-- an error is red, and a warning yellow
abbrev pub colour : Finding → List ℕ
colour f = if is_error f then 27 ∷ codes "[31m" else 27 ∷ codes "[33m"

-- the name that is nearest, if there is one
abbrev pub nearest_text : List ℕ → List ℕ
nearest_text [] = []
nearest_text (b ∷ rest) = codes "; the nearest that is looked up is `" ++ (b ∷ rest) ++ codes "`"

-- what the reader of TOML says, if it says anything
abbrev pub reason_text : List ℕ → List ℕ
reason_text [] = []
reason_text (b ∷ rest) = codes ": " ++ (b ∷ rest)

-- what a finding says, and what the reader of TOML does
abbrev pub said : Told → List ℕ
said t = message t.finding ++ reason_text t.reason

-- where it stands
abbrev pub place_text : List ℕ → ℕ → ℕ → List ℕ
place_text file line column = file ++ codes ":" ++ decimal line ++ codes ":" ++ decimal column ++ codes ": "

-- what stands behind its word
abbrev pub back_of : Told → List ℕ
back_of t = message t.finding ++ nearest_text t.nearest ++ reason_text t.reason ++ codes "\n"

-- its line
abbrev pub line_of : List ℕ → Told → List ℕ
line_of file t = place_text file t.line t.column ++ severity t.finding ++ back_of t

-- the line with colours for a terminal: the place is bold, and the word has a colour
abbrev pub coloured_line_of : List ℕ → Told → List ℕ
coloured_line_of file t = bold ++ place_text file t.line t.column ++ colour t.finding ++ severity t.finding ++ no_colour ++ back_of t

-- how many more there are than are told
abbrev pub more_text : List ℕ → ℕ → List ℕ
more_text file more = if more == 0 then [] else file ++ codes ": " ++ decimal more ++ codes " more\n"

-- the lines of what is told, and how many more there are
abbrev pub lines_of : List ℕ → List Told → ℕ → List ℕ
lines_of file told more = flat_map (line_of file) told ++ more_text file more

-- with colours where they are wanted
abbrev pub line_in : Bool → List ℕ → Told → List ℕ
line_in true file t = coloured_line_of file t
line_in false file t = line_of file t

-- the same lines, with colours where they are wanted
abbrev pub lines_in : Bool → List ℕ → List Told → ℕ → List ℕ
lines_in coloured file told more = flat_map (line_in coloured file) told ++ more_text file more

-- the most findings that are told
abbrev pub most_told : ℕ
most_told = 1000

-- those that are told
abbrev pub first_of : List Finding → List Finding
first_of some = take most_told some

-- how many are not
abbrev pub more_of : List Finding → ℕ
more_of some = length some - most_told
