-- The value that is in force for a group or a further command.
use Rattle.std.specs.Prelude.{ℕ, ℤ, pos, negsuc, nat_le, List, codes, ◌&&◌, ◌==◌, if◌then◌else◌, Option, Some, None, Result, Ok, Err}
use Rattle.std.specs.Option.{option_or}
use Rattle.std.specs.Str.{bytes_eq}
use Rattle.toml.specs.Data.{Data, string, integer, boolean}
use Rattle.bh_base.specs.declared.props.Strategy.TheVariants as strategies
use Rattle.bh_props.specs.declared.property.Property.{Property}
use Rattle.bh_props.specs.declared.value.Kind.{Kind}
use Rattle.bh_props.specs.declared.value.Kind.TheVariants as kinds
use Rattle.bh_props.specs.declared.value.PropertyValue.{PropertyValue}
use Rattle.bh_props.specs.declared.value.PropertyValue.TheVariants as values
use Rattle.bh_props.specs.declared.value.Fault.{Fault}
use Rattle.bh_props.specs.declared.value.Fault.TheVariants.{WrongType, OutOfRange}
use Rattle.bh_props.specs.Tree.{look_up}
use Rattle.bh_props.specs.Table.{row, path_of}

-- the value that the file has: the group's or the command's own, else the default one
abbrev pub given : Property → List ℕ → Data → Option Data
given p group d = option_or (look_up (path_of p group) d) (look_up (path_of p (codes "default")) d)

-- a number within its range
abbrev pub within : ℕ → ℕ → ℤ → Result PropertyValue Fault
within least most (pos n) = if nat_le least n && nat_le n most then Ok (values.Number n) else Err OutOfRange
within least most (negsuc n) = Err OutOfRange

-- the size of a queue: -1 is no queue, and 0 is read so too
abbrev pub queue_size : ℤ → Result PropertyValue Fault
queue_size (pos n) = if n == 0 then Ok values.NoQueue else within 1 4294967295 (pos n)
queue_size (negsuc n) = if n == 0 then Ok values.NoQueue else Err OutOfRange

-- the strategy of the word
abbrev pub strategy_of : List ℕ → Result PropertyValue Fault
strategy_of word =
    if bytes_eq word (codes "THREAD") then Ok (values.Strategy strategies.Thread) else
    if bytes_eq word (codes "SEMAPHORE") then Ok (values.Strategy strategies.Semaphore) else
    Err OutOfRange

-- a value of the file, read as one of a kind
abbrev pub read_as : Kind → Data → Result PropertyValue Fault
read_as (kinds.Number least most) (integer z) = within least most z
read_as kinds.QueueSize (integer z) = queue_size z
read_as kinds.Truth (boolean b) = Ok (values.Truth b)
read_as kinds.Strategy (string word) = strategy_of word
read_as _ _ = Err WrongType

-- what the file has is read; else the built-in value stands
abbrev pub read_given : Property → Option Data → Result PropertyValue Fault
read_given p None = Ok (row p).built_in
read_given p (Some d) = read_as (row p).kind d

-- the value in force: the one that the file has, else the built-in one
abbrev pub in_force : Property → List ℕ → Data → Result PropertyValue Fault
in_force p group d = read_given p (given p group d)
