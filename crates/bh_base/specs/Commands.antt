-- The commands of a group, by number.
use Rattle.std.specs.Prelude.{ℕ, ◌+◌, Bool, true, nat_lt, List, [], ◌∷◌, length, slice_index_or}
use Rattle.bh_base.specs.declared.props.CommandProps.{CommandProps}
use Rattle.bh_base.specs.Props.{GroupProps, no_props}
use Rattle.bh_base.specs.declared.step.Op.{Op}
use Rattle.bh_base.specs.declared.step.Op.TheVariants as op

-- how many commands the group has; number 0 is its own
abbrev pub command_count : GroupProps → ℕ
command_count props = length props.commands

-- whether the group has a command of the number
abbrev pub has_command : ℕ → GroupProps → Bool
has_command command props = nat_lt command (command_count props)

-- the properties of the command of the number
abbrev pub props_of : ℕ → GroupProps → CommandProps
props_of command props = slice_index_or props.commands command no_props

-- whether the group has the command that the operation names, if it names one
abbrev pub is_known : Op → GroupProps → Bool
is_known (op.Submit request) props = has_command request.command props
is_known (op.Read command) props = has_command command props
is_known (op.Totals command) props = has_command command props
is_known (op.Tune command tuning) props = has_command command props
is_known _ props = true

-- the function of each item of a list and of its command's number, where the first has the number `from`
abbrev pub each_from : {X Y : Type 0} → ℕ → (ℕ → X → Y) → List X → List Y
each_from from f [] = []
each_from from f (x ∷ xs) = f from x ∷ each_from (from + 1) f xs

-- the function of each item of a list that has one for each command, and of the command's number
abbrev pub each_command : {X Y : Type 0} → (ℕ → X → Y) → List X → List Y
each_command f xs = each_from 0 f xs
