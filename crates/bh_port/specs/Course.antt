-- A run of a script so far, and what a line asks of it.
use Rattle.std.specs.Prelude.{ℕ, ◌^◌, Bool, ◌&&◌, nat_lt, List, [], length, map, min, Option, Some, None, option_and_then, option_map, is_none, IsSome, Result, Ok, Err, slice_get, find, ◌<◌, if◌then◌else◌}
use Rattle.std.specs.Str.{bytes_eq}
use Rattle.bh_base.specs.Props.{GroupProps}
use Rattle.bh_base.specs.Commands.{each_from}
use Rattle.bh_base.specs.declared.step.Step.{Step}
use Rattle.bh_base.specs.Runs.{State, opened, view, state_after, own}
use Rattle.bh_core.specs.CoreView.{CoreView, living, most_groups}
use Rattle.bh_props.specs.Names.{is_name}
use Rattle.bh_props.specs.SettingsView.{SettingsView}
use Rattle.bh_faults.specs.declared.fault.Fault.{Fault}
use Rattle.bh_faults.specs.declared.fault.Fault.TheVariants as faults
use Rattle.bh_lines.specs.Names.{Names, further_number}
use Rattle.bh_lines.specs.ScriptLine.{Asked, a_step, a_group, an_end, line_asked}
use Rattle.bh_lines.specs.StepLine.{◌>>=◌, or_fault, group_number, if_short, Said}
use Rattle.bh_port.specs.declared.act.LineAct.{LineAct}
use Rattle.bh_port.specs.declared.act.LineAct.TheVariants as act
use Rattle.bh_port.specs.declared.groups.Entry.{Entry}
use Rattle.bh_port.specs.Entries.{entry_at, new_entry, number_of}

-- the names of the groups of the settings, in listed order, and those of their further commands
abbrev pub names_in : SettingsView → Names
names_in service = record { groups = map (λ group. group.0) service.groups; commands = service.commands }

-- a run so far: its groups by number, and the steps that were made in them
pub record Course : Type 0 where
  pub entries : List Entry
  pub steps : List Step

-- the groups of the settings, each like itself
abbrev pub listed_entries : SettingsView → List Entry
listed_entries service = each_from 0 (λ place group. new_entry group.0 place) service.groups

-- a run that begins: the groups of the settings are there, and did no step
abbrev pub new_course : SettingsView → Course
new_course service = record { entries = listed_entries service; steps = [] }

-- the most steps that a group may do
abbrev pub most_steps : ℕ
most_steps = 2 ^ 40

-- the steps that each group may do: no more than the most, nor than may be audited
abbrev pub step_limit : Option ℕ → ℕ
step_limit None = most_steps
step_limit (Some audited) = min most_steps audited

-- a new group of the properties in the service
abbrev pub opened_group : SettingsView → GroupProps → State
opened_group service props = opened props (step_limit service.audit_steps)

-- all groups of the settings, each of them new
abbrev pub opened_core : SettingsView → CoreView
opened_core service = record { slot_limit = 4_294_967_295; lives = map (λ group. living (view (opened_group service group.1))) service.groups }

-- the group of the number and the properties after its own steps of these
unfoldable pub group_after : SettingsView → GroupProps → ℕ → List Step → State
group_after service props group steps = state_after (opened_group service props) (own group steps)

-- the group of the settings, with its name, that the group of the number is like, where that is there
abbrev pub like_at : SettingsView → List Entry → ℕ → Option (List ℕ × GroupProps)
like_at service entries number = option_and_then (λ e. slice_get service.groups e.like) (entry_at entries number)

-- the group of the number after its own steps, where it is there
abbrev pub state_at : SettingsView → Course → ℕ → Option State
state_at service course number = option_map (λ group. group_after service group.1 number course.steps) (like_at service course.entries number)

-- the number of the group's command of the name: 0 for its own name, or that of a further command of the group which it is
-- like
abbrev pub command_of : SettingsView → Entry → List ℕ → Option ℕ
command_of service e name = if bytes_eq e.name name then Some 0 else further_number (names_in service) e.like name

-- the number of the command of the name in the group of the number, where that is there and has one
abbrev pub command_at : SettingsView → List Entry → ℕ → List ℕ → Option ℕ
command_at service entries number name = option_and_then (λ e. command_of service e name) (entry_at entries number)

-- the same, or the fault; the own command where no name is said
abbrev pub command_said : SettingsView → List Entry → ℕ → Option (List ℕ) → Result ℕ Fault
command_said service entries number None = Ok 0
command_said service entries number (Some name) = or_fault faults.Command (command_at service entries number name)

-- the step that is asked for: its group is looked up before its command, and both before its texts are measured
abbrev pub step_of : SettingsView → List Entry → Said → Result Step Fault
step_of service entries said = do
  number ← or_fault faults.Group (number_of entries said.group)
  command ← command_said service entries number said.command
  o ← if_short command said.op
  Ok (record { group = record { 0 = number }; now = said.now; op = o })

-- a group may be registered under the name: it is one by the rule for names, and neither a group that is there nor a further
-- command of the settings has it
abbrev pub is_free : SettingsView → List Entry → List ℕ → Bool
is_free service entries name = is_name name && is_none (number_of entries name) && is_none (find (λ c. bytes_eq c.0 name) service.commands)

-- a new group of the first name, like the group of the settings that has the second
abbrev pub registration : SettingsView → List Entry → List ℕ → List ℕ → Result LineAct Fault
registration service entries name like =
    if is_free service entries name
    then (do
      place ← or_fault faults.Like (group_number (names_in service).groups like)
      (if nat_lt (length entries) most_groups then Ok (act.Register name place) else Err faults.Groups))
    else Err faults.Name

-- the end of the group of the name
abbrev pub retirement : List Entry → List ℕ → Result LineAct Fault
retirement entries name = do
  number ← or_fault faults.Group (number_of entries name)
  Ok (act.Retire (record { 0 = number }))

-- what a line asks for in a service that has these groups
abbrev pub act_of : SettingsView → List Entry → Asked → Result LineAct Fault
act_of service entries (a_step said) = do
  x ← step_of service entries said
  Ok (act.Step x)
act_of service entries (a_group name like) = registration service entries name like
act_of service entries (an_end name) = retirement entries name

-- the same, if something is asked for
abbrev pub act_asked : SettingsView → List Entry → Result Asked Fault → Result LineAct Fault
act_asked service entries (Ok asked) = act_of service entries asked
act_asked service entries (Err fault) = Err fault

-- what a line asks for in a service that has these groups
unfoldable pub line_act : SettingsView → List Entry → List ℕ → Result LineAct Fault
line_act service entries bytes = act_asked service entries (line_asked bytes)

-- what can be done in a service that has these groups: a step of a group that is there, one group more, like one of the
-- settings, where there may be one more, or that a group which is there goes
abbrev pub IsActOf : SettingsView → List Entry → LineAct → Type 0
IsActOf service entries (act.Step x) = IsSome (entry_at entries x.group.0)
IsActOf service entries (act.Register name place) = (place < length service.groups) × (length entries < most_groups)
IsActOf service entries (act.Retire group) = IsSome (entry_at entries group.0)
