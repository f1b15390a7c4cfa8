-- Lines that were read and are not answered yet.
use Rattle.std.specs.Prelude.{◌≡◌, ℕ, List, [], ◌∷◌, drop, Some, OnOk, IsSome}
use Rattle.std.specs.List.{AllByRecursion}
use Rattle.bh_lines.specs.declared.front.FrontLine.{FrontLine}
use Rattle.bh_lines.specs.Front.{IsFront}
use Rattle.bh_port.specs.declared.act.LineAct.{LineAct}
use Rattle.bh_port.specs.declared.act.LineAct.TheVariants as act
use Rattle.bh_port.specs.declared.ahead.ReadLine.{ReadLine}
use Rattle.bh_port.specs.declared.groups.Entry.{Entry}
use Rattle.bh_port.specs.Entries.{entry_at}
use Rattle.bh_port.specs.Script.{IsSaid}
use Rattle.bh_props.specs.SettingsView.{SettingsView}

-- a step of a group that is there
abbrev pub IsStep : List Entry → LineAct → Type 0
IsStep entries (act.Step x) = IsSome (entry_at entries x.group.0)
IsStep entries (act.Register name place) = ⊥
IsStep entries (act.Retire group) = ⊥

-- where the line is not at fault, its step can be made
abbrev pub IsReady : List Entry → ReadLine → Type 0
IsReady entries line = OnOk line.said (IsStep entries line.act)

-- the same of each line
abbrev pub AreReady : List Entry → List ReadLine → Type 0
AreReady entries lines = AllByRecursion (IsReady entries) lines

-- these lines are in front of the bytes, one behind the other, and the others are left
abbrev pub AreRead : SettingsView → List Entry → List ReadLine → List ℕ → List ℕ → Type 0
AreRead service entries [] bytes left = left ≡ bytes
AreRead service entries (line ∷ lines) bytes left =
    (front : FrontLine) × IsFront bytes (Some front) × IsSaid service entries front.text.now line.act line.said
    × AreRead service entries lines (drop front.taken bytes) left
