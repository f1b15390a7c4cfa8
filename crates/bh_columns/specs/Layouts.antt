-- Which panels are kept of a run: each group that came has one, unless there would be too many lanes.
use Rattle.std.specs.Prelude.{ℕ, ◌+◌, Bool, not, ◌&&◌, ◌||◌, ◌==◌, nat_lt, List, [], ◌∷◌, ◌++◌, length, slice_get, if◌then◌else◌}
use Rattle.std.specs.List.{list_any}
use Rattle.std.specs.Option.{option_map_or}
use Rattle.std.specs.Str.{bytes_eq}
use Rattle.bh_base.specs.Commands.{command_count}
use Rattle.bh_port.specs.declared.groups.Entry.{Entry}
use Rattle.bh_props.specs.SettingsView.{SettingsView}
use Rattle.bh_look.specs.Tallies.{sum_up_to}
use Rattle.bh_columns.specs.declared.selection.Selection.{Selection}

-- whether groups of the name are kept: all, where none is selected
abbrev pub keeps : Selection → List ℕ → Bool
keeps sel name = length sel.groups.items == 0 || list_any (λ g. bytes_eq g name) sel.groups.items

-- the most lanes that are kept
abbrev pub most_lanes : ℕ
most_lanes = 1_000

-- whose a panel is: that of the groups of the name which began with the properties of the group of the settings at the place
pub record PanelName : Type 0 where
  pub name : List ℕ
  pub like : ℕ

-- the panels in their order, how many lanes they have in all, and how many groups were left out because of that number
pub record Layout : Type 0 where
  pub panels : List PanelName
  pub lanes : ℕ
  pub left_out : ℕ

-- no group came
abbrev pub no_layout : Layout
no_layout = record { panels = []; lanes = 0; left_out = 0 }

-- whether there is the panel of the name and the properties
abbrev pub has_panel : List PanelName → List ℕ → ℕ → Bool
has_panel panels name like = list_any (λ one. bytes_eq one.name name && one.like == like) panels

-- how many lanes such a panel has: one for each command
abbrev pub lanes_of : SettingsView → ℕ → ℕ
lanes_of service like = option_map_or (λ group. command_count group.1) (slice_get service.groups like) 0

-- whether a group has to be left out: lanes would be more than are kept, or one before it was left out
abbrev pub is_full : SettingsView → ℕ → Layout → Bool
is_full service like l = nat_lt most_lanes (l.lanes + lanes_of service like) || nat_lt 0 l.left_out

-- with a group of a new name or of other properties: its panel stands behind the others
abbrev pub with_panel : SettingsView → List ℕ → ℕ → Layout → Layout
with_panel service name like l =
    let own : PanelName = record { name = name; like = like } in
    if is_full service like l then record l { left_out = sum_up_to l.left_out 1 }
    else record l { panels = l.panels ++ own ∷ []; lanes = l.lanes + lanes_of service like }

-- with a group that comes: nothing is new where its name is not selected, or where its panel is there
abbrev pub with_group : SettingsView → Selection → List ℕ → ℕ → Layout → Layout
with_group service sel name like l = if keeps sel name && not (has_panel l.panels name like) then with_panel service name like l else l

-- with all groups that come, in their order
abbrev pub with_groups : SettingsView → Selection → List Entry → Layout → Layout
with_groups service sel [] l = l
with_groups service sel (e ∷ es) l = with_groups service sel es (with_group service sel e.name e.like l)

-- the panels of a run in which these groups came, retired ones among them
abbrev pub layout_of : SettingsView → Selection → List Entry → Layout
layout_of service sel entries = with_groups service sel entries no_layout
