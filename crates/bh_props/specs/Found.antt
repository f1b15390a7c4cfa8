-- What a file has for all names, and for one name, where it was looked up.
use Rattle.std.specs.Prelude.{◌≡◌, ◌∷◌, ◌++◌, [], codes, Option, option_map}
use Rattle.std.specs.Borrow.{Bor}
use Rattle.toml.specs.Data.{Data}
use Rattle.toml.specs.View.{view}
use Rattle.toml.specs.declared.value.Value.{Value}
use Rattle.bh_props.specs.declared.in_force.Sections.{Sections}
use Rattle.bh_props.specs.declared.in_force.Given.{Given}
use Rattle.bh_props.specs.Tree.{keys_of, look_up}

-- the data of a value, where there is one
abbrev pub seen : Option (Bor Value) → Option Data
seen = option_map (λ v. view v.now)

-- each part is what stands at its place
pub record AreFound (s : Sections) : Type 0 where
  pub slots : seen s.slots ≡ look_up (keys_of (codes "service.slots")) (view s.root.now)
  pub commands : seen s.commands ≡ look_up (keys_of (codes "hystrix.command")) (view s.root.now)
  pub pools : seen s.pools ≡ look_up (keys_of (codes "hystrix.threadpool")) (view s.root.now)
  pub default_command : seen s.default_command ≡ look_up (keys_of (codes "hystrix.command") ++ codes "default" ∷ []) (view s.root.now)

-- and so is what stands under the name
pub record IsFound (g : Given) : Type 0 where
  pub sections : AreFound g.sections
  pub command : seen g.command ≡ look_up (keys_of (codes "hystrix.command") ++ g.name.now ∷ []) (view g.sections.root.now)
