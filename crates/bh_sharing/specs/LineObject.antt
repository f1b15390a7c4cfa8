-- Objects whose members are listed.
use Rattle.std.specs.Prelude.{List, [], ◌∷◌}
use Rattle.serde_json.specs.Data.{Members, boolean, number, put, string, unsigned}
use Rattle.bh_sharing.specs.declared.line_object.Member.{Member}
use Rattle.bh_sharing.specs.declared.line_object.Member.TheVariants as is

-- the members with one more
abbrev pub with_one : Member → Members → Members
with_one (is.Text name text) before = put name.now (string text.now) before
with_one (is.Number name n) before = put name.now (number (unsigned n)) before
with_one (is.Truth name truth) before = put name.now (boolean truth) before

-- and with several, one after the other
abbrev pub with_each : List Member → Members → Members
with_each [] before = before
with_each (m ∷ ms) before = with_each ms (with_one m before)
