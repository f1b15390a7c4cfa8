use Rattle.std.proofs.Common.{◌≡◌, None, Some, true, length, refl, arith, ap, sym, ◌∙◌, rules}
use Rattle.std.proofs.lemmas.Option.{slice_get_read}
use Rattle.std.specs.Prelude.{slice_get}
use Rattle.std.specs.Str.{bytes_eq}
use Rattle.bh_port.specs.Entries.{last_named}
use Rattle.bh_port.specs.GroupsView.{GroupsView}
use Rattle.bh_port.specs.Latest.{latest_at}
use Rattle.bh_port.proofs.Noting.{known_at, latest_is}
use Rattle.bh_port.proofs.groups.Groups.latest_number.Goals as goal

pub returns-then-eq : goal.returns-then-eq
returns-then-eq c =
    let es = c.self.inside.entries.items in
    let number = c.in_ok-number.number in
    let entry = c.index-entry.result.now in
    let told : latest_at c.self.inside.latest c.args.name.now ≡ Some number = search rules in
    let known = known_at c.self.inside.latest c.args.name.now number told in
    let at : slice_get es number ≡ Some entry = slice_get_read es (length es) number entry refl (omega (arith, c.if-number-len.false, c.len.ensures)) c.index-entry.ensures in
    let named : bytes_eq entry.name c.args.name.now ≡ true = ap (λ n. bytes_eq n c.args.name.now) (sym c.as_str.ensures.text) ∙ sym c.if-eq.ensures in
    ap (λ (g : GroupsView). last_named c.args.name.now g.entries 0 None) (sym c.self.view_is) ∙ latest_is es c.self.inside.latest c.args.name.now number entry c.self.invariant.2 known.0 known.1 at named
