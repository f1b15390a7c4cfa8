use Rattle.std.proofs.Common.{◌<◌, ℕ, List, All, IfSome, length, refl, sym, subst, arith}
use Rattle.std.proofs.lemmas.List.Elements.{All-from_recursion, recursion_from_All}
use Rattle.bh_base.specs.Commands.{command_count}
use Rattle.bh_props.specs.ByGroup.{AreByGroup}
use Rattle.bh_props.proofs.ByGroup.{list-at, own-known}
use Rattle.bh_props.proofs.print.write_commands.Goals as goal

pub write_listed-requires : goal.write_listed-requires
write_listed-requires g c =
    let gathered : AreByGroup c.args.commands.now.entries c.in-Some.lists.items =
    subst (λ o. IfSome o (λ lists. AreByGroup c.args.commands.now.entries lists.items)) c.in-Some.is c.requires.gathered in
    let within : c.args.place < length c.in-Some.lists.items = omega (arith, c.in-Some.lists.ok.0) in
    let own = list-at c.args.commands.now.entries c.in-Some.lists.items (length c.in-Some.lists.items) c.args.place c.index.result.now c.deref.result.now gathered refl within c.index.ensures c.deref.ensures.value in
    subst (All (λ (x : List ℕ × (ℕ × ℕ)). x.1.1 < command_count c.args.props.now)) (sym own)
    (All-from_recursion _ _ (own-known c.args.commands.now.entries c.args.place (command_count c.args.props.now) (recursion_from_All _ c.args.commands.now.entries c.requires.known)))
