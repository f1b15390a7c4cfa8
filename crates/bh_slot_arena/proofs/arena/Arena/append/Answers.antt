use Rattle.std.proofs.Common.{ap, ◌∙◌, arith}
use Rattle.bh_slot_arena.specs.Lists.{appended}
use Rattle.bh_slot_arena.specs.Slots.{with_appended}
use Rattle.bh_slot_arena.proofs.Families.{shown-set}
use Rattle.bh_slot_arena.proofs.arena.Arena.append.Goals as goal

pub returns : goal.returns
returns g c =
    shown-set c.self.inside.limit c.self.inside.reserved c.self.inside.payloads.items c.self.inside.families c.args.family c.index-self-family.result c.append.new.self (appended c.args.from c.args.to) (omega (arith, c.requires.family)) c.append.ensures.lists
    ∙ ap (with_appended c.args.family c.args.from c.args.to) c.self.view_is
