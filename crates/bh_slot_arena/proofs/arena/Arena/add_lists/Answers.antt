use Rattle.std.proofs.Common.{◌++◌, [], replicate, ap, ◌∙◌, arith}
use Rattle.std.proofs.lemmas.Result.{on_ok_weaker, on_err_weaker}
use Rattle.bh_slot_arena.specs.Slots.{with_new_lists}
use Rattle.bh_slot_arena.proofs.Families.{shown, shown-set, with_lists-same}
use Rattle.bh_slot_arena.proofs.arena.Arena.add_lists.Goals as goal

pub returns-clause-ok : goal.returns-clause-ok
returns-clause-ok g c = on_ok_weaker c.add_lists.result (λ e.
    shown-set c.self.inside.limit c.self.inside.reserved c.self.inside.payloads.items c.self.inside.families c.args.family c.index-self-family.result c.add_lists.new.self (λ ls. ls ++ replicate c.args.count []) (omega (arith, c.requires)) e
    ∙ ap (with_new_lists c.args.family c.args.count) c.self.view_is) c.add_lists.ensures.ok

pub returns-clause-err : goal.returns-clause-err
returns-clause-err g c = on_err_weaker c.add_lists.result (λ e.
    shown-set c.self.inside.limit c.self.inside.reserved c.self.inside.payloads.items c.self.inside.families c.args.family c.index-self-family.result c.add_lists.new.self (λ ls. ls) (omega (arith, c.requires)) e
    ∙ with_lists-same (shown c.self.inside.limit c.self.inside.reserved c.self.inside.payloads.items c.self.inside.families) c.args.family
    ∙ c.self.view_is) c.add_lists.ensures.err
