use Rattle.std.proofs.Common.{sym, ◌∙◌}
use Rattle.bh_slot_arena.specs.Slots.{slots_on}
use Rattle.bh_cache.proofs.Members.{has_contained}
use Rattle.bh_tickets.proofs.Along.{on_live}
use Rattle.bh_tickets.proofs.ReleasedAll.{released_off, released_slot}
use Rattle.bh_tickets.proofs.sweeps.release_noted.Goals as goal

pub release_at-requires-clause-there : goal.release_at-requires-clause-there
release_at-requires-clause-there c =
    let on = has_contained (slots_on c.args.arena.now 0 c.list_holding-list.result) c.args.slot c.list_holding-list.ensures.on in
    on_live c.args.arena.now c.args.group.now.lists c.list_holding-list.result c.args.slot c.requires.arena (sym c.is_live_list.ensures ∙ c.if-is_live_list.true) on

pub returns-then-is_live_list-clause-released : goal.returns-then-is_live_list-clause-released
returns-then-is_live_list-clause-released c = released_slot c.args.arena.now c.args.group.now c.args.slot c.release_at.new.arena c.release_at.new.group c.release_at.ensures.released

pub returns-else-is_live_list-clause-released : goal.returns-else-is_live_list-clause-released
returns-else-is_live_list-clause-released c =
    let on = has_contained (slots_on c.args.arena.now 0 c.list_holding-list.result) c.args.slot c.list_holding-list.ensures.on in
    released_off c.args.arena.now c.args.group.now c.args.slot c.requires.arena c.requires.group c.list_holding-list.result on (sym c.is_live_list.ensures ∙ c.if-is_live_list.false)
