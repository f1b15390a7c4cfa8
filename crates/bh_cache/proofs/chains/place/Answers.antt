use Rattle.std.proofs.Common.{◌≡◌, List, ℕ, length, Option, Some, ap, ◌∙◌, arith, rules}
use Rattle.bh_base.specs.declared.ticket.Ticket.{Ticket}
use Rattle.bh_slot_arena.specs.Slots.{lists_in, with_moved}
use Rattle.bh_cache.specs.Chains.{list_by_context, with_placed}
use Rattle.bh_cache.specs.Slots.{Slots}
use Rattle.bh_cache.proofs.Moves.{family_stays}
use Rattle.bh_cache.proofs.Placed.{context_list_there, name_list_there}
use Rattle.bh_cache.proofs.chains.place.Goals as goal

pub move_to_back-requires : goal.move_to_back-requires
move_to_back-requires c =
    let k = name_list_there c.args.arena.now c.args.lists.now c.requires.lists (Some c.get-ticket.result.now) in
    (search rules, (search rules, (c.requires.slot, omega (arith, k, c.list_by_name-names.ensures))))

pub move_to_back-requires-2 : goal.move_to_back-requires-2
move_to_back-requires-2 c =
    let a = c.args.arena.now in
    let k = context_list_there a c.args.lists.now c.requires.lists (Some c.get-ticket.result.now) in
    let contexts : lists_in c.move_to_back.new.self 2 ≡ lists_in a 2 =
    ap (λ (m : Slots). lists_in m 2) c.move_to_back.ensures.moved ∙ family_stays a 1 2 c.args.slot c.list_by_name-names.result (λ e. absurd (omega (arith, e))) in
    (search rules, (search rules, (search rules, omega (arith, k, c.list_by_context-contexts.ensures, ap (λ (ls : List (List ℕ)). length ls) contexts))))

pub returns : goal.returns
returns c =
    let a = c.args.arena.now in
    let g = c.args.lists.now in
    let slot = c.args.slot in
    let t = c.get-ticket.result.now in
    c.move_to_back-2.ensures.moved
    ∙ ap (λ l. with_moved 2 slot l c.move_to_back.new.self) c.list_by_context-contexts.ensures
    ∙ ap (λ (m : Slots). with_moved 2 slot (list_by_context g (Some t)) m) (c.move_to_back.ensures.moved ∙ ap (λ l. with_moved 1 slot l a) c.list_by_name-names.ensures)
    ∙ ap (λ (o : Option Ticket). with_placed g slot o a) c.get-ticket.ensures
