use Rattle.std.proofs.Common.{◌≡◌, ◌-◌, List, length, map, ap, ap₂, ◌∙◌, arith, ℕ}
use Rattle.std.specs.List.{range_with_len, zip}
use Rattle.bh_slot_arena.specs.Lists.{put_last}
use Rattle.bh_slot_arena.specs.Slots.{ArenaView, with_new_slots, with_reserved}
use Rattle.bh_slot_arena.proofs.Families.{all_lists-added}
use Rattle.bh_slot_arena.proofs.arena.Arena.add_reserved.Goals as goal

pub returns-clause-added : goal.returns-clause-added
returns-clause-added g c =
    let first : c.len-first.result ≡ length c.self.inside.payloads.items = omega (arith, c.len-first.ensures, c.self.inside.payloads.ok.0) in
    let added = all_lists-added c.len-first.result c.args.count c.args.lists c.self.inside.families c.add_to_all.new.families c.add_to_all.auto.families (omega arith) c.add_to_all.ensures in
    ap₂ (λ (ps : List g.row.T.Denot) (ls : List (List (List ℕ))). let a : ArenaView g.row.T.Denot = record { limit = c.self.inside.limit; reserved = c.self.inside.reserved - c.args.count; payloads = ps; families = ls } in a)
    c.push_copies.ensures.items
    (added ∙ ap (λ (n : ℕ). map (λ (p : ℕ × List (List ℕ)). put_last (range_with_len n c.args.count) p.0 p.1) (zip c.args.lists (map (λ f. f.lists) c.self.inside.families))) first)
    ∙ ap (λ (a : ArenaView g.row.T.Denot). with_reserved (a.reserved - c.args.count) (with_new_slots c.args.count c.args.lists c.args.blank a)) c.self.view_is
