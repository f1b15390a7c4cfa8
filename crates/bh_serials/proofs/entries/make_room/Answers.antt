use Rattle.std.proofs.Common.{◌≡◌, filter, length, rules, ap, ◌∙◌, arith}
use Rattle.std.proofs.lemmas.List.Elements.{filter_from_retain}
use Rattle.bh_serials.specs.Entries.{alive_in}
use Rattle.bh_serials.proofs.Alive.{alive_in-packed, is_alive, length-packed}
use Rattle.bh_serials.proofs.Rising.{IsRising-filter}
use Rattle.bh_serials.proofs.entries.make_room.Goals as goal

-- the closure tells whether an entry has a slot
packed : (c : goal.After-retain) → c.retain.new.self.items ≡ filter is_alive c.args.entries.now.items
packed c = filter_from_retain _ is_alive (λ f e b g called. search rules) _ _ _ c.retain.ensures.filtered

pub returns-then-len-capacity-clause-alive : goal.returns-then-len-capacity-clause-alive
returns-then-len-capacity-clause-alive c = ap alive_in (packed c) ∙ alive_in-packed c.args.entries.now.items

pub returns-then-len-capacity-clause-rising : goal.returns-then-len-capacity-clause-rising
returns-then-len-capacity-clause-rising c low high r = rw (packed c) (IsRising-filter is_alive low high c.args.entries.now.items r)

pub returns-then-len-capacity-clause-room : goal.returns-then-len-capacity-clause-room
returns-then-len-capacity-clause-room c =
    let few : length c.retain.new.self.items ≡ length (alive_in c.args.entries.now.items) = ap length (packed c) ∙ length-packed c.args.entries.now.items in
    omega (arith, c.requires, c.retain.ensures.capacity)
