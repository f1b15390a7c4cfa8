use Rattle.std.proofs.Common.{List, ◌∷◌, [], ◌++◌, ◌<◌, ℕ, ap, ◌∙◌, arith}
use Rattle.bh_serials.specs.Entries.{alive_in}
use Rattle.bh_serials.specs.TableView.{TableView}
use Rattle.bh_serials.proofs.Alive.{alive_in-append}
use Rattle.bh_serials.proofs.Rising.{IsRising-append}
use Rattle.bh_serials.proofs.table.SerialTable.add.Goals as goal

pub invariant_of-self : goal.invariant_of-self
invariant_of-self c =
    let later : c.self.inside.latest < c.args.serial = rw (ap (λ (t : TableView). t.latest) c.self.view_is) c.requires.later in
    record {
      rising = rw c.push_reserved.ensures.items (IsRising-append 0 c.self.inside.latest c.args.serial _ _ later (c.make_room.ensures.rising 0 c.self.inside.latest c.self.invariant.rising));
      memory = omega (arith, c.push_reserved.ensures.capacity, c.make_room.ensures.memory, c.self.invariant.memory);
    }

pub returns : goal.returns
returns c =
    rw (← c.self.view_is)
    (ap (λ (es : List (ℕ × ℕ)). record { entries = es; latest = c.args.serial; room = c.self.inside.room })
    (ap alive_in c.push_reserved.ensures.items
    ∙ alive_in-append c.args.serial c.args.slot c.make_room.new.entries.items
    ∙ ap (λ (es : List (ℕ × ℕ)). es ++ (c.args.serial, c.args.slot) ∷ []) c.make_room.ensures.alive))
