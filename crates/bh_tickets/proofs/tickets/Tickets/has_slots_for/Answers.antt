use Rattle.std.proofs.Common.{◌≡◌, ◌+◌, length, Option, arith, refl, subst, ◌∙◌}
use Rattle.bh_tickets.specs.declared.group_slots.GroupSlots.{GroupSlots}
use Rattle.std.specs.Prelude.{nat_le}
use Rattle.bh_tickets.specs.TicketsView.{TicketsView, slots_of}
use Rattle.bh_tickets.specs.Whole.{IsWhole, rooms, view_of}
use Rattle.bh_tickets.proofs.Rebuilt.{none_slots, spare_max, spare_slots, spare_vacant}
use Rattle.bh_tickets.proofs.SlotCounts.{fits_new, fits_spare, shown_rooms}
use Rattle.bh_tickets.proofs.tickets.Tickets.has_slots_for.Goals as goal
use Rattle.bh_tickets.proofs.tickets.Tickets.has_slots_for.Goals.{in-Some, in-None}

pub len_of-requires : goal.len_of-requires
len_of-requires c =
    let ss = c.self.inside.groups.items in
    let k = spare_vacant c.self.inside.arena c.in-Some.part ss c.self.inside.names.items (subst (λ (q : Option GroupSlots). IsWhole c.self.inside.arena q ss c.self.inside.names.items) c.in-Some.is c.self.invariant.whole) in
    (omega arith, (omega arith, omega (arith, k.there, k.numbered.settled)))

pub overflow_add-spare : goal.overflow_add-spare
overflow_add-spare c =
    let ss = c.self.inside.groups.items in
    let whole = subst (λ (q : Option GroupSlots). IsWhole c.self.inside.arena q ss c.self.inside.names.items) c.in-Some.is c.self.invariant.whole in
    omega (arith, c.len_of.ensures, spare_max c.self.inside.arena c.in-Some.part ss c.self.inside.names.items whole, (whole.all.each 0 c.in-Some.part refl).few)

pub returns-then-slots-spare : goal.returns-then-slots-spare
returns-then-slots-spare c =
    let a = c.self.inside.arena in
    let ss = c.self.inside.groups.items in
    let known : c.match-self.spare + rooms ss ≡ length a.payloads + a.reserved = elim c.match-self.branch [
      | in-Some w ↦
          let whole = subst (λ (q : Option GroupSlots). IsWhole a q ss c.self.inside.names.items) w.in-Some.is c.self.invariant.whole in
          omega (arith, w.spare-is, w.len_of.ensures, spare_max a w.in-Some.part ss c.self.inside.names.items whole, spare_slots a w.in-Some.part ss c.self.inside.names.items whole)
      | in-None w ↦ omega (arith, w.spare-is, none_slots a ss c.self.inside.names.items (subst (λ (q : Option GroupSlots). IsWhole a q ss c.self.inside.names.items) w.in-None.is c.self.invariant.whole))
    ] in
    subst (λ (v : TicketsView). nat_le c.args.slots c.match-self.spare ≡ nat_le (slots_of v + c.args.slots) v.limit) c.self.view_is
    (fits_spare c.args.slots c.match-self.spare (slots_of (view_of a ss)) a.limit c.if-slots-spare.true (omega (arith, known, shown_rooms a ss, c.partition.ensures.limit)))

pub returns-else-slots-spare : goal.returns-else-slots-spare
returns-else-slots-spare c =
    let a = c.self.inside.arena in
    let ss = c.self.inside.groups.items in
    let known : c.match-self.spare + rooms ss ≡ length a.payloads + a.reserved = elim c.match-self.branch [
      | in-Some w ↦
          let whole = subst (λ (q : Option GroupSlots). IsWhole a q ss c.self.inside.names.items) w.in-Some.is c.self.invariant.whole in
          omega (arith, w.spare-is, w.len_of.ensures, spare_max a w.in-Some.part ss c.self.inside.names.items whole, spare_slots a w.in-Some.part ss c.self.inside.names.items whole)
      | in-None w ↦ omega (arith, w.spare-is, none_slots a ss c.self.inside.names.items (subst (λ (q : Option GroupSlots). IsWhole a q ss c.self.inside.names.items) w.in-None.is c.self.invariant.whole))
    ] in
    subst (λ (v : TicketsView). c.has_room_for.result ≡ nat_le (slots_of v + c.args.slots) v.limit) c.self.view_is
    (c.has_room_for.ensures ∙ fits_new c.args.slots c.match-self.spare (slots_of (view_of a ss)) a.limit (length a.payloads + a.reserved) (omega (arith, c.if-slots-spare.false)) (omega (arith, known, shown_rooms a ss)))
