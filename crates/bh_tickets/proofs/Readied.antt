-- A slot is free for a group's next ticket: what all groups are then.
use Rattle.std.proofs.Common.{◌≡◌, ℕ, zero, suc, List, [], ◌∷◌, set, Option, Some, refl, ap, subst, sym, ◌∙◌}
use Rattle.std.specs.Prelude.{slice_get}
use Rattle.bh_cache.specs.Slots.{Slots}
use Rattle.bh_serials.specs.TableView.{TableView}
use Rattle.bh_tickets.specs.declared.group_slots.GroupSlots.{GroupSlots}
use Rattle.bh_tickets.specs.declared.names.NameLists.{NameLists}
use Rattle.bh_tickets.specs.Spare.{HasSlotFree}
use Rattle.bh_tickets.specs.Tables.{HaveTables}
use Rattle.bh_tickets.specs.TicketsView.{GroupTickets, TicketsView}
use Rattle.bh_tickets.specs.Whole.{AreTickets, view_of}
use Rattle.bh_tickets.proofs.Whole.{get_lt, set_same}

-- what is set twice is what was set last
set_twice : (ss : List GroupSlots) (i : ℕ) (r q : GroupSlots) → set (set ss i r) i q ≡ set ss i q
set_twice [] i r q = refl
set_twice (y ∷ ys) zero r q = refl
set_twice (y ∷ ys) (suc i) r q = ap (λ zs. y ∷ zs) (set_twice ys i r q)

-- all groups are as they should be still, the one with what it keeps now, and contracts see of them what they saw
pub record IsReadied (i : ℕ) (view : TicketsView) (spare : Option GroupSlots) (ss : List GroupSlots) (ns : List NameLists) (ts : List TableView) (b : Slots) (r : GroupSlots) : Type 0 where
  pub tickets : AreTickets b spare (set ss i r) ns ts
  pub shown : view_of b (set ss i r) ≡ view
  pub here : slice_get (set ss i r) i ≡ Some r
  pub twice : (q : GroupSlots) → set (set ss i r) i q ≡ set ss i q

pub readied : {i : ℕ} {view : TicketsView} {a b : Slots} {spare : Option GroupSlots} {ss : List GroupSlots} {ns : List NameLists} {ts : List TableView} {s r : GroupSlots}
    → AreTickets a spare ss ns ts → view_of a ss ≡ view → slice_get ss i ≡ Some s → HasSlotFree a s b r → IsReadied i view spare ss ns ts b r
readied {i} {view} {a} {b} {spare} {ss} {ns} {ts} {s} {r} were seen is free =
    let same = free.view spare ss ns i were.whole is in
    record {
      tickets = record { whole = free.whole spare ss ns i were.whole is; tables = subst (λ (gs : List GroupTickets). HaveTables gs ts) (sym (ap (λ (v : TicketsView). v.groups) same)) were.tables };
      shown = same ∙ seen;
      here = set_same ss i r (get_lt ss i s is);
      twice = set_twice ss i r;
    }
