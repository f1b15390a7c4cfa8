-- A group together with its tickets.
use Rattle.std.proofs.Common.{◌≡◌, ℕ, ◌+◌, ◌<◌, ◌≤◌, Bool, true, false, cond, List, [], ◌∷◌, filter, length, Option, Some, None, zero, suc, inl, inr, refl, ◌∙◌, sym, ap, subst, arith}
use Rattle.std.specs.Prelude.{◌&&◌, ◌==◌, nat_lt, slice_get, find}
use Rattle.std.proofs.lemmas.Bool.Decides.{nat_tests}
use Rattle.std.proofs.lemmas.Option.{slice_get_cases}
use Rattle.bh_base.specs.declared.ticket.Ticket.{Ticket}
use Rattle.std.specs.List.{AllByRecursion}
use Rattle.bh_base.specs.Props.{GroupProps}
use Rattle.bh_base.specs.Bounds.{HeldBy}
use Rattle.bh_base.specs.Commands.{command_count}
use Rattle.bh_base.specs.Order.{AreKnown}
use Rattle.bh_base.specs.Machine.{changed}
use Rattle.bh_base.specs.Tickets.{changed_first, is_held_at, is_kept}
use Rattle.bh_core.proofs.Ops.{with_present}
use Rattle.bh_core.specs.GroupView.{GroupView, HasTickets, Leaves, LeavesRoom, view_in}
use Rattle.bh_core.specs.Stepping.{released_view}
use Rattle.bh_tickets.specs.TicketsView.{GroupTickets, IsFirstAt, TicketsView, group_at, in_slot, no_tickets_in}

-- the ticket that was found and is read
pub found_is : (g : GroupTickets) (slot : ℕ) (p : Ticket → Bool) (t : Ticket) → IsFirstAt p g slot → in_slot g slot ≡ Some t → find p g.items ≡ Some t
found_is g slot p t first here =
    let both : Some first.ticket ≡ Some t = sym first.here ∙ here in
    let same : first.ticket ≡ t = cc in
    first.first ∙ ap Some same

-- what holds of all tickets holds of the one that a search found, and that one passes the search's test
found_all : (p : Ticket → Bool) (C : Ticket → Type 0) (ts : List Ticket) (t : Ticket) → AllByRecursion C ts → find p ts ≡ Some t → C t
found_all p C [] t all e = absurd cc
found_all p C (u ∷ ts) t all e = at (p u) e (found_all p C ts t all.1)
  where
    at : (b : Bool) → cond b (Some u) (find p ts) ≡ Some t → (find p ts ≡ Some t → C t) → C t
    at true found rest = (let same : u ≡ t = cc in subst C same all.0)
    at false found rest = rest found

find_passes : (p : Ticket → Bool) (ts : List Ticket) (t : Ticket) → find p ts ≡ Some t → p t ≡ true
find_passes p [] t e = absurd cc
find_passes p (u ∷ ts) t e = at (p u) refl e (find_passes p ts t)
  where
    at : (b : Bool) → p u ≡ b → cond b (Some u) (find p ts) ≡ Some t → (find p ts ≡ Some t → p t ≡ true) → p t ≡ true
    at true passes found rest = (let same : u ≡ t = cc in ap p (sym same) ∙ passes)
    at false passes found rest = rest found

-- no ticket that was found has more holders than are known of all
pub held_found : (g : GroupTickets) (slot : ℕ) (p : Ticket → Bool) (t : Ticket) (most : ℕ) → HeldBy most g.items → IsFirstAt p g slot → in_slot g slot ≡ Some t → t.holders ≤ most
held_found g slot p t most held first here = found_all p (λ u. u.holders ≤ most) g.items t held (found_is g slot p t first here)

-- each ticket that was found is of a command that the group has
pub known_found : (g : GroupTickets) (slot : ℕ) (p : Ticket → Bool) (t : Ticket) (props : GroupProps) → AreKnown props g.items → IsFirstAt p g slot → in_slot g slot ≡ Some t → t.command < command_count props
known_found g slot p t props known first here = found_all p (λ u. u.command < command_count props) g.items t known (found_is g slot p t first here)

-- a ticket that is held has a holder
pub held_first : (g : GroupTickets) (serial slot : ℕ) → IsFirstAt (is_held_at serial) g slot → (t : Ticket) → in_slot g slot ≡ Some t → 0 < t.holders
held_first g serial slot first t here =
    at_least (t.serial == serial) t.holders (find_passes (is_held_at serial) g.items t (found_is g slot (is_held_at serial) t first here))
  where
    at_least : (b : Bool) (n : ℕ) → (b && nat_lt 0 n) ≡ true → 0 < n
    at_least true n h = grind (arith, nat_tests)
    at_least false n h = absurd cc

-- the tickets of the group of the number, wherever they are read
abbrev read_or : Option GroupTickets → GroupTickets
read_or None = no_tickets_in 0
read_or (Some g) = g

group_at_is : (ts : TicketsView) (i : ℕ) → group_at ts i ≡ read_or (slice_get ts.groups i)
group_at_is ts i = at ts.groups i
  where
    at : (gs : List GroupTickets) (i : ℕ) → group_at (record ts { groups = gs }) i ≡ read_or (slice_get gs i)
    at [] i = refl
    at (x ∷ xs) zero = refl
    at (x ∷ xs) (suc i) = at xs i

group_alike : (ts us : TicketsView) (i : ℕ) → slice_get us.groups i ≡ slice_get ts.groups i → group_at us i ≡ group_at ts i
group_alike ts us i e = group_at_is us i ∙ ap read_or e ∙ sym (group_at_is ts i)

-- the tickets that stand at the number of a group are those that are read for it
pub group_read : (ts : TicketsView) (i : ℕ) (x : GroupTickets) → slice_get ts.groups i ≡ Some x → group_at ts i ≡ x
group_read ts i x e = group_at_is ts i ∙ ap read_or e

-- a group whose tickets are as they were is as it was
pub view_same : (ts us : TicketsView) (g : GroupView) → slice_get us.groups g.place ≡ slice_get ts.groups g.place → view_in us g ≡ view_in ts g
view_same ts us g e =
    let same = group_alike ts us g.place e in
    λ i. record (view_in ts g) { present = record (view_in ts g).present { tickets = (same i).items; serial = (same i).next } }

-- a group whose tickets are as they were, among as many groups or more, has them still
pub tickets_same : (ts us : TicketsView) (g : GroupView) → length ts.groups ≤ length us.groups → slice_get us.groups g.place ≡ slice_get ts.groups g.place → HasTickets ts g → HasTickets us g
tickets_same ts us g count e has =
    let same = group_alike ts us g.place e in
    record {
      there = omega (arith, count, has.there);
      room = ap (λ (x : GroupTickets). x.room) same ∙ has.room;
      few = subst (λ (x : GroupTickets). length x.items ≤ g.props.slots) (sym same) has.few;
      serial = subst (λ (x : GroupTickets). x.next ≤ g.steps + 1) (sym same) has.serial;
    }

-- a group whose tickets are as they were has them still, however many groups there are
pub tickets_there : (ts us : TicketsView) (g : GroupView) → slice_get us.groups g.place ≡ slice_get ts.groups g.place → HasTickets ts g → HasTickets us g
tickets_there ts us g e has =
    let same = group_alike ts us g.place e in
    record {
      there = elim ((slice_get_cases ts.groups g.place).1) [
        | inl w ↦ (let at : slice_get us.groups g.place ≡ Some w.0 = e ∙ w.2 in elim ((slice_get_cases us.groups g.place).1) [
          | inl k ↦ k.1
          | inr k ↦ absurd (let both : Some w.0 ≡ None = sym at ∙ k.1 in cc)
        ])
        | inr w ↦ absurd (let past = w.0 in let there = has.there in omega arith)
      ];
      room = ap (λ (x : GroupTickets). x.room) same ∙ has.room;
      few = subst (λ (x : GroupTickets). length x.items ≤ g.props.slots) (sym same) has.few;
      serial = subst (λ (x : GroupTickets). x.next ≤ g.steps + 1) (sym same) has.serial;
    }

-- one change after another
pub leaves_twice : (ts us vs : TicketsView) (g h k : GroupView) → Leaves ts g us h → Leaves us h vs k → Leaves ts g vs k
leaves_twice ts us vs g h k l m = record {
  place = m.place ∙ l.place;
  props = m.props ∙ l.props;
  limit = m.limit ∙ l.limit;
  others = λ i differ. m.others i (λ e. differ (e ∙ l.place)) ∙ l.others i differ;
  count = m.count ∙ l.count;
  room = ap (λ n. (group_at vs n).room) (sym l.place) ∙ m.room ∙ ap (λ n. (group_at us n).room) l.place ∙ l.room;
  serial = λ few. subst (λ n. (group_at vs n).next ≤ k.steps + 1) l.place (m.serial (subst (λ n. (group_at us n).next ≤ h.steps + 1) (sym l.place) (l.serial few)));
}

-- the group has its tickets still, where there are as many as before
pub has_left : (ts us : TicketsView) (g h : GroupView) → Leaves ts g us h → length (group_at us h.place).items ≡ length (group_at ts g.place).items → HasTickets ts g → HasTickets us h
has_left ts us g h left many has = record {
  there = omega (arith, left.place, left.count, has.there);
  room = ap (λ n. (group_at us n).room) left.place ∙ left.room ∙ has.room ∙ ap (λ (p : GroupProps). p.slots) (sym left.props);
  few = omega (arith, many, has.few, ap (λ (p : GroupProps). p.slots) left.props);
  serial = subst (λ n. (group_at us n).next ≤ h.steps + 1) (sym left.place) (left.serial has.serial);
}

-- one ticket of the group was changed, and nothing else of it
pub view_changed : (ts us : TicketsView) (g : GroupView) (p : Ticket → Bool) (f : Ticket → Ticket) → (group_at us g.place).items ≡ changed_first p f (group_at ts g.place).items → (group_at us g.place).next ≡ (group_at ts g.place).next → view_in us g ≡ with_present (changed p f (view_in ts g).present) (view_in ts g)
view_changed ts us g p f items next = λ i. record (view_in ts g) { present = record (view_in ts g).present { tickets = items i; serial = next i } }

-- tickets of the group that nobody needs are gone, and nothing else of it was changed
pub view_released : (ts us : TicketsView) (g : GroupView) → (group_at us g.place).items ≡ filter is_kept (group_at ts g.place).items → (group_at us g.place).next ≡ (group_at ts g.place).next → view_in us g ≡ released_view (view_in ts g)
view_released ts us g items next = λ i. record (view_in ts g) { present = record (view_in ts g).present { tickets = items i; serial = next i } }

-- who leaves the properties leaves the slots
pub leaves_room : (ts us : TicketsView) (g h : GroupView) → Leaves ts g us h → LeavesRoom ts g us h
leaves_room ts us g h l = record {
  place = l.place;
  slots = ap (λ (p : GroupProps). p.slots) l.props;
  limit = l.limit;
  others = l.others;
  count = l.count;
  room = l.room;
  serial = l.serial;
}

-- one change after another, where the second may be a Tune
pub rooms_twice : (ts us vs : TicketsView) (g h k : GroupView) → LeavesRoom ts g us h → LeavesRoom us h vs k → LeavesRoom ts g vs k
rooms_twice ts us vs g h k l m = record {
  place = m.place ∙ l.place;
  slots = m.slots ∙ l.slots;
  limit = m.limit ∙ l.limit;
  others = λ i differ. m.others i (λ e. differ (e ∙ l.place)) ∙ l.others i differ;
  count = m.count ∙ l.count;
  room = ap (λ n. (group_at vs n).room) (sym l.place) ∙ m.room ∙ ap (λ n. (group_at us n).room) l.place ∙ l.room;
  serial = λ few. subst (λ n. (group_at vs n).next ≤ k.steps + 1) l.place (m.serial (subst (λ n. (group_at us n).next ≤ h.steps + 1) (sym l.place) (l.serial few)));
}
