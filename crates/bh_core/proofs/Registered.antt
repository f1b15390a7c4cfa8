-- One more group.
use Rattle.std.proofs.Common.{◌≡◌, ℕ, ◌+◌, ◌<◌, ◌≤◌, Bool, true, false, List, [], ◌∷◌, ◌++◌, length, filter, Some, zero, suc, inl, inr, refl, ◌∙◌, sym, ap, subst, arith}
use Rattle.std.proofs.lemmas.List.{map-append}
use Rattle.std.proofs.lemmas.List.Sums.{sum_by-append, sum_by-cons}
use Rattle.std.proofs.lemmas.Option.{slice_get_cases}
use Rattle.std.specs.Prelude.{◌≢◌, nat_le, slice_get}
use Rattle.std.proofs.lemmas.Bool.Decides.{nat_tests}
use Rattle.bh_base.specs.Props.{GroupProps}
use Rattle.bh_base.specs.Commands.{command_count}
use Rattle.bh_base.specs.Bounds.{HeldBy}
use Rattle.bh_base.specs.Order.{AreKnown}
use Rattle.bh_base.specs.Runs.{opened, view}
use Rattle.bh_base.specs.Tickets.{is_kept}
use Rattle.bh_core.specs.declared.service.entry.Entry.{Entry}
use Rattle.bh_core.specs.declared.service.entry.Entry.TheVariants as entry
use Rattle.bh_core.specs.GroupView.{GroupView, HasTickets, new_group, view_in}
use Rattle.bh_core.specs.CoreView.{living, slots_in, slots_of_life}
use Rattle.bh_core.specs.Stepping.{IsSteady}
use Rattle.bh_core.specs.Whole.{AreGroups, life_in, lives_in}
use Rattle.bh_core.proofs.AllGroups.{life_same, map_alike}
use Rattle.bh_core.proofs.Commands.{new_circuits, new_counted, new_pasts}
use Rattle.bh_core.proofs.Own.{group_read, tickets_there, view_same}
use Rattle.bh_tickets.specs.TicketsView.{GroupTickets, HasPlace, TicketsView, group_at, no_tickets_in, slots_of}

-- what is read is one of those that were there, or the new one
push_cases : {X : Type 0} (C : Type 0) (xs : List X) (x : X) (i : ℕ) (k : X) → slice_get (xs ++ x ∷ []) i ≡ Some k → (slice_get xs i ≡ Some k → C) → (i ≡ length xs → k ≡ x → C) → C
push_cases C [] x zero k e old new = new refl cc
push_cases C [] x (suc i) k e old new = absurd cc
push_cases C (y ∷ ys) x zero k e old new = old e
push_cases C (y ∷ ys) x (suc i) k e old new = push_cases C ys x i k e old (λ p q. new (ap suc p) q)

-- whether the slots of one more group are within the limit
pub within : (ts : TicketsView) (es : List Entry) (slots : ℕ) (b : Bool) → AreGroups ts es → b ≡ nat_le (slots_of ts + slots) ts.limit → b ≡ true → slots_in (lives_in ts es) + slots ≤ ts.limit
within ts es slots b all asked is =
    let fits : slots_of ts + slots ≤ ts.limit = at_most _ _ (sym asked ∙ is) in
    omega (arith, fits, all.slots)
  where
    at_most : (m n : ℕ) → nat_le m n ≡ true → m ≤ n
    at_most m n h = grind (arith, nat_tests)

-- where the test says no, the slots of all groups and of one more are beyond the limit
pub beyond : (ts : TicketsView) (es : List Entry) (slots : ℕ) (b : Bool) → AreGroups ts es → b ≡ nat_le (slots_of ts + slots) ts.limit → b ≡ false → ts.limit < slots_in (lives_in ts es) + slots
beyond ts es slots b all asked is =
    let passes : ts.limit < slots_of ts + slots = more _ _ (sym asked ∙ is) in
    omega (arith, passes, all.slots)
  where
    more : (m n : ℕ) → nat_le m n ≡ false → n < m
    more m n h = grind (arith, nat_tests)

-- what is read at a place of a list is there
pub within_list : {X : Type 0} (xs : List X) (i : ℕ) (x : X) → slice_get xs i ≡ Some x → i < length xs
within_list [] i x e = absurd cc
within_list (y ∷ ys) zero x e = omega arith
within_list (y ∷ ys) (suc i) x e = (let rest = within_list ys i x e in omega (arith, rest))

-- what is within a list can be read
pub read_there : (ts : TicketsView) (i : ℕ) → i < length ts.groups → (x : GroupTickets) × (slice_get ts.groups i ≡ Some x)
read_there ts i inside = elim ((slice_get_cases ts.groups i).1) [
  | inl w ↦ (w.0, w.2)
  | inr w ↦ absurd (let past = w.0 in omega arith)
]

module _ (ts us : TicketsView) (es : List Entry) (place : ℕ) (props : GroupProps) (limit : ℕ) (all : AreGroups ts es) (some : 0 < command_count props) (slots : 0 < props.slots) (taken : HasPlace place props.slots ts us) where
  abbrev pub g : GroupView
  g = new_group place props limit

  -- its tickets are the new ones
  own : group_at us place ≡ no_tickets_in props.slots
  own = group_read us place (no_tickets_in props.slots) taken.here

  -- no group had the place
  vacant : (i : ℕ) (k : GroupView) → slice_get es i ≡ Some (entry.Live k) → k.place ≢ place
  vacant i k e q = (
      let room : (group_at ts place).room ≡ k.props.slots = ap (λ n. (group_at ts n).room) (sym q) ∙ (all.tickets i k e).room in
      omega (arith, room, taken.vacant, all.some i k e))

  -- and the others are as they were
  apart : (i : ℕ) (k : GroupView) → slice_get es i ≡ Some (entry.Live k) → slice_get us.groups k.place ≡ slice_get ts.groups k.place
  apart i k e = taken.others k.place (vacant i k e)

  -- it shows a new group's view
  view_new : view_in us g ≡ view (opened props limit)
  view_new = λ i. record {
    present = record (opened props limit).present { serial = (own i).next; tickets = (own i).items; circuits = new_circuits props.commands i };
    pasts = new_pasts props.commands i;
  }

  has : HasTickets us g
  has = record {
    there = within_list us.groups place (no_tickets_in props.slots) taken.here;
    room = ap (λ (x : GroupTickets). x.room) own;
    few = omega (arith, ap (λ (x : GroupTickets). length x.items) own);
    serial = omega (arith, ap (λ (x : GroupTickets). x.next) own);
  }

  steady : IsSteady (view_in us g)
  steady = record {
    held = subst (λ (x : GroupTickets). HeldBy 0 x.items) (sym own) tt;
    kept = subst (λ (x : GroupTickets). filter is_kept x.items ≡ x.items) (sym own) refl;
    known = subst (λ (x : GroupTickets). AreKnown props x.items) (sym own) tt;
    own = some;
    events = omega (arith, new_counted props.commands);
  }

  -- callers see the groups as they were, and behind them a new one
  pub lives_pushed : lives_in us (es ++ entry.Live g ∷ []) ≡ lives_in ts es ++ living (view (opened props limit)) ∷ []
  lives_pushed =
      let before : lives_in us es ≡ lives_in ts es = map_alike (life_in us) (life_in ts) es (λ i k e. life_same ts us k (λ l q. apart i l (e ∙ ap Some q))) in
      map-append (life_in us) es (entry.Live g ∷ []) ∙ (λ i. before i ++ living (view_new i) ∷ [])

  slots_pushed : slots_of us ≡ slots_in (lives_in us (es ++ entry.Live g ∷ []))
  slots_pushed =
      let pushed : slots_in (lives_in us (es ++ entry.Live g ∷ [])) ≡ slots_in (lives_in ts es ++ living (view (opened props limit)) ∷ []) = ap slots_in lives_pushed in
      omega (arith, taken.slots, all.slots, pushed, sum_by-append slots_of_life (lives_in ts es) (living (view (opened props limit)) ∷ []), sum_by-cons slots_of_life (living (view (opened props limit))) [])

  same_live : (k : GroupView) → entry.Live k ≡ entry.Live g → k ≡ g
  same_live k e = cc

  -- with the new group behind the others, each group has tickets of its own
  pub groups_pushed : AreGroups us (es ++ entry.Live g ∷ [])
  groups_pushed = record {
    apart = λ i j a b e f differ.
        push_cases (a.place ≢ b.place) es (entry.Live g) i (entry.Live a) e
        (λ q. push_cases (a.place ≢ b.place) es (entry.Live g) j (entry.Live b) f
        (λ r. all.apart i j a b q r differ)
        (λ r s. λ z. vacant i a q (z ∙ ap (λ (x : GroupView). x.place) (same_live b s))))
        (λ p q. push_cases (a.place ≢ b.place) es (entry.Live g) j (entry.Live b) f
        (λ r. λ z. vacant j b r (sym z ∙ ap (λ (x : GroupView). x.place) (same_live a q)))
        (λ r s. absurd (differ (p ∙ sym r))));
    tickets = λ i k e. push_cases (HasTickets us k) es (entry.Live g) i (entry.Live k) e
        (λ q. kept_at i k q)
        (λ p q. subst (HasTickets us) (sym (same_live k q)) has);
    some = λ i k e. push_cases (0 < k.props.slots) es (entry.Live g) i (entry.Live k) e
        (λ q. all.some i k q)
        (λ p q. subst (λ (x : GroupView). 0 < x.props.slots) (sym (same_live k q)) slots);
    steady = λ i k e. push_cases (IsSteady (view_in us k)) es (entry.Live g) i (entry.Live k) e
        (λ q. subst IsSteady (sym (view_same ts us k (apart i k q))) (all.steady i k q))
        (λ p q. subst (λ (x : GroupView). IsSteady (view_in us x)) (sym (same_live k q)) steady);
    slots = slots_pushed;
  }
    where
      kept_at : (i : ℕ) (k : GroupView) → slice_get es i ≡ Some (entry.Live k) → HasTickets us k
      kept_at i k e = tickets_there ts us k (apart i k e) (all.tickets i k e)
