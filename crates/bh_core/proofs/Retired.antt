-- A group is retired.
use Rattle.std.proofs.Common.{◌≡◌, ℕ, ◌+◌, List, [], ◌∷◌, set, Some, zero, suc, ◌∙◌, sym, ap, subst, arith}
use Rattle.std.proofs.lemmas.List.Sums.{sum_by-cons}
use Rattle.std.specs.Prelude.{◌≢◌, slice_get, sum_by}
use Rattle.bh_core.specs.declared.service.entry.Entry.{Entry}
use Rattle.bh_core.specs.declared.service.entry.Entry.TheVariants as entry
use Rattle.bh_core.specs.declared.service.entry.Registration.{Registration}
use Rattle.bh_core.specs.CoreView.{living, retired, slots_in, with_retired}
use Rattle.bh_core.specs.GroupView.{GroupView, view_in}
use Rattle.bh_core.specs.Stepping.{IsSteady}
use Rattle.bh_core.specs.Whole.{AreGroups, life_in, lives_in}
use Rattle.bh_core.proofs.AllGroups.{groups_in, life_at, life_same, map-set_alike, slots_set}
use Rattle.bh_core.proofs.OneOfMany.{slice_get-set_other, slice_get-set_same}
use Rattle.bh_core.proofs.Own.{group_read, tickets_there, view_same}
use Rattle.bh_core.proofs.Registered.{read_there}
use Rattle.bh_tickets.specs.TicketsView.{GroupTickets, TicketsView, no_tickets_in, slots_of}

-- the tickets of one group of many are others
rooms_set : (xs : List GroupTickets) (i : ℕ) (x y : GroupTickets) → slice_get xs i ≡ Some x → sum_by (λ (g : GroupTickets). g.room) (set xs i y) + x.room ≡ sum_by (λ (g : GroupTickets). g.room) xs + y.room
rooms_set [] i x y e = absurd cc
rooms_set (z ∷ zs) zero x y e =
    let here : z ≡ x = cc in
    omega (arith, ap (λ (g : GroupTickets). g.room) here, sum_by-cons (λ (g : GroupTickets). g.room) z zs, sum_by-cons (λ (g : GroupTickets). g.room) y zs)
rooms_set (z ∷ zs) (suc i) x y e =
    let rest = rooms_set zs i x y e in
    omega (arith, rest, sum_by-cons (λ (g : GroupTickets). g.room) z zs, sum_by-cons (λ (g : GroupTickets). g.room) z (set zs i y))

-- without the tickets of the group at the place
abbrev pub without_group : ℕ → TicketsView → TicketsView
without_group place ts = record ts { groups = set ts.groups place (no_tickets_in 0) }

-- with what the group was registered
abbrev pub registration : GroupView → Registration
registration g = record { props = g.props; limit = g.limit }

module _ (ts : TicketsView) (es : List Entry) (i : ℕ) (g : GroupView) (all : AreGroups ts es) (here : slice_get es i ≡ Some (entry.Live g)) where
  abbrev pub us : TicketsView
  us = without_group g.place ts

  abbrev pub ended : List Entry
  ended = set es i (entry.Retired (registration g))

  -- the tickets of the others are as they were
  apart : (j : ℕ) (k : GroupView) → j ≢ i → slice_get es j ≡ Some (entry.Live k) → slice_get us.groups k.place ≡ slice_get ts.groups k.place
  apart j k differ e = slice_get-set_other ts.groups g.place (no_tickets_in 0) k.place (all.apart j i k g e here differ)

  -- callers see one life changed
  lives_ended : lives_in us ended ≡ set (lives_in ts es) i (retired g.props g.limit)
  lives_ended = map-set_alike (life_in us) (life_in ts) es i (entry.Retired (registration g)) (λ j k differ e. life_same ts us k (λ l q. apart j l differ (e ∙ ap Some q)))

  pub groups_ended : groups_in us ended ≡ with_retired i (view_in ts g) (groups_in ts es)
  groups_ended = λ k. record { slot_limit = ts.limit; lives = lives_ended k }

  -- a group that is there still is another one
  another : (j : ℕ) (k : GroupView) → slice_get ended j ≡ Some (entry.Live k) → j ≢ i
  another j k e q =
      let both : Some (entry.Live k) ≡ Some (entry.Retired (registration g)) = sym e ∙ ap (slice_get ended) q ∙ slice_get-set_same es i (entry.Live g) (entry.Retired (registration g)) here in
      cc

  before : (j : ℕ) (k : GroupView) → slice_get ended j ≡ Some (entry.Live k) → slice_get es j ≡ Some (entry.Live k)
  before j k e = sym (slice_get-set_other es i (entry.Retired (registration g)) j (another j k e)) ∙ e

  slots_ended : slots_of us ≡ slots_in (lives_in us ended)
  slots_ended =
      let own = read_there ts g.place (all.tickets i g here).there in
      let room : own.0.room ≡ g.props.slots = sym (ap (λ (x : GroupTickets). x.room) (group_read ts g.place own.0 own.1)) ∙ (all.tickets i g here).room in
      let fewer = rooms_set ts.groups g.place own.0 (no_tickets_in 0) own.1 in
      let less = slots_set (lives_in ts es) i (living (view_in ts g)) (retired g.props g.limit) (life_at ts es i (entry.Live g) here) in
      let after : slots_in (lives_in us ended) ≡ slots_in (set (lives_in ts es) i (retired g.props g.limit)) = ap slots_in lives_ended in
      omega (arith, room, fewer, less, after, all.slots)

  -- each other group has tickets of its own still
  pub groups_left : AreGroups us ended
  groups_left = record {
    apart = λ j k a b e f differ. all.apart j k a b (before j a e) (before k b f) differ;
    tickets = λ j k e. tickets_there ts us k (apart j k (another j k e) (before j k e)) (all.tickets j k (before j k e));
    some = λ j k e. all.some j k (before j k e);
    steady = λ j k e. subst IsSteady (sym (view_same ts us k (apart j k (another j k e) (before j k e)))) (all.steady j k (before j k e));
    slots = slots_ended;
  }
