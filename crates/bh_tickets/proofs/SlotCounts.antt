-- How many slots all groups have, as contracts see them.
use Rattle.std.proofs.Common.{◌≡◌, ℕ, zero, suc, ◌+◌, ◌-◌, ◌<◌, ◌≤◌, List, [], ◌∷◌, length, set, get_or, Some, refl, ◌∙◌, ap, arith}
use Rattle.std.specs.Prelude.{◌≢◌, nat_le, sum_by, slice_get}
use Rattle.std.proofs.lemmas.Bool.Decides.{nat_tests}
use Rattle.std.proofs.lemmas.List.Sums.{sum_by-cons}
use Rattle.bh_cache.specs.Slots.{Slots}
use Rattle.bh_tickets.specs.declared.group_slots.GroupSlots.{GroupSlots}
use Rattle.bh_tickets.specs.TicketsView.{GroupTickets, TicketsView, group_at, no_tickets_in, slots_of}
use Rattle.bh_tickets.specs.Whole.{group_of, groups_of, rooms, view_of}

abbrev all_rooms : List GroupTickets → ℕ
all_rooms gs = sum_by (λ (g : GroupTickets). g.room) gs

rooms_cons : (g : GroupTickets) (gs : List GroupTickets) → all_rooms (g ∷ gs) ≡ g.room + all_rooms gs
rooms_cons g gs = sum_by-cons (λ (z : GroupTickets). z.room) g gs

-- contracts see as many slots as the groups have
pub shown_rooms : (a : Slots) (ss : List GroupSlots) → slots_of (view_of a ss) ≡ rooms ss
shown_rooms a ss = by ss
  where
    by : (rs : List GroupSlots) → all_rooms (groups_of a rs) ≡ rooms rs
    by [] = refl
    by (y ∷ ys) = omega (arith, by ys, rooms_cons (group_of a y) (groups_of a ys), sum_by-cons (λ (s : GroupSlots). s.slots.max) y ys)

-- ---- for callers

same_at : (g h : GroupTickets) → Some g ≡ Some h → g ≡ h
same_at g h e = cc

alike : (xs ys : List GroupTickets) → length xs ≡ length ys → ((j : ℕ) → slice_get xs j ≡ slice_get ys j) → xs ≡ ys
alike [] [] size same = refl
alike [] (y ∷ ys) size same = absurd (omega (arith, size))
alike (x ∷ xs) [] size same = absurd (omega (arith, size))
alike (x ∷ xs) (y ∷ ys) size same = λ i. same_at x y (same 0) i ∷ alike xs ys (omega (arith, size)) (λ j. same (suc j)) i

rooms_kept : (xs ys : List GroupTickets) (i : ℕ) → length xs ≡ length ys → ((j : ℕ) → j ≢ i → slice_get xs j ≡ slice_get ys j) → (get_or xs i (no_tickets_in 0)).room ≡ (get_or ys i (no_tickets_in 0)).room → all_rooms xs ≡ all_rooms ys
rooms_kept [] [] i size same room = refl
rooms_kept [] (y ∷ ys) i size same room = absurd (omega (arith, size))
rooms_kept (x ∷ xs) [] i size same room = absurd (omega (arith, size))
rooms_kept (x ∷ xs) (y ∷ ys) zero size same room =
    let rest : xs ≡ ys = alike xs ys (omega (arith, size)) (λ j. same (suc j) (λ e. absurd (omega (arith, e)))) in
    omega (arith, rooms_cons x xs, rooms_cons y ys, room, ap all_rooms rest)
rooms_kept (x ∷ xs) (y ∷ ys) (suc i) size same room =
    let here : x.room ≡ y.room = ap (λ (g : GroupTickets). g.room) (same_at x y (same 0 (λ e. absurd (omega (arith, e))))) in
    omega (arith, rooms_cons x xs, rooms_cons y ys, here, rooms_kept xs ys i (omega (arith, size)) (λ j ne. same (suc j) (λ e. ne (omega (arith, e)))) room)

-- where all other groups are as they were, and the group has as much room, there are as many slots as before
pub slots_kept : (old new : TicketsView) (group : ℕ) → length new.groups ≡ length old.groups → ((g : ℕ) → g ≢ group → slice_get new.groups g ≡ slice_get old.groups g) → (group_at new group).room ≡ (group_at old group).room → slots_of new ≡ slots_of old
slots_kept old new group size others room = rooms_kept new.groups old.groups group size others room

rooms_left : (xs : List GroupTickets) (i : ℕ) → i < length xs → all_rooms (set xs i (no_tickets_in 0)) + (get_or xs i (no_tickets_in 0)).room ≡ all_rooms xs
rooms_left [] i lt = absurd (omega (arith, lt))
rooms_left (x ∷ xs) zero lt = omega (arith, rooms_cons x xs, rooms_cons (no_tickets_in 0) xs)
rooms_left (x ∷ xs) (suc i) lt = omega (arith, rooms_cons x xs, rooms_cons x (set xs i (no_tickets_in 0)), rooms_left xs i (omega (arith, lt)))

-- where a group is retired, there are so many slots fewer
pub slots_left : (old new : TicketsView) (place : ℕ) → place < length old.groups → new ≡ record old { groups = set old.groups place (no_tickets_in 0) } → slots_of new + (group_at old place).room ≡ slots_of old
slots_left old new place lt is = ap (λ (v : TicketsView). slots_of v + (group_at old place).room) is ∙ rooms_left old.groups place lt

-- ---- what is within the limit

pub fits_spare : (slots spare used limit : ℕ) → slots ≤ spare → used + spare ≤ limit → nat_le slots spare ≡ nat_le (used + slots) limit
fits_spare slots spare used limit few within = grind (arith, nat_tests)

pub fits_new : (slots spare used limit all : ℕ) → spare ≤ slots → all ≡ used + spare → nat_le (all + (slots - spare)) limit ≡ nat_le (used + slots) limit
fits_new slots spare used limit all more is = let e : all + (slots - spare) ≡ used + slots = omega (arith, is, more) in ap (λ n. nat_le n limit) e
