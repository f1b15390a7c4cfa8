-- All groups together with the tickets of them all.
use Rattle.std.proofs.Common.{◌≡◌, ℕ, ◌+◌, ◌<◌, ◌≤◌, List, [], ◌∷◌, length, map, get_or, set, Option, Some, None, inl, inr, zero, suc, refl, ◌∙◌, sym, ap, subst, arith}
use Rattle.std.specs.Option.{option_map}
use Rattle.std.specs.Prelude.{◌≢◌, is_some, slice_get, sum_by, IfSome, IsNone}
use Rattle.std.proofs.lemmas.Bool.{cases_eq}
use Rattle.std.proofs.lemmas.List.Sums.{sum_by-cons}
use Rattle.std.proofs.lemmas.Option.{slice_get-map, slice_get_past, slice_get_read}
use Rattle.bh_base.specs.declared.reply.Reply.{Reply}
use Rattle.bh_base.specs.declared.step.Step.{Step}
use Rattle.bh_base.specs.Props.{GroupProps}
use Rattle.bh_base.specs.Runs.{View}
use Rattle.bh_base.specs.Seen.{view_after, view_reply}
use Rattle.bh_core.specs.declared.service.entry.Entry.{Entry}
use Rattle.bh_core.specs.declared.service.entry.Entry.TheVariants as entry
use Rattle.bh_core.specs.declared.service.entry.Registration.{Registration}
use Rattle.bh_core.specs.GroupView.{GroupView, HasTickets, LeavesRoom, view_in}
use Rattle.bh_core.specs.CoreView.{CoreView, Life, living, shown_by, slots_in, slots_of_life}
use Rattle.bh_core.specs.Step.{IsStep}
use Rattle.bh_core.specs.Stepping.{IsSteady}
use Rattle.bh_core.specs.Whole.{AreGroups, life_in, lives_in}
use Rattle.bh_core.proofs.OneOfMany.{slice_get-set_other, slice_get-set_same}
use Rattle.bh_core.proofs.OneStep.{step_known}
use Rattle.bh_core.proofs.Own.{group_read, tickets_same, view_same}
use Rattle.bh_tickets.specs.TicketsView.{GroupTickets, TicketsView, group_at, slots_of}

-- what callers see of groups with tickets
abbrev pub groups_in : TicketsView → List Entry → CoreView
groups_in ts es = record { slot_limit = ts.limit; lives = lives_in ts es }

-- ---- what stands at a place

-- what the code reads at a place within the list stands there
pub entry_here : (es : List Entry) (i : ℕ) (e : Entry) → i < length es → e ≡ get_or es i e → slice_get es i ≡ Some e
entry_here es i e inside is = slice_get_read es (length es) i e refl inside is

-- what callers see of it
pub life_at : (ts : TicketsView) (es : List Entry) (i : ℕ) (e : Entry) → slice_get es i ≡ Some e → slice_get (lives_in ts es) i ≡ Some (life_in ts e)
life_at ts es i e is = slice_get-map (life_in ts) es i ∙ ap (option_map (life_in ts)) is

pub life_none : (ts : TicketsView) (es : List Entry) (i : ℕ) → slice_get es i ≡ None → slice_get (lives_in ts es) i ≡ None
life_none ts es i is = slice_get-map (life_in ts) es i ∙ ap (option_map (life_in ts)) is

-- what callers see of a group that is not retired is its view
pub shown_is : (ts : TicketsView) (es : List Entry) (i : ℕ) (g : GroupView) (v : View) → slice_get es i ≡ Some (entry.Live g) → shown_by (slice_get (lives_in ts es) i) ≡ Some v → v ≡ view_in ts g
shown_is ts es i g v here shown = (let both : Some v ≡ Some (view_in ts g) = sym shown ∙ ap shown_by (life_at ts es i (entry.Live g) here) in cc)

-- where there is a group that is not retired, callers see a view
pub shown_some : (ts : TicketsView) (es : List Entry) (i : ℕ) (g : GroupView) → slice_get es i ≡ Some (entry.Live g) → shown_by (slice_get (lives_in ts es) i) ≡ None → ⊥
shown_some ts es i g here none = (let both : None ≡ Some (view_in ts g) = sym none ∙ ap shown_by (life_at ts es i (entry.Live g) here) in cc)

-- where there is none, callers see no view
pub shown_none : (ts : TicketsView) (es : List Entry) (i : ℕ) → ((g : GroupView) → slice_get es i ≢ Some (entry.Live g)) → shown_by (slice_get (lives_in ts es) i) ≡ None
shown_none ts es i missing = at (slice_get es i) refl
  where
    at : (o : Option Entry) → slice_get es i ≡ o → shown_by (slice_get (lives_in ts es) i) ≡ None
    at None e = ap shown_by (life_none ts es i e)
    at (Some (entry.Live g)) e = absurd (missing g e)
    at (Some (entry.Retired r)) e = ap shown_by (life_at ts es i (entry.Retired r) e)

pub not_shown : (ts : TicketsView) (es : List Entry) (i : ℕ) (v : View) → ((g : GroupView) → slice_get es i ≢ Some (entry.Live g)) → shown_by (slice_get (lives_in ts es) i) ≡ Some v → ⊥
not_shown ts es i v missing shown = (let both : None ≡ Some v = sym (shown_none ts es i missing) ∙ shown in cc)

-- ---- sums of slots

-- the tickets of as many groups, each with as much room
sums_same : (xs ys : List GroupTickets) → length xs ≡ length ys → ((i : ℕ) (x y : GroupTickets) → slice_get xs i ≡ Some x → slice_get ys i ≡ Some y → y.room ≡ x.room) → sum_by (λ (g : GroupTickets). g.room) ys ≡ sum_by (λ (g : GroupTickets). g.room) xs
sums_same [] [] same rooms = refl
sums_same [] (y ∷ ys) same rooms = absurd (omega (arith, same))
sums_same (x ∷ xs) [] same rooms = absurd (omega (arith, same))
sums_same (x ∷ xs) (y ∷ ys) same rooms =
    let first = rooms zero x y refl refl in
    let rest = sums_same xs ys (omega (arith, same)) (λ i a b e f. rooms (suc i) a b e f) in
    omega (arith, first, rest, sum_by-cons (λ (g : GroupTickets). g.room) x xs, sum_by-cons (λ (g : GroupTickets). g.room) y ys)

-- a change of one group's tickets leaves the slots
slots_left : (ts us : TicketsView) (g h : GroupView) → LeavesRoom ts g us h → slots_of us ≡ slots_of ts
slots_left ts us g h left = sums_same ts.groups us.groups (sym left.count) (λ i x y e f. elim (cases_eq i g.place) [
  | inl q ↦ sym (ap (λ (z : GroupTickets). z.room) (group_read us i y f)) ∙ ap (λ n. (group_at us n).room) q ∙ left.room ∙ ap (λ n. (group_at ts n).room) (sym q) ∙ ap (λ (z : GroupTickets). z.room) (group_read ts i x e)
  | inr differ ↦ (let both : Some y ≡ Some x = sym f ∙ left.others i differ ∙ e in ap (λ (z : GroupTickets). z.room) (one_of y x both))
])
  where
    one_of : (y x : GroupTickets) → Some y ≡ Some x → y ≡ x
    one_of y x both = cc

-- one life of many is another
pub slots_set : (ls : List Life) (i : ℕ) (l k : Life) → slice_get ls i ≡ Some l → slots_in (set ls i k) + slots_of_life l ≡ slots_in ls + slots_of_life k
slots_set [] i l k e = absurd cc
slots_set (x ∷ xs) zero l k e =
    let here : x ≡ l = cc in
    omega (arith, ap slots_of_life here, sum_by-cons slots_of_life x xs, sum_by-cons slots_of_life k xs)
slots_set (x ∷ xs) (suc i) l k e =
    let rest = slots_set xs i l k e in
    omega (arith, rest, sum_by-cons slots_of_life x xs, sum_by-cons slots_of_life x (set xs i k))

-- ---- one group of many was changed together with its tickets

-- two functions that agree on each entry of a list map it alike
pub map_alike : (f h : Entry → Life) (es : List Entry) → ((j : ℕ) (k : Entry) → slice_get es j ≡ Some k → f k ≡ h k) → map f es ≡ map h es
map_alike f h [] same = refl
map_alike f h (k ∷ ks) same =
    let rest = map_alike f h ks (λ j l e. same (suc j) l e) in
    λ i. same zero k refl i ∷ rest i

pub map-set_alike : (f h : Entry → Life) (es : List Entry) (i : ℕ) (e : Entry) → ((j : ℕ) (k : Entry) → j ≢ i → slice_get es j ≡ Some k → f k ≡ h k) → map f (set es i e) ≡ set (map h es) i (f e)
map-set_alike f h [] i e same = refl
map-set_alike f h (k ∷ ks) zero e same = ap (λ ls. f e ∷ ls) (map_alike f h ks (λ j l q. same (suc j) l (λ z. absurd (omega (arith, z))) q))
map-set_alike f h (k ∷ ks) (suc i) e same =
    let rest = map-set_alike f h ks i e (λ j l differ q. same (suc j) l (λ z. differ (omega (arith, z))) q) in
    let first = same zero k (λ z. absurd (omega (arith, z))) refl in
    λ i. first i ∷ rest i

-- an entry looks as it did, where it is retired or the tickets of its group are as they were
pub life_same : (ts us : TicketsView) (e : Entry) → ((g : GroupView) → e ≡ entry.Live g → slice_get us.groups g.place ≡ slice_get ts.groups g.place) → life_in us e ≡ life_in ts e
life_same ts us (entry.Live g) same = ap living (view_same ts us g (same g refl))
life_same ts us (entry.Retired r) same = refl

module _ (ts us : TicketsView) (es : List Entry) (i : ℕ) (g h : GroupView) (all : AreGroups ts es) (here : slice_get es i ≡ Some (entry.Live g)) (left : LeavesRoom ts g us h) where
  -- the tickets of the others are as they were
  apart : (j : ℕ) (k : GroupView) → j ≢ i → slice_get es j ≡ Some (entry.Live k) → slice_get us.groups k.place ≡ slice_get ts.groups k.place
  apart j k differ e = left.others k.place (λ q. all.apart j i k g e here differ q)

  -- callers see one life changed
  lives_after : lives_in us (set es i (entry.Live h)) ≡ set (lives_in ts es) i (living (view_in us h))
  lives_after = map-set_alike (life_in us) (life_in ts) es i (entry.Live h) (λ j k differ e. life_same ts us k (λ l q. apart j l differ (e ∙ ap Some q)))

  groups_after : groups_in us (set es i (entry.Live h)) ≡ record { slot_limit = ts.limit; lives = set (lives_in ts es) i (living (view_in us h)) }
  groups_after = λ k. record { slot_limit = left.limit k; lives = lives_after k }

  slots_after : slots_of us ≡ slots_in (lives_in us (set es i (entry.Live h)))
  slots_after =
      let sum = slots_set (lives_in ts es) i (living (view_in ts g)) (living (view_in us h)) (life_at ts es i (entry.Live g) here) in
      let same : h.props.slots ≡ g.props.slots = left.slots in
      let after : slots_in (lives_in us (set es i (entry.Live h))) ≡ slots_in (set (lives_in ts es) i (living (view_in us h))) = ap slots_in lives_after in
      omega (arith, sum, same, after, slots_left ts us g h left, all.slots)

  changed : (j : ℕ) (k : GroupView) → j ≡ i → slice_get (set es i (entry.Live h)) j ≡ Some (entry.Live k) → k ≡ h
  changed j k q e =
      let both : Some (entry.Live k) ≡ Some (entry.Live h) = sym e ∙ ap (slice_get (set es i (entry.Live h))) q ∙ slice_get-set_same es i (entry.Live g) (entry.Live h) here in
      cc

  other : (j : ℕ) (k : GroupView) → j ≢ i → slice_get (set es i (entry.Live h)) j ≡ Some (entry.Live k) → slice_get es j ≡ Some (entry.Live k)
  other j k differ e = sym (slice_get-set_other es i (entry.Live h) j differ) ∙ e

  -- a number of the group changed is that of the group before
  number_of : (j : ℕ) (k : GroupView) → j ≡ i → slice_get (set es i (entry.Live h)) j ≡ Some (entry.Live k) → k.place ≡ g.place
  number_of j k q e = ap (λ (x : GroupView). x.place) (changed j k q e) ∙ left.place

  -- each group has tickets of its own still, where the changed one has them and is steady
  pub groups_kept : HasTickets us h → IsSteady (view_in us h) → AreGroups us (set es i (entry.Live h))
  groups_kept has steady = record {
    apart = λ j k a b e f differ. elim (cases_eq j i) [
      | inl q ↦ elim (cases_eq k i) [
        | inl r ↦ absurd (differ (q ∙ sym r))
        | inr s ↦ (λ z. all.apart k i b g (other k b s f) here s (sym z ∙ number_of j a q e))
      ]
      | inr p ↦ elim (cases_eq k i) [
        | inl r ↦ (λ z. all.apart j i a g (other j a p e) here p (z ∙ number_of k b r f))
        | inr s ↦ all.apart j k a b (other j a p e) (other k b s f) differ
      ]
    ];
    tickets = λ j k e. elim (cases_eq j i) [
      | inl q ↦ subst (HasTickets us) (sym (changed j k q e)) has
      | inr differ ↦ tickets_same ts us k (omega (arith, left.count)) (apart j k differ (other j k differ e)) (all.tickets j k (other j k differ e))
    ];
    some = λ j k e. elim (cases_eq j i) [
      | inl q ↦ omega (arith, ap (λ (x : GroupView). x.props.slots) (changed j k q e), left.slots, all.some i g here)
      | inr differ ↦ all.some j k (other j k differ e)
    ];
    steady = λ j k e. elim (cases_eq j i) [
      | inl q ↦ subst (λ (x : GroupView). IsSteady (view_in us x)) (sym (changed j k q e)) steady
      | inr differ ↦ subst IsSteady (sym (view_same ts us k (apart j k differ (other j k differ e)))) (all.steady j k (other j k differ e))
    ];
    slots = slots_after;
  }

-- a step of its group is a step of all
pub groups_step : (ts us : TicketsView) (es : List Entry) (g h : GroupView) (x : Step) (r : Reply) → AreGroups ts es → slice_get es x.group.0 ≡ Some (entry.Live g) → LeavesRoom ts g us h
    → r ≡ view_reply (view_in ts g) x.op x.now → view_in us h ≡ view_after (view_in ts g) x.op x.now → IsStep (groups_in ts es) x r (groups_in us (set es x.group.0 (entry.Live h)))
groups_step ts us es g h x r all here left said did =
    subst (IsStep (groups_in ts es) x r) (sym (groups_after ts us es x.group.0 g h all here left))
    (step_known ts.limit (lives_in ts es) (view_in ts g) (view_in us h) x r (life_at ts es x.group.0 (entry.Live g) here) (all.steady x.group.0 g here) said did)

-- an entry that is put where it stands changes nothing
pub set_here : (es : List Entry) (i : ℕ) (e : Entry) → slice_get es i ≡ Some e → set es i e ≡ es
set_here [] i e is = refl
set_here (x ∷ xs) zero e is = (let here : x ≡ e = cc in ap (λ k. k ∷ xs) (sym here))
set_here (x ∷ xs) (suc i) e is = ap (λ ks. x ∷ ks) (set_here xs i e is)

-- no step of a retired group changes anything
pub no_live : (es : List Entry) (i : ℕ) (r : Registration) → slice_get es i ≡ Some (entry.Retired r) → (g : GroupView) → slice_get es i ≢ Some (entry.Live g)
no_live es i r is g e = (let both : Some (entry.Retired r) ≡ Some (entry.Live g) = sym is ∙ e in cc)

pub no_entry : (es : List Entry) (i : ℕ) → length es ≤ i → (g : GroupView) → slice_get es i ≢ Some (entry.Live g)
no_entry es i past g e = (let none : slice_get es i ≡ None = slice_get_past es i past in cc)

-- whether the code finds a group tells whether callers see one
pub told_some : {X : Type 0} (now : X → GroupView) (ts : TicketsView) (es : List Entry) (i : ℕ) (o : Option X) → IfSome o (λ x. slice_get es i ≡ Some (entry.Live (now x))) → (IsNone o → (g : GroupView) → slice_get es i ≢ Some (entry.Live g)) → is_some o ≡ is_some (shown_by (slice_get (lives_in ts es) i))
told_some now ts es i None found missing = ap is_some (sym (shown_none ts es i (missing refl)))
told_some now ts es i (Some x) found missing = ap (λ l. is_some (shown_by l)) (sym (life_at ts es i (entry.Live (now x)) found))
