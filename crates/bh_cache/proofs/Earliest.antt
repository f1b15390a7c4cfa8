-- The slot of the least serial among those whose tickets pass.
use Rattle.std.proofs.Common.{◌≡◌, ℕ, suc, ◌+◌, ◌<◌, ◌≤◌, ◌⊎◌, inl, inr, Bool, true, false, List, [], ◌∷◌, length, drop, Option, Some, None, refl, ◌∙◌, sym, ap, subst, arith, add-one}
use Rattle.std.specs.Prelude.{◌||◌, eqb, find, nat_lt, slice_get, IfSome, if◌then◌else◌}
use Rattle.std.proofs.lemmas.Bool.{cases_eq, eq-eqb, ne_eqb}
use Rattle.std.proofs.lemmas.Bool.Decides.{nat_tests}
use Rattle.bh_base.specs.declared.ticket.Ticket.{Ticket}
use Rattle.bh_cache.specs.declared.lists.GroupLists.{GroupLists}
use Rattle.bh_cache.specs.Cache.{IsEarliest, earlier, earliest}
use Rattle.bh_cache.specs.Slots.{Slots, has, has_one, is_live, serial_in, ticket_at, tickets_of}
use Rattle.bh_cache.proofs.Listed.{Distinct, find_least, find_none, from_listed, in_listed, rising}
use Rattle.bh_cache.proofs.Members.{drop_at, get_within}

or_left : (b c : Bool) → b ≡ true → (b || c) ≡ true
or_left b c e = ap (λ d. d || c) e

or_right : (b c : Bool) → c ≡ true → (b || c) ≡ true
or_right true c e = refl
or_right false c e = e

regroup : (a b c : Bool) → ((a || b) || c) ≡ (a || (b || c))
regroup true b c = refl
regroup false b c = refl

-- the best of the slots that were seen
pub record IsBestAt (p : Ticket → Bool) (ps : List Ticket) (seen : ℕ → Bool) (x : ℕ) : Type 0 where
  pub seen_it : seen x ≡ true
  pub passes : has_one p (slice_get ps x) ≡ true
  pub least : (y : ℕ) → seen y ≡ true → has_one p (slice_get ps y) ≡ true → serial_in (slice_get ps x) ≤ serial_in (slice_get ps y)

abbrev pub IsBest : (Ticket → Bool) → List Ticket → (ℕ → Bool) → Option ℕ → Type 0
IsBest p ps seen None = (x : ℕ) → seen x ≡ true → has_one p (slice_get ps x) ≡ false
IsBest p ps seen (Some x) = IsBestAt p ps seen x

module _ (p : Ticket → Bool) (ps : List Ticket) where
  module _ (seen : ℕ → Bool) (x : ℕ) where
    -- a slot more is seen
    abbrev more : ℕ → Bool
    more y = seen y || eqb x y

    more_cases : (y : ℕ) → more y ≡ true → (seen y ≡ true) ⊎ (x ≡ y)
    more_cases y e = elim (cases_eq x y) [
      | inl q ↦ inr q
      | inr ne ↦ inl (sym (or_false (seen y) (eqb x y) (ne_eqb x y ne)) ∙ e)
    ]
      where
        or_false : (b c : Bool) → c ≡ false → (b || c) ≡ b
        or_false true c e = refl
        or_false false c e = e

    more_it : more x ≡ true
    more_it = or_right (seen x) (eqb x x) (eq-eqb x x refl)

    same_serial : (y : ℕ) → x ≡ y → serial_in (slice_get ps x) ≤ serial_in (slice_get ps y)
    same_serial y e = let k : serial_in (slice_get ps x) ≡ serial_in (slice_get ps y) = ap (λ z. serial_in (slice_get ps z)) e in omega (arith, k)

    better : (found : Option ℕ) → has_one p (slice_get ps x) ≡ true → IsBest p ps seen found → IsBest p ps more (Some (earlier ps found x))
    better None is best = record {
      seen_it = more_it;
      passes = is;
      least = λ y s q. elim (more_cases y s) [
        | inl e ↦ let z : true ≡ false = sym q ∙ best y e in absurd cc
        | inr e ↦ same_serial y e
      ];
    }
    better (Some w) is best = by (nat_lt (serial_in (slice_get ps x)) (serial_in (slice_get ps w))) refl
      where
        by : (b : Bool) → nat_lt (serial_in (slice_get ps x)) (serial_in (slice_get ps w)) ≡ b → IsBestAt p ps more (if b then x else w)
        by true lt = record {
          seen_it = more_it;
          passes = is;
          least = λ y s q. elim (more_cases y s) [
            | inl e ↦
                let k : serial_in (slice_get ps x) < serial_in (slice_get ps w) = grind (arith, nat_tests) in
                let l = best.least y e q in omega (arith, k, l)
            | inr e ↦ same_serial y e
          ];
        }
        by false ge = record {
          seen_it = or_left (seen w) (eqb x w) best.seen_it;
          passes = best.passes;
          least = λ y s q. elim (more_cases y s) [
            | inl e ↦ best.least y e q
            | inr e ↦
                let k : serial_in (slice_get ps w) ≤ serial_in (slice_get ps x) = grind (arith, nat_tests) in
                let l = same_serial y e in omega (arith, k, l)
          ];
        }

    no_better : (found : Option ℕ) → has_one p (slice_get ps x) ≡ false → IsBest p ps seen found → IsBest p ps more found
    no_better None fails best = λ y s. elim (more_cases y s) [ inl e ↦ best y e | inr e ↦ ap (λ z. has_one p (slice_get ps z)) (sym e) ∙ fails ]
    no_better (Some w) fails best = record {
      seen_it = or_left (seen w) (eqb x w) best.seen_it;
      passes = best.passes;
      least = λ y s q. elim (more_cases y s) [
        | inl e ↦ best.least y e q
        | inr e ↦ let z : true ≡ false = sym q ∙ ap (λ z. has_one p (slice_get ps z)) (sym e) ∙ fails in absurd cc
      ];
    }

    next_best : (found : Option ℕ) → IsBest p ps seen found → IsBest p ps more (if has_one p (slice_get ps x) then Some (earlier ps found x) else found)
    next_best found best = by (has_one p (slice_get ps x)) refl
      where
        by : (b : Bool) → has_one p (slice_get ps x) ≡ b → IsBest p ps more (if b then Some (earlier ps found x) else found)
        by true e = better found e best
        by false e = no_better found e best

  -- along a list, what a walk finds is the best of what was seen before and of the list
  pub earliest_best : (xs : List ℕ) (seen : ℕ → Bool) (found : Option ℕ) → IsBest p ps seen found → IsBest p ps (λ y. seen y || has y xs) (earliest p ps found xs)
  earliest_best [] seen found best =
      let e : seen ≡ (λ y. seen y || false) = λ i y. same (seen y) i in
      subst (λ (s : ℕ → Bool). IsBest p ps s found) e best
    where
      same : (b : Bool) → b ≡ (b || false)
      same true = refl
      same false = refl
  earliest_best (x ∷ xs) seen found best =
      let after : Option ℕ = if has_one p (slice_get ps x) then Some (earlier ps found x) else found in
      let e : (λ y. (seen y || eqb x y) || has y xs) ≡ (λ y. seen y || (eqb x y || has y xs)) = λ i y. regroup (seen y) (eqb x y) (has y xs) i in
      subst (λ (s : ℕ → Bool). IsBest p ps s (earliest p ps after xs)) e (earliest_best xs (λ y. seen y || eqb x y) after (next_best seen x found best))

-- the best of some slots is the best of more, where none of the others passes
pub best_among : (p : Ticket → Bool) (ps : List Ticket) (seen live : ℕ → Bool) → ((x : ℕ) → seen x ≡ true → live x ≡ true) → ((x : ℕ) → live x ≡ true → has_one p (slice_get ps x) ≡ true → seen x ≡ true)
    → (r : Option ℕ) → IsBest p ps seen r → IsBest p ps live r
best_among p ps seen live into back None best = λ x l. by x l (has_one p (slice_get ps x)) refl
  where
    by : (x : ℕ) → live x ≡ true → (b : Bool) → has_one p (slice_get ps x) ≡ b → b ≡ false
    by x l false e = refl
    by x l true e = sym e ∙ best x (back x l e)
best_among p ps seen live into back (Some w) best = record {
  seen_it = into w best.seen_it;
  passes = best.passes;
  least = λ y l q. best.least y (back y l q) q;
}

-- ---- what that says of the group's tickets

-- the ticket of a slot of the group
pub live_ticket : (a : Slots) (g : GroupLists) (x : ℕ) (t : Ticket) → ticket_at a g x ≡ Some t → (is_live a g x ≡ true) × (slice_get a.payloads x ≡ Some t)
live_ticket a g x t e = by (is_live a g x) e
  where
    by : (b : Bool) → (if b then slice_get a.payloads x else None) ≡ Some t → (b ≡ true) × (slice_get a.payloads x ≡ Some t)
    by true e = (refl, e)
    by false e = absurd cc

module _ (p : Ticket → Bool) (a : Slots) (g : GroupLists) where
  best_found : (x : ℕ) → IsBestAt p a.payloads (is_live a g) x → IsEarliest p a g x
  best_found x best = by (slice_get a.payloads x) refl
    where
      by : (o : Option Ticket) → slice_get a.payloads x ≡ o → IsEarliest p a g x
      by None e = let z : false ≡ true = sym (ap (has_one p) e) ∙ best.passes in absurd cc
      by (Some t) e = record {
        ticket = t;
        here = ap (λ b. if b then slice_get a.payloads x else None) best.seen_it ∙ e;
        passes = sym (ap (has_one p) e) ∙ best.passes;
        least = λ y u at q.
            let r = live_ticket a g y u at in
            let le = best.least y r.0 (ap (has_one p) r.1 ∙ q) in
            let k : serial_in (slice_get a.payloads x) ≡ t.serial = ap serial_in e in
            let l : serial_in (slice_get a.payloads y) ≡ u.serial = ap serial_in r.1 in
            omega (arith, le, k, l);
      }

  -- the best of the slots with tickets, where there is one, has the earliest ticket that passes
  pub if_found : (r : Option ℕ) → IsBest p a.payloads (is_live a g) r → IfSome r (λ x. IsEarliest p a g x)
  if_found None best = tt
  if_found (Some x) best = best_found x best

  -- where there is no best one, no ticket of the group passes
  pub if_none : (r : Option ℕ) → IsBest p a.payloads (is_live a g) r → r ≡ None → (x : ℕ) → has_one p (ticket_at a g x) ≡ false
  if_none None best e x = by (is_live a g x) refl
    where
      by : (b : Bool) → is_live a g x ≡ b → has_one p (if b then slice_get a.payloads x else None) ≡ false
      by true live = best x live
      by false live = refl
  if_none (Some w) best e x = absurd cc

-- where the serials differ, the one of least serial is the first of the group's tickets
module _ (p : Ticket → Bool) (a : Slots) (g : GroupLists) (distinct : Distinct (ticket_at a g)) where
  -- the earliest ticket that passes is what a search of the group's tickets finds
  pub earliest_first : (x : ℕ) (found : IsEarliest p a g x) → find p (tickets_of a g) ≡ Some found.ticket
  earliest_first x found =
      find_least p (tickets_of a g) found.ticket (rising (ticket_at a g) (length a.payloads) distinct)
      (in_listed (ticket_at a g) (length a.payloads) x found.ticket (get_within a.payloads x found.ticket (live_ticket a g x found.ticket found.here).1) found.here)
      found.passes
      (λ u i q. let r = from_listed (ticket_at a g) (length a.payloads) u i in found.least r.0 u r.2 q)

-- where no slot has a ticket that passes, a search of the group's tickets finds none
pub none_first : (p : Ticket → Bool) (a : Slots) (g : GroupLists) → ((x : ℕ) → has_one p (ticket_at a g x) ≡ false) → find p (tickets_of a g) ≡ None
none_first p a g none = find_none p (tickets_of a g) (λ u i. let r = from_listed (ticket_at a g) (length a.payloads) u i in sym (ap (has_one p) r.2) ∙ none r.0)

-- ---- a step of the walk

module _ (p : Ticket → Bool) (ps : List Ticket) (found : Option ℕ) (xs : List ℕ) (i x : ℕ) (t : Ticket) (at : slice_get xs i ≡ Some x) (is : slice_get ps x ≡ Some t) where
  step : earliest p ps found (drop i xs) ≡ earliest p ps (if p t then Some (earlier ps found x) else found) (drop (i + 1) xs)
  step =
      ap (earliest p ps found) (drop_at xs i x at)
      ∙ ap (λ o. earliest p ps (if has_one p o then Some (earlier ps found x) else found) (drop (suc i) xs)) is
      ∙ ap (λ n. earliest p ps (if p t then Some (earlier ps found x) else found) (drop n xs)) (sym (add-one i))

  -- a slot whose ticket passes is compared with what was found, and the walk goes on from the next
  pub step_found : p t ≡ true → earliest p ps found (drop i xs) ≡ earliest p ps (Some (earlier ps found x)) (drop (i + 1) xs)
  step_found e = step ∙ ap (λ b. earliest p ps (if b then Some (earlier ps found x) else found) (drop (i + 1) xs)) e

  -- a slot whose ticket does not pass is left out
  pub step_passed : p t ≡ false → earliest p ps found (drop i xs) ≡ earliest p ps found (drop (i + 1) xs)
  step_passed e = step ∙ ap (λ b. earliest p ps (if b then Some (earlier ps found x) else found) (drop (i + 1) xs)) e
