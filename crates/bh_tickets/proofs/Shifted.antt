-- Slots come to a group without tickets, or go from it.
use Rattle.std.proofs.Common.{◌≡◌, ℕ, ◌<◌, ◌≤◌, Bool, true, false, List, [], length, get_or, refl, ◌∙◌, sym, ap, subst, arith}
use Rattle.std.specs.Prelude.{◌||◌, ◌≢◌, eqb, if◌then◌else◌}
use Rattle.std.proofs.lemmas.Bool.{ne_eqb}
use Rattle.bh_slot_arena.specs.Slots.{lists_in}
use Rattle.bh_cache.specs.declared.lists.GroupLists.{GroupLists}
use Rattle.bh_cache.specs.Chains.{unchained}
use Rattle.bh_cache.specs.Slots.{Slots, has, is_live, is_on, IsArena, IsOwn}
use Rattle.bh_tickets.specs.GroupSlots.{IsNumbered}
use Rattle.bh_tickets.specs.Spare.{AreFreeOn, IsVacant}
use Rattle.bh_tickets.proofs.Chained.{chains_there}
use Rattle.bh_tickets.proofs.Vacant.{not_true, or_true}

-- the lists of each family are there still
pub record HasLists (a b : Slots) : Type 0 where
  pub first : length (lists_in a 0) ≤ length (lists_in b 0)
  pub second : length (lists_in a 1) ≤ length (lists_in b 1)
  pub third : length (lists_in a 2) ≤ length (lists_in b 2)

pub own_queued : (g : GroupLists) → IsNumbered g → IsOwn g g.queued
own_queued g n = record { from = omega (arith, n.queued); to = omega (arith, n.queued, n.settled) }

pub own_running : (g : GroupLists) → IsNumbered g → IsOwn g g.running
own_running g n = record { from = omega (arith, n.running); to = omega (arith, n.running, n.settled) }

pub own_settled : (g : GroupLists) → IsNumbered g → IsOwn g g.settled
own_settled g n = record { from = omega (arith, n.settled); to = omega arith }

pub own_free : (g : GroupLists) → IsNumbered g → IsOwn g g.free
own_free g n = record { from = omega arith; to = omega (arith, n.settled) }

-- what lies on no list with tickets has none
pub live_none : (a : Slots) (g : GroupLists) (x : ℕ) → (is_on a 0 g.queued x ≡ true → ⊥) → (is_on a 0 g.running x ≡ true → ⊥) → (is_on a 0 g.settled x ≡ true → ⊥) → is_live a g x ≡ false
live_none a g x p q r = by (is_on a 0 g.queued x) (is_on a 0 g.running x) (is_on a 0 g.settled x) refl refl refl
  where
    by : (d e f : Bool) → is_on a 0 g.queued x ≡ d → is_on a 0 g.running x ≡ e → is_on a 0 g.settled x ≡ f → (d || (e || f)) ≡ false
    by true e f i j k = absurd (p i)
    by false true f i j k = absurd (q j)
    by false false true i j k = absurd (r k)
    by false false false i j k = refl

live_parts : (p q r : Bool) → (p || (q || r)) ≡ false → (p ≡ false) × (q ≡ false) × (r ≡ false)
live_parts true q r e = absurd cc
live_parts false true r e = absurd cc
live_parts false false true e = absurd cc
live_parts false false false e = (refl, refl, refl)

-- on none of its lists with tickets a group without tickets has a slot
pub off_live : (a : Slots) (g : GroupLists) (x : ℕ) → is_live a g x ≡ false → (is_on a 0 g.queued x ≡ false) × (is_on a 0 g.running x ≡ false) × (is_on a 0 g.settled x ≡ false)
off_live a g x e = live_parts (is_on a 0 g.queued x) (is_on a 0 g.running x) (is_on a 0 g.settled x) e

-- ---- slots come

-- the slots that pass lie on the family's list for slots without a cached ticket, as do those that did, and no slot has come
-- to the chains
pub record IsGained (family first end : ℕ) (come : ℕ → Bool) (a b : Slots) : Type 0 where
  pub on : (x : ℕ) → (is_on a family unchained x || come x) ≡ true → is_on b family unchained x ≡ true
  pub kept : (l x : ℕ) → first ≤ l → l < end → is_on b family l x ≡ true → is_on a family l x ≡ true

-- the slots that pass have come to the list of free ones, and no slot to those with tickets
pub record IsGainedFree (come : ℕ → Bool) (g : GroupLists) (a b : Slots) : Type 0 where
  pub on : (x : ℕ) → is_on b 0 g.free x ≡ (is_on a 0 g.free x || come x)
  pub kept : (l x : ℕ) → IsOwn g l → l ≢ g.free → is_on b 0 l x ≡ true → is_on a 0 l x ≡ true

either_true : (b c d : Bool) → (b ≡ true → d ≡ true) → (b || c) ≡ true → (d || c) ≡ true
either_true true c d f e = ap (λ z. z || c) (f refl)
either_true false true d f e = or_true d
either_true false false d f e = absurd cc

left_true : (b c : Bool) → b ≡ true → (b || c) ≡ true
left_true b c e = ap (λ z. z || c) e

free_gained : (f first end : ℕ) (come : ℕ → Bool) (a b : Slots) (g : GroupLists) → AreFreeOn f first end a g → IsGainedFree come g a b → IsGained f first end come a b → AreFreeOn f first end b g
free_gained f first end come a b g are free gained = record {
  placed = λ x on. gained.on x (either_true (is_on a 0 g.free x) (come x) (is_on a f unchained x) (are.placed x) (sym (free.on x) ∙ on));
  owned = λ l x from til on. free.on x ∙ left_true (is_on a 0 g.free x) (come x) (are.owned l x from til (gained.kept l x from til on));
}

-- a group without tickets is one still
pub vacant_gained : (come : ℕ → Bool) (a b : Slots) (g : GroupLists) → IsVacant a g → HasLists a b → IsGainedFree come g a b → IsGained 1 g.names g.names_end come a b → IsGained 2 g.contexts g.contexts_end come a b → IsVacant b g
vacant_gained come a b g vacant there free names contexts = record {
  numbered = vacant.numbered;
  there = omega (arith, vacant.there, there.first);
  chains = chains_there a b g there.second there.third vacant.chains;
  live = λ x. live_none b g x
      (λ on. not_true (off_live a g x (vacant.live x)).0 (free.kept g.queued x (own_queued g vacant.numbered) (λ e. absurd (omega (arith, e, vacant.numbered.queued))) on))
      (λ on. not_true (off_live a g x (vacant.live x)).1 (free.kept g.running x (own_running g vacant.numbered) (λ e. absurd (omega (arith, e, vacant.numbered.running))) on))
      (λ on. not_true (off_live a g x (vacant.live x)).2 (free.kept g.settled x (own_settled g vacant.numbered) (λ e. absurd (omega (arith, e, vacant.numbered.settled))) on));
  names = free_gained 1 g.names g.names_end come a b g vacant.names free names;
  contexts = free_gained 2 g.contexts g.contexts_end come a b g vacant.contexts free contexts;
}

-- ---- a slot goes

-- the slot is on none of the group's lists of the first family, and all others are where they were
pub record IsLost (g : GroupLists) (x : ℕ) (a b : Slots) : Type 0 where
  pub on : (l y : ℕ) → IsOwn g l → is_on b 0 l y ≡ (if eqb y x then false else is_on a 0 l y)

before : (b c : Bool) → (if b then false else c) ≡ true → c ≡ true
before true c e = absurd cc
before false c e = e

gone : (b c : Bool) → c ≡ false → (if b then false else c) ≡ true → ⊥
gone true c e f = cc
gone false c e f = cc

free_lost : (f first end x : ℕ) (a b : Slots) (g : GroupLists) → IsNumbered g → unchained < first → IsArena a f → AreFreeOn f first end a g → is_on a 0 g.free x ≡ true → IsLost g x a b → lists_in b f ≡ lists_in a f → AreFreeOn f first end b g
free_lost f first end x a b g n behind arena are here lost same = record {
  placed = λ y on. still unchained y ∙ are.placed y (before (eqb y x) (is_on a 0 g.free y) (sym (lost.on g.free y (own_free g n)) ∙ on));
  owned = λ l y from til on.
      let was : is_on a f l y ≡ true = sym (still l y) ∙ on in
      lost.on g.free y (own_free g n) ∙ ap (λ c. if c then false else is_on a 0 g.free y) (ne_eqb y x (other l y from was)) ∙ are.owned l y from til was;
}
  where
    still : (l y : ℕ) → is_on b f l y ≡ is_on a f l y
    still l y = ap (λ (ls : List (List ℕ)). has y (get_or ls l [])) same

    -- the slot that went lay on no chain
    other : (l y : ℕ) → first ≤ l → is_on a f l y ≡ true → y ≡ x → ⊥
    other l y from was e =
        let k : l ≡ unchained = arena.apart l unchained y was (are.placed y (subst (λ z. is_on a 0 g.free z ≡ true) (sym e) here)) in
        omega (arith, k, from, behind)

-- a group without tickets is one still
pub vacant_lost : (x : ℕ) (a b : Slots) (g : GroupLists) → IsVacant a g → IsArena a 1 → IsArena a 2 → HasLists a b → is_on a 0 g.free x ≡ true → IsLost g x a b → lists_in b 1 ≡ lists_in a 1 → lists_in b 2 ≡ lists_in a 2 → IsVacant b g
vacant_lost x a b g vacant second third there here lost names contexts = record {
  numbered = vacant.numbered;
  there = omega (arith, vacant.there, there.first);
  chains = chains_there a b g there.second there.third vacant.chains;
  live = λ y.
      let off = off_live a g y (vacant.live y) in
      live_none b g y
      (λ on. gone (eqb y x) (is_on a 0 g.queued y) off.0 (sym (lost.on g.queued y (own_queued g vacant.numbered)) ∙ on))
      (λ on. gone (eqb y x) (is_on a 0 g.running y) off.1 (sym (lost.on g.running y (own_running g vacant.numbered)) ∙ on))
      (λ on. gone (eqb y x) (is_on a 0 g.settled y) off.2 (sym (lost.on g.settled y (own_settled g vacant.numbered)) ∙ on));
  names = free_lost 1 g.names g.names_end x a b g vacant.numbered vacant.chains.names_behind second vacant.names here lost names;
  contexts = free_lost 2 g.contexts g.contexts_end x a b g vacant.numbered vacant.chains.contexts_behind third vacant.contexts here lost contexts;
}
