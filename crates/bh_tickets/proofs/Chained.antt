-- The chains of a group as one of its slots changes, and as other groups do.
use Rattle.std.proofs.Common.{◌≡◌, ℕ, ◌<◌, ◌≤◌, inl, inr, Bool, true, false, refl, List, [], length, get_or, Option, Some, None, ◌∙◌, sym, ap, subst, arith}
use Rattle.std.specs.Prelude.{◌||◌, eqb, slice_get, if◌then◌else◌}
use Rattle.std.proofs.lemmas.Bool.{cases_eq}
use Rattle.bh_base.specs.declared.ticket.Ticket.{Ticket}
use Rattle.bh_slot_arena.specs.Slots.{bounds_of, lists_in, slots_on, with_payload, with_moved}
use Rattle.bh_cache.specs.declared.lists.GroupLists.{GroupLists}
use Rattle.bh_cache.specs.Chains.{IsChainFrame, AreOn, HasChains, IsChained, list_by_context, list_by_name, list_of_context, list_of_name, unchained, with_placed_where}
use Rattle.bh_cache.specs.Slots.{Slots, has, is_live_list, is_on, is_owned, ticket_at, Once, IsArena}
use Rattle.bh_cache.proofs.Moves.{families_count, family_stays}
use Rattle.bh_cache.proofs.Placed.{IsListOf, IsUnplaced, LieAlike, alike_same, chained_same, chained_where, context_list_within, families_where, first_where, frame_where, name_list_within}
use Rattle.bh_tickets.specs.declared.names.NameLists.{NameLists}
use Rattle.bh_tickets.specs.Names.{AreBeside, names_of}
use Rattle.bh_tickets.specs.Same.{KeepsNames, KeepsOwn}
use Rattle.bh_tickets.proofs.Touched.{IsTouched, at_other, at_slot, owned_same}

-- ---- what a change of one family leaves of the others

-- a slot that is placed stays where it is on the lists of the first family
pub placed_on : (named : Bool) (g : GroupLists) (x : ℕ) (o : Option Ticket) (z : Slots) (l : ℕ) → slots_on (with_placed_where named g x o z) 0 l ≡ slots_on z 0 l
placed_on named g x o z l = ap (λ (ls : List (List ℕ)). get_or ls l []) (first_where named z g x o)

-- and so do the payloads
pub payloads_placed : (named : Bool) (g : GroupLists) (x : ℕ) (o : Option Ticket) (z : Slots) → (with_placed_where named g x o z).payloads ≡ z.payloads
payloads_placed true g x o z = refl
payloads_placed false g x o z = refl

bounds_placed : (named : Bool) (g : GroupLists) (x : ℕ) (o : Option Ticket) (z : Slots) → bounds_of (with_placed_where named g x o z) ≡ bounds_of z
bounds_placed true g x o z = refl
bounds_placed false g x o z = refl

-- what was touched is so once it is placed
pub touched_placed : (named : Bool) (a b : Slots) (x to : ℕ) (v : Ticket) (g : GroupLists) (o : Option Ticket) → IsTouched a b x to v → IsTouched a (with_placed_where named g x o b) x to v
touched_placed named a b x to v g o touched = record {
  slots = ap (λ (ps : List Ticket). length ps) (payloads_placed named g x o b) ∙ touched.slots;
  wide = omega (arith, touched.wide, families_where named b g x o);
  bounds = bounds_placed named g x o b ∙ touched.bounds;
  count = ap (λ (ls : List (List ℕ)). length ls) (first_where named b g x o) ∙ touched.count;
  payload = λ y. ap (λ (ps : List Ticket). slice_get ps y) (payloads_placed named g x o b) ∙ touched.payload y;
  on = λ l y. ap (has y) (placed_on named g x o b l) ∙ touched.on l y;
  left = λ l ne. placed_on named g x o b l ∙ touched.left l ne;
  once = λ once l. subst Once (sym (placed_on named g x o b l)) (touched.once once l);
}

-- the chains are as before
pub record KeepsChains (a b : Slots) : Type 0 where
  pub families : length b.families ≡ length a.families
  pub names : lists_in b 1 ≡ lists_in a 1
  pub contexts : lists_in b 2 ≡ lists_in a 2

-- a change in the first family leaves them so
pub moved_keeps : (a : Slots) (x to : ℕ) (v : Ticket) → KeepsChains a (with_moved 0 x to (with_payload x v a))
moved_keeps a x to v = record {
  families = families_count (with_payload x v a) 0 x to;
  names = family_stays (with_payload x v a) 0 1 x to (λ e. absurd (omega (arith, e)));
  contexts = family_stays (with_payload x v a) 0 2 x to (λ e. absurd (omega (arith, e)));
}

pub freed_keeps : (a : Slots) (x to : ℕ) → KeepsChains a (with_moved 0 x to a)
freed_keeps a x to = record {
  families = families_count a 0 x to;
  names = family_stays a 0 1 x to (λ e. absurd (omega (arith, e)));
  contexts = family_stays a 0 2 x to (λ e. absurd (omega (arith, e)));
}

-- the lists of the chains are there where they were
pub chains_there : (a b : Slots) (g : GroupLists) → length (lists_in a 1) ≤ length (lists_in b 1) → length (lists_in a 2) ≤ length (lists_in b 2) → HasChains a g → HasChains b g
chains_there a b g second third there = record {
  names_behind = there.names_behind;
  names_some = there.names_some;
  names_there = omega (arith, there.names_there, second);
  contexts_behind = there.contexts_behind;
  contexts_some = there.contexts_some;
  contexts_there = omega (arith, there.contexts_there, third);
}

-- ---- one slot of the group changes

-- a slot that was touched and then placed lies on its chains again, where it stays only on the list of what it had
pub chains_placed : (named : Bool) (a c b : Slots) (g : GroupLists) (x to : ℕ) (v : Ticket) (o : Option Ticket) → IsTouched a c x to v → KeepsChains a c → IsArena a 1 → IsArena a 2 → IsChained a g
    → is_owned a g x ≡ true → (eqb g.free to || is_live_list g to) ≡ true → o ≡ (if is_live_list g to then Some v else None) → (named ≡ false → LieAlike g o (ticket_at a g x))
    → b ≡ with_placed_where named g x o c → IsChained b g × IsChainFrame g a b
chains_placed named a c b g x to v o touched keeps names contexts chained own own_to is lies made =
    subst (λ (z : Slots). IsChained z g × IsChainFrame g a z) (sym made)
    (chained_where a c g x o chained names contexts unplaced named lies (is ∙ sym (at_slot a c x to v touched g)), frame_where a c g x o chained names contexts unplaced named)
  where
    unplaced : IsUnplaced g x a c
    unplaced = record {
      wide = keeps.families;
      names = keeps.names;
      contexts = keeps.contexts;
      owned = owned_same a c x to v touched g own own_to;
      others = λ y ne. at_other a c x to v touched g y ne;
      here = own;
    }

-- a ticket that keeps its name and is cached as before belongs on the same chains
same_lists : (g : GroupLists) (t v : Ticket) → v.cache ≡ t.cache → v.cached ≡ t.cached → LieAlike g (Some v) (Some t)
same_lists g t v e f = (λ i. if f i then list_of_name g (e i) else unchained, λ i. if f i then list_of_context g (e i) else unchained)

-- a slot that was touched lies on its chains still, where its ticket keeps its name
pub chains_touched : (a b : Slots) (g : GroupLists) (x to : ℕ) (t v : Ticket) → IsTouched a b x to v → KeepsChains a b → IsChained a g → is_owned a g x ≡ true → (eqb g.free to || is_live_list g to) ≡ true
    → ticket_at a g x ≡ Some t → ticket_at b g x ≡ Some v → v.cache ≡ t.cache → v.cached ≡ t.cached → IsChained b g
chains_touched a b g x to t v touched keeps chained own own_to was now cache cached =
    chained_same a b g chained keeps.names keeps.contexts (owned_same a b x to v touched g own own_to) alike
  where
    alike : (y : ℕ) → LieAlike g (ticket_at b g y) (ticket_at a g y)
    alike y = elim (cases_eq y x) [
      | inl e ↦ subst (λ z. LieAlike g (ticket_at b g z) (ticket_at a g z)) (sym e)
          (subst (λ o. LieAlike g o (ticket_at a g x)) (sym now) (subst (LieAlike g (Some v)) (sym was) (same_lists g t v cache cached)))
      | inr ne ↦ alike_same g (ticket_at b g y) (ticket_at a g y) (at_other a b x to v touched g y ne)
    ]

-- ---- other groups change

-- on the family's list for slots without a cached ticket each slot of the group lies where it did
abbrev pub StaysUnchained : ℕ → GroupLists → Slots → Slots → Type 0
StaysUnchained family g a b = (x : ℕ) → is_owned a g x ≡ true → is_on b family unchained x ≡ is_on a family unchained x

on_kept : (family first end : ℕ) (to : Option Ticket → ℕ) (a b : Slots) (g : GroupLists) → KeepsOwn family first end a b → StaysUnchained family g a b → unchained < first → ((o : Option Ticket) → IsListOf first end (to o))
    → ((x : ℕ) → is_owned b g x ≡ is_owned a g x) → ((x : ℕ) → ticket_at b g x ≡ ticket_at a g x) → AreOn family first end to a g → AreOn family first end to b g
on_kept family first end to a b g keeps stays behind within owned at are = record {
  placed = λ x own.
      let was : is_owned a g x ≡ true = sym (owned x) ∙ own in
      ap (λ p. is_on b family (to p) x) (at x) ∙ still x was (to (ticket_at a g x)) (within (ticket_at a g x)) ∙ are.placed x was;
  owned = λ l x from last on. owned x ∙ are.owned l x from last (sym (ap (has x) (keeps.lists l (λ e. absurd (omega (arith, behind, from, e))) from last)) ∙ on);
}
  where
    still : (x : ℕ) → is_owned a g x ≡ true → (l : ℕ) → IsListOf first end l → is_on b family l x ≡ is_on a family l x
    still x was l (inl e) = ap (λ k. is_on b family k x) e ∙ stays x was ∙ ap (λ k. is_on a family k x) (sym e)
    still x was l (inr k) = ap (has x) (keeps.lists l (λ e. absurd (omega (arith, behind, k.0, e))) k.0 k.1)

-- a group's slots lie on its chains still, where these, its slots and its tickets are as before
pub chains_kept : (a b : Slots) (g : GroupLists) → KeepsNames (names_of g) a b → StaysUnchained 1 g a b → StaysUnchained 2 g a b → ((x : ℕ) → is_owned b g x ≡ is_owned a g x) → ((x : ℕ) → ticket_at b g x ≡ ticket_at a g x) → IsChained a g → IsChained b g
chains_kept a b g keeps by_name by_context owned at chained =
    let there = chained.lists in
    record {
      lists = chains_there a b g keeps.names.count keeps.contexts.count there;
      names = on_kept 1 g.names g.names_end (list_by_name g) a b g keeps.names by_name there.names_behind (λ o. name_list_within a g there o) owned at chained.names;
      contexts = on_kept 2 g.contexts g.contexts_end (list_by_context g) a b g keeps.contexts by_context there.contexts_behind (λ o. context_list_within a g there o) owned at chained.contexts;
    }

-- as those are that lie beside the chains of a group that changed
pub beside_kept : (g : GroupLists) (n : NameLists) (a b : Slots) → IsChainFrame g a b → AreBeside (names_of g) n → KeepsNames n a b
beside_kept g n a b frame beside = record {
  names = record {
    count = omega (arith, frame.names.count);
    lists = λ l ne from to. frame.names.lists l ne (λ other. beside.names l other (from, to));
  };
  contexts = record {
    count = omega (arith, frame.contexts.count);
    lists = λ l ne from to. frame.contexts.lists l ne (λ other. beside.contexts l other (from, to));
  };
}
