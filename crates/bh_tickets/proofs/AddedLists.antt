-- Families get empty lists, and then one of each the new slots.
use Rattle.std.proofs.Common.{◌≡◌, ℕ, zero, suc, ◌+◌, ◌<◌, ◌≤◌, List, [], ◌∷◌, ◌++◌, map, length, get_or, replicate, refl, ◌∙◌, sym, ap, subst, arith, append_assoc, append-nil, length-append, length-set, get_or-set_same, get_or-set_other}
use Rattle.std.specs.List.{zip}
use Rattle.std.proofs.lemmas.List.{get_or_past, length-replicate}
use Rattle.bh_slot_arena.specs.Lists.{put_last}
use Rattle.bh_slot_arena.specs.Slots.{lists_in, slots_on, with_new_lists}
use Rattle.bh_cache.specs.Chains.{unchained}
use Rattle.bh_cache.specs.Slots.{Slots}
use Rattle.bh_tickets.specs.declared.names.NameLists.{NameLists}
use Rattle.bh_tickets.specs.Growth.{HasNewLists}
use Rattle.bh_tickets.specs.Names.{AreEmptyOn}
use Rattle.bh_tickets.specs.Same.{KeepsNames, KeepsOwn}

empty_list : (k i : ℕ) → get_or {A = List ℕ} (replicate {A = List ℕ} k []) i [] ≡ []
empty_list zero i = refl
empty_list (suc k) zero = refl
empty_list (suc k) (suc i) = empty_list k i

-- with empty lists after them, the lists of all numbers are as they were
append_empty : (ls : List (List ℕ)) (k l : ℕ) → get_or (ls ++ replicate {A = List ℕ} k []) l [] ≡ get_or ls l []
append_empty [] k l = empty_list k l
append_empty (x ∷ ls) k zero = refl
append_empty (x ∷ ls) k (suc l) = append_empty ls k l

-- a family that has lists is there
pub family_there : (fs : List (List (List ℕ))) (f : ℕ) → 0 < length (get_or fs f []) → f < length fs
family_there [] f lt = absurd (omega (arith, lt))
family_there (x ∷ fs) zero lt = omega arith
family_there (x ∷ fs) (suc f) lt = let k : f < length fs = family_there fs f lt in omega (arith, k)

-- ---- one family

module _ (f k : ℕ) (a b : Slots) (more : lists_in b f ≡ lists_in a f ++ replicate k []) where
  pub count_more : length (lists_in b f) ≡ length (lists_in a f) + k
  count_more = ap (λ (ls : List (List ℕ)). length ls) more ∙ length-append (lists_in a f) (replicate k []) ∙ ap (λ n. length (lists_in a f) + n) (length-replicate k [])

  pub on_more : (l : ℕ) → slots_on b f l ≡ slots_on a f l
  on_more l = ap (λ (ls : List (List ℕ)). get_or ls l []) more ∙ append_empty (lists_in a f) k l

  -- the new lists are empty
  pub empty_more : (l : ℕ) → length (lists_in a f) ≤ l → slots_on b f l ≡ []
  empty_more l le = on_more l ∙ get_or_past (lists_in a f) l [] le

  -- and what lies on those that were there lies there still
  pub keeps_more : (first end : ℕ) → KeepsOwn f first end a b
  keeps_more first end = record { count = omega (arith, count_more); lists = λ l ne low high. on_more l }

-- so many chains among the new lists
pub empty_made : (f k c first end : ℕ) (a b : Slots) → 0 < c → lists_in b f ≡ lists_in a f ++ replicate k [] → unchained < first → length (lists_in a f) ≤ first → end ≤ length (lists_in b f) → end ≡ first + c → AreEmptyOn f first end b
empty_made f k c first end a b some more behind from there to = record {
  behind = behind;
  some = omega (arith, to, some);
  there = there;
  empty = λ l low high. empty_more f k a b more l (omega (arith, from, low));
}

-- what lies on chains that were there lies there still
pub names_more : (n k m : ℕ) (a b : Slots) (x : NameLists) → HasNewLists n k m a b → KeepsNames x a b
names_more n k m a b x more = record {
  names = keeps_more 1 k a b more.second x.names x.names_end;
  contexts = keeps_more 2 m a b more.third x.contexts x.contexts_end;
}

-- ---- the slots of three families

module _ (n k m : ℕ) (xs : List ℕ) where
  -- so many slots put last on one list of each of three families
  abbrev pub put_all : List (List (List ℕ)) → List (List (List ℕ))
  put_all fs = map (λ p. put_last xs p.0 p.1) (zip (n ∷ k ∷ m ∷ []) fs)

  pub put_first : (fs : List (List (List ℕ))) → 2 < length fs → get_or (put_all fs) 0 [] ≡ put_last xs n (get_or fs 0 [])
  put_first [] lt = absurd (omega (arith, lt))
  put_first (f ∷ fs) lt = refl

  pub put_second : (fs : List (List (List ℕ))) → 2 < length fs → get_or (put_all fs) 1 [] ≡ put_last xs k (get_or fs 1 [])
  put_second [] lt = absurd (omega (arith, lt))
  put_second (f ∷ []) lt = absurd (omega (arith, lt))
  put_second (f ∷ g ∷ fs) lt = refl

  pub put_third : (fs : List (List (List ℕ))) → 2 < length fs → get_or (put_all fs) 2 [] ≡ put_last xs m (get_or fs 2 [])
  put_third [] lt = absurd (omega (arith, lt))
  put_third (f ∷ []) lt = absurd (omega (arith, lt))
  put_third (f ∷ g ∷ []) lt = absurd (omega (arith, lt))
  put_third (f ∷ g ∷ h ∷ fs) lt = refl

-- ---- lists more, one family after the other

-- no list more
pub more_none : (a : Slots) → HasNewLists 0 0 0 a a
more_none a = record {
  bounds = refl;
  payloads = refl;
  families = refl;
  first = sym (append-nil (lists_in a 0));
  second = sym (append-nil (lists_in a 1));
  third = sym (append-nil (lists_in a 2));
}

-- more of the first family
pub more_first : (n : ℕ) (a b : Slots) → 0 < length a.families → b ≡ with_new_lists 0 n a → HasNewLists n 0 0 a b
more_first n a b there is = subst (HasNewLists n 0 0 a) (sym is) (record {
  bounds = refl;
  payloads = refl;
  families = length-set a.families 0 (lists_in a 0 ++ replicate n []);
  first = get_or-set_same a.families 0 (lists_in a 0 ++ replicate n []) [] there;
  second = get_or-set_other a.families 0 1 (lists_in a 0 ++ replicate n []) [] (λ e. absurd (omega (arith, e))) ∙ sym (append-nil (lists_in a 1));
  third = get_or-set_other a.families 0 2 (lists_in a 0 ++ replicate n []) [] (λ e. absurd (omega (arith, e))) ∙ sym (append-nil (lists_in a 2));
})

-- then of the second
pub more_second : (n k : ℕ) (a b c : Slots) → 1 < length a.families → HasNewLists n 0 0 a b → c ≡ with_new_lists 1 k b → HasNewLists n k 0 a c
more_second n k a b c there more is = subst (HasNewLists n k 0 a) (sym is) (record {
  bounds = more.bounds;
  payloads = more.payloads;
  families = length-set b.families 1 (lists_in b 1 ++ replicate k []) ∙ more.families;
  first = get_or-set_other b.families 1 0 (lists_in b 1 ++ replicate k []) [] (λ e. absurd (omega (arith, e))) ∙ more.first;
  second = get_or-set_same b.families 1 (lists_in b 1 ++ replicate k []) [] (omega (arith, there, more.families)) ∙ ap (λ (ls : List (List ℕ)). ls ++ replicate k []) (more.second ∙ append-nil (lists_in a 1));
  third = get_or-set_other b.families 1 2 (lists_in b 1 ++ replicate k []) [] (λ e. absurd (omega (arith, e))) ∙ more.third;
})

-- and then of the third
pub more_third : (n k m : ℕ) (a b c : Slots) → 2 < length a.families → HasNewLists n k 0 a b → c ≡ with_new_lists 2 m b → HasNewLists n k m a c
more_third n k m a b c there more is = subst (HasNewLists n k m a) (sym is) (record {
  bounds = more.bounds;
  payloads = more.payloads;
  families = length-set b.families 2 (lists_in b 2 ++ replicate m []) ∙ more.families;
  first = get_or-set_other b.families 2 0 (lists_in b 2 ++ replicate m []) [] (λ e. absurd (omega (arith, e))) ∙ more.first;
  second = get_or-set_other b.families 2 1 (lists_in b 2 ++ replicate m []) [] (λ e. absurd (omega (arith, e))) ∙ more.second;
  third = get_or-set_same b.families 2 (lists_in b 2 ++ replicate m []) [] (omega (arith, there, more.families)) ∙ ap (λ (ls : List (List ℕ)). ls ++ replicate m []) (more.third ∙ append-nil (lists_in a 2));
})

-- ---- lists more, and then more still

replicate_both : (k m : ℕ) → replicate {A = List ℕ} k [] ++ replicate m [] ≡ replicate (k + m) []
replicate_both zero m = let e : m ≡ 0 + m = omega arith in ap (λ n. replicate {A = List ℕ} n []) e
replicate_both (suc k) m = let e : suc (k + m) ≡ suc k + m = omega arith in ap (λ (ls : List (List ℕ)). [] ∷ ls) (replicate_both k m) ∙ ap (λ n. replicate {A = List ℕ} n []) e

family_both : (f k m : ℕ) (a b c : Slots) → lists_in b f ≡ lists_in a f ++ replicate k [] → lists_in c f ≡ lists_in b f ++ replicate m [] → lists_in c f ≡ lists_in a f ++ replicate (k + m) []
family_both f k m a b c p q = q ∙ ap (λ (ls : List (List ℕ)). ls ++ replicate m []) p ∙ append_assoc (lists_in a f) (replicate k []) (replicate m []) ∙ ap (λ (ls : List (List ℕ)). lists_in a f ++ ls) (replicate_both k m)

-- what is more after each of two steps is more after both
pub more_both : (n k m p q r : ℕ) (a b c : Slots) → HasNewLists n k m a b → HasNewLists p q r b c → HasNewLists (n + p) (k + q) (m + r) a c
more_both n k m p q r a b c one two = record {
  bounds = two.bounds ∙ one.bounds;
  payloads = two.payloads ∙ one.payloads;
  families = two.families ∙ one.families;
  first = family_both 0 n p a b c one.first two.first;
  second = family_both 1 k q a b c one.second two.second;
  third = family_both 2 m r a b c one.third two.third;
}
