-- Where the further commands of each group stand in their list, found from the end of the list on.
use Rattle.std.proofs.Common.{◌≡◌, ◌≢◌, ◌+◌, ◌*◌, ◌<◌, ◌≤◌, ◌⊎◌, inl, inr, ℕ, zero, suc, Bool, true, false, cond, List, [], ◌∷◌, length, drop, set, replicate, Some, refl, ◌∙◌, sym, ap, arith, rules}
use Rattle.std.specs.Prelude.{◌==◌, ◌&&◌, find, slice_get}
use Rattle.std.proofs.lemmas.List.{get_or-replicate, length-replicate}
use Rattle.std.proofs.lemmas.Option.{get_or_from_slice_get, slice_get_past, slice_get_within}
use Rattle.bh_core.proofs.OneOfMany.{slice_get-set_other}
use Rattle.bh_port.specs.CommandPlaces.{AreCommandPlaces, is_numbered}

-- the places are those of the first such commands from one of the list on
pub record AreFoundFrom (from : ℕ) (commands : List (List ℕ × (ℕ × ℕ))) (places : List ℕ) : Type 0 where
  pub first : (group number place : ℕ) → number < 16 → slice_get places (group * 16 + number) ≡ Some place
      → find (is_numbered group number) (drop from commands) ≡ slice_get commands place

drop_all : {X : Type 0} (xs : List X) → drop (length xs) xs ≡ []
drop_all [] = refl
drop_all (x ∷ xs) = drop_all xs

drop_here : {X : Type 0} (xs : List X) (i : ℕ) (x : X) → slice_get xs i ≡ Some x → drop i xs ≡ x ∷ drop (suc i) xs
drop_here [] i x e = absurd cc
drop_here (y ∷ ys) zero x e = let q : y ≡ x = cc in ap (λ z. z ∷ ys) q
drop_here (y ∷ ys) (suc i) x e = drop_here ys i x e

-- before a command was looked at, each place is past the end
pub found_none : (commands : List (List ℕ × (ℕ × ℕ))) (count : ℕ) → AreFoundFrom (length commands) commands (replicate count (length commands))
found_none commands count = record {
  first = λ group number place few e.
      let past : place ≡ length commands = each (group * 16 + number) place e in
      ap (find (is_numbered group number)) (drop_all commands) ∙ sym (ap (slice_get commands) past ∙ slice_get_past commands (length commands) (omega arith));
}
  where
    each : (k x : ℕ) → slice_get (replicate count (length commands)) k ≡ Some x → x ≡ length commands
    each k x e =
        let inside = slice_get_within (replicate count (length commands)) k x e in
        let size = length-replicate count (length commands) in
        sym (get_or_from_slice_get (replicate count (length commands)) k x 0 e) ∙ get_or-replicate count k (length commands) 0 (omega (arith, inside, size))

-- what is read where something was written is that
set_read : {X : Type 0} (xs : List X) (k : ℕ) (v x : X) → slice_get (set xs k v) k ≡ Some x → x ≡ v
set_read [] k v x e = absurd cc
set_read (y ∷ ys) zero v x e = cc
set_read (y ∷ ys) (suc k) v x e = set_read ys k v x e

both_eq : (a b g n : ℕ) → ((a == g) && (b == n)) ≡ true → (a ≡ g) × (b ≡ n)
both_eq a b g n h = (search rules, search rules)

-- no two commands have the same place
apart : (a b g n : ℕ) → b < 16 → n < 16 → ((a == g) && (b == n)) ≡ false → g * 16 + n ≢ a * 16 + b
apart a b g n few lt differ e =
    let same : a ≡ g = omega (arith, few, lt, e) in
    let too : b ≡ n = omega (arith, same, e) in
    absurd (grind arith)

module _ (commands : List (List ℕ × (ℕ × ℕ))) (at : ℕ) (c : List ℕ × (ℕ × ℕ)) (here : slice_get commands at ≡ Some c) (old new : List ℕ) (put : c.1.1 < 16 → new ≡ set old (c.1.0 * 16 + c.1.1) at) (kept : 16 ≤ c.1.1 → new ≡ old) (found : AreFoundFrom (suc at) commands old) where
  same_place : (group number place : ℕ) → number < 16 → slice_get new (group * 16 + number) ≡ Some place → is_numbered group number c ≡ true → place ≡ at
  same_place group number place few e is =
      let q = both_eq c.1.0 c.1.1 group number is in
      let k : c.1.0 * 16 + c.1.1 ≡ group * 16 + number = omega (arith, q.0, q.1) in
      let written : new ≡ set old (group * 16 + number) at = put (omega (arith, q.1, few)) ∙ ap (λ k. set old k at) k in
      set_read old (group * 16 + number) at place (sym (ap (λ xs. slice_get xs (group * 16 + number)) written) ∙ e)

  other_place : (group number place : ℕ) → number < 16 → slice_get new (group * 16 + number) ≡ Some place → is_numbered group number c ≡ false → slice_get old (group * 16 + number) ≡ Some place
  other_place group number place few e is = by (side c.1.1)
    where
      side : (b : ℕ) → (b < 16) ⊎ (16 ≤ b)
      side b = grind arith

      by : ((c.1.1 < 16) ⊎ (16 ≤ c.1.1)) → slice_get old (group * 16 + number) ≡ Some place
      by (inl lt) = sym (ap (λ xs. slice_get xs (group * 16 + number)) (put lt) ∙ slice_get-set_other old (c.1.0 * 16 + c.1.1) at (group * 16 + number) (apart c.1.0 c.1.1 group number lt few is)) ∙ e
      by (inr ge) = sym (ap (λ xs. slice_get xs (group * 16 + number)) (kept ge)) ∙ e

  -- where the commands from the next one on were looked at, and then this one
  pub found_next : AreFoundFrom at commands new
  found_next = record { first = λ group number place few e. ap (find (is_numbered group number)) (drop_here commands at c here) ∙ by group number place few e (is_numbered group number c) refl }
    where
      by : (group number place : ℕ) → number < 16 → slice_get new (group * 16 + number) ≡ Some place → (b : Bool) → is_numbered group number c ≡ b
          → find (is_numbered group number) (c ∷ drop (suc at) commands) ≡ slice_get commands place
      by group number place few e true is =
          ap (λ b. cond b (Some c) (find (is_numbered group number) (drop (suc at) commands))) is
          ∙ sym (ap (slice_get commands) (same_place group number place few e is) ∙ here)
      by group number place few e false is =
          ap (λ b. cond b (Some c) (find (is_numbered group number) (drop (suc at) commands))) is
          ∙ found.first group number place few (other_place group number place few e is)

-- all of the list was looked at
pub found_all : (commands : List (List ℕ × (ℕ × ℕ))) (places : List ℕ) → AreFoundFrom 0 commands places → AreCommandPlaces commands places
found_all commands places found = record { first = found.first }
