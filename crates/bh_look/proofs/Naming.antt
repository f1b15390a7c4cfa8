-- The names of the further commands, once those up to one of them were noted.
use Rattle.std.proofs.Common.{◌≡◌, ℕ, Bool, true, false, List, ◌∷◌, Option, Some, None, refl, sym, ap, ◌∙◌, is_some}
use Rattle.std.specs.Prelude.{◌&&◌, ◌==◌, find, option_map, if◌then◌else◌}
use Rattle.std.specs.Option.{option_or}
use Rattle.std.specs.HashMap.{HashMap, Updates, get}
use Rattle.bh_look.specs.Rows.{same_numbers}
use Rattle.std.specs.Cmp.{unsigned_Decides}

-- the name of the first of the commands that has the number in a group like that at the place
abbrev pub name_among : ℕ → ℕ → List (List ℕ × (ℕ × ℕ)) → Option (List ℕ)
name_among like number commands = option_map (λ c. c.0) (find (λ c. (c.1.0 == like) && (c.1.1 == number)) commands)

pub both : (p q : Bool) → (p && q) ≡ true → (p ≡ true) × (q ≡ true)
both true true is = (refl, refl)
both true false is = absurd cc
both false q is = absurd cc

same : (a b : ℕ × ℕ) → same_numbers a b ≡ true → (a.0 ≡ b.0) × (a.1 ≡ b.1)
same a b is =
    let (first, second) = both (a.0 == b.0) (a.1 == b.1) is in
    ((unsigned_Decides a.0 b.0).0 first, (unsigned_Decides a.1 b.1).0 second)

module _ {S : Type 0} (old : HashMap (ℕ × ℕ) (List ℕ) S) (c : List ℕ × (ℕ × ℕ)) (rest : List (List ℕ × (ℕ × ℕ))) (like number : ℕ) where
  -- a command whose numbers were noted already
  pub noted : is_some (get same_numbers old c.1) ≡ true → option_or (get same_numbers old (like, number)) (name_among like number rest) ≡ option_or (get same_numbers old (like, number)) (name_among like number (c ∷ rest))
  noted there = cases (same_numbers c.1 (like, number)) refl
    where
      first : (o : Option (List ℕ)) (p q : Option (List ℕ)) → is_some o ≡ true → option_or o p ≡ option_or o q
      first (Some name) p q is = refl
      first None p q is = absurd cc

      cases : (t : Bool) → same_numbers c.1 (like, number) ≡ t
          → option_or (get same_numbers old (like, number)) (name_among like number rest)
          ≡ option_or (get same_numbers old (like, number)) (option_map (λ (d : List ℕ × (ℕ × ℕ)). d.0) (if t then Some c else find (λ d. (d.1.0 == like) && (d.1.1 == number)) rest))
      cases true is =
          let (one, other) = same c.1 (like, number) is in
          first (get same_numbers old (like, number)) (name_among like number rest) (Some c.0) (sym (λ k. is_some (get same_numbers old (one k, other k))) ∙ there)
      cases false is = refl

  -- one whose numbers are noted now
  pub noted_now : (new : HashMap (ℕ × ℕ) (List ℕ) S) → is_some (get same_numbers old c.1) ≡ false → Updates same_numbers old new c.1 (Some c.0)
      → option_or (get same_numbers new (like, number)) (name_among like number rest) ≡ option_or (get same_numbers old (like, number)) (name_among like number (c ∷ rest))
  noted_now new absent updates = ap (λ o. option_or o (name_among like number rest)) (updates.0 (like, number)) ∙ cases (same_numbers c.1 (like, number)) refl
    where
      first : (o p : Option (List ℕ)) → is_some o ≡ false → p ≡ option_or o p
      first (Some name) p is = absurd cc
      first None p is = refl

      cases : (t : Bool) → same_numbers c.1 (like, number) ≡ t
          → option_or (if t then Some c.0 else get same_numbers old (like, number)) (name_among like number rest)
          ≡ option_or (get same_numbers old (like, number)) (option_map (λ (d : List ℕ × (ℕ × ℕ)). d.0) (if t then Some c else find (λ d. (d.1.0 == like) && (d.1.1 == number)) rest))
      cases true is =
          let (one, other) = same c.1 (like, number) is in
          first (get same_numbers old (like, number)) (Some c.0) (sym (λ k. is_some (get same_numbers old (one k, other k))) ∙ absent)
      cases false is = refl
