-- A text that is longer than each name is none of them.
use Rattle.std.proofs.Common.{◌≡◌, ℕ, ◌<◌, ◌≤◌, List, [], length, get_or, position, Bool, true, false, Option, Some, None, All, refl, sym, subst, ◌∙◌, true≢false}
use Rattle.std.proofs.lemmas.List.Folds.{list_any_none}
use Rattle.std.proofs.lemmas.List.Quantifiers.{position-Some}
use Rattle.std.proofs.lemmas.Slice.Eq.{bytes_eq-Decides}
use Rattle.std.specs.List.{list_any}
use Rattle.std.specs.Str.{bytes_eq}

module _ (names : List (List ℕ)) (key : List ℕ) (short : All (λ name. length name ≤ 32) names) (long : ¬ (length key ≤ 32)) where
  differs : (k : ℕ) (d : List ℕ) → k < length names → bytes_eq (get_or names k d) key ≡ false
  differs k d within = by (bytes_eq (get_or names k d) key) refl
    where
      by : (b : Bool) → bytes_eq (get_or names k d) key ≡ b → bytes_eq (get_or names k d) key ≡ false
      by false e = e
      by true e = absurd (long (subst (λ name. length name ≤ 32) ((bytes_eq-Decides (get_or names k d) key).0 e) (short k d within)))

  pub not_listed : list_any (λ name. bytes_eq name key) names ≡ false
  not_listed = list_any_none (λ name. bytes_eq name key) names differs

  pub no_place : position (λ name. bytes_eq name key) names ≡ None
  no_place = by (position (λ name. bytes_eq name key) names) refl
    where
      by : (o : Option ℕ) → position (λ name. bytes_eq name key) names ≡ o → position (λ name. bytes_eq name key) names ≡ None
      by None e = e
      by (Some i) e =
          let at = position-Some (λ name. bytes_eq name key) names i [] e in
          absurd (true≢false (sym at.1 ∙ differs i [] at.0))
