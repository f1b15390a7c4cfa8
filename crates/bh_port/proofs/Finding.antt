-- A further command, found by the hash of its name.
use Rattle.std.proofs.Common.{◌≡◌, ℕ, Bool, true, false, cond, List, [], ◌∷◌, Option, Some, refl, ◌∙◌, ap}
use Rattle.std.specs.Prelude.{find, nat_eq, option_map}
use Rattle.std.specs.Map.{lookup}
use Rattle.std.specs.Cmp.Lexicographic.{pointwise}
use Rattle.std.specs.Str.{bytes_eq}
use Rattle.std.proofs.lemmas.Cmp.{nat_list_eq_equiv}

cond_value : {T X : Type 0} (b : Bool) (e : T × X) (first : Option X) (rest : Option (T × X)) → first ≡ option_map (λ x. x.1) rest
    → cond b (Some e.1) first ≡ option_map (λ x. x.1) (cond b (Some e) rest)
cond_value true e first rest is = refl
cond_value false e first rest is = is

same_value : {X : Type 0} (p q : List ℕ → Bool) → ((name : List ℕ) → p name ≡ q name) → (es : List (List ℕ × X)) → lookup p es ≡ option_map (λ e. e.1) (find (λ e. q e.0) es)
same_value p q same [] = refl
same_value {X} p q same (e ∷ es) =
    ap (λ b. cond b (Some e.1) (lookup p es)) (same e.0)
    ∙ cond_value (q e.0) e (lookup p es) (find (λ x. q x.0) es) (same_value p q same es)

-- the name that is looked up may stand before the one it is compared with, or behind it
pub lookup-key : {X : Type 0} (key name : List ℕ) (es : List (List ℕ × X)) → key ≡ name → lookup (pointwise nat_eq key) es ≡ option_map (λ e. e.1) (find (λ e. bytes_eq e.0 name) es)
lookup-key key name es is =
    ap (λ k. lookup (pointwise nat_eq k) es) is
    ∙ same_value (pointwise nat_eq name) (λ n. bytes_eq n name) (λ n. nat_list_eq_equiv.symm name n) es
