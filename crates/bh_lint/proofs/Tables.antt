-- What is looked up in a table.
use Rattle.std.proofs.Common.{◌≡◌, ◌≤◌, ◌||◌, ◌&&◌, ℕ, List, [], ◌∷◌, length, Bool, true, map, refl, sym, ap, ◌∙◌}
use Rattle.std.specs.Prelude.{nat_le, is_some}
use Rattle.std.specs.Map.{lookup, keys_of as entry_keys}
use Rattle.std.proofs.lemmas.Bool.{le-leb}
use Rattle.std.proofs.lemmas.Map.Made.{is_some-lookup}
use Rattle.std.specs.List.{list_any}
use Rattle.std.specs.Str.{bytes_eq}
use Rattle.toml.specs.Data.{Data}
use Rattle.bh_props.specs.Commands.{Commands}
use Rattle.bh_lint.specs.declared.table.Table.{Table}
use Rattle.bh_lint.specs.declared.table.Table.TheVariants as tables
use Rattle.bh_lint.specs.Table.{knows, children, is_further}

-- in a table without names of groups, its children are
pub knows-children : (names : List (List ℕ)) (commands : Commands) (t : Table) (key : List ℕ) (d : Data) → ¬ (t ≡ tables.Service) → ¬ (t ≡ tables.Commands) → ¬ (t ≡ tables.Pools)
    → knows names commands t key d ≡ list_any (λ child. bytes_eq child key) (children t)
knows-children names commands tables.Root key d a b c = refl
knows-children names commands tables.Service key d a b c = absurd (a refl)
knows-children names commands tables.Hystrix key d a b c = refl
knows-children names commands tables.Commands key d a b c = absurd (b refl)
knows-children names commands tables.Pools key d a b c = absurd (c refl)
knows-children names commands (tables.Command part) key d a b c = refl
knows-children names commands tables.Pool key d a b c = refl

-- one of what items give passes a test where one of the items passes it by what it gives
pub any-map : {X Y : Type 0} (test : Y → Bool) (give : X → Y) (xs : List X) → list_any (λ x. test (give x)) xs ≡ list_any test (map give xs)
any-map test give [] = refl
any-map test give (x ∷ xs) = ap (λ rest. test (give x) || rest) (any-map test give xs)

-- a short key is a further command's name where the map has it
pub further : (commands : Commands) (key text : List ℕ) (r : Bool) → text ≡ key → length key ≤ 32 → r ≡ is_some (lookup (bytes_eq text) commands) → r ≡ is_further commands key
further commands key text r is fits found =
    let test : nat_le (length key) 32 ≡ true = le-leb (length key) 32 fits in
    found ∙ is_some-lookup (bytes_eq text) commands ∙ ap (λ t. list_any (λ name. bytes_eq t name) (entry_keys commands)) is
    ∙ sym (ap (λ b. b && list_any (λ name. bytes_eq key name) (entry_keys commands)) test)
