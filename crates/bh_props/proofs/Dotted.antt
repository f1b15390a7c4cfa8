-- A dotted name is cut at its first dot.
use Rattle.std.proofs.Common.{◌≡◌, ◌==◌, ℕ, List, [], ◌∷◌, length, ◌<◌, Option, Some, None, option_and_then, refl, ap, ◌∙◌, ◌+◌, ◌-◌, length-drop, arith}
use Rattle.std.specs.List.{position_or_len, before_first, after_first}
use Rattle.std.proofs.lemmas.List.Splits.{slice_split_first, slice_split_none}
use Rattle.std.proofs.lemmas.List.Sums.{fails_before_first}
use Rattle.toml.specs.Data.{Data, get}
use Rattle.bh_props.specs.Tree.{keys_of, look_up}

-- the place of the first dot, or the end
abbrev pub at_dot : List ℕ → ℕ
at_dot name = position_or_len (λ b. b == 46) name

keys_of-first : (name key rest : List ℕ) → at_dot name < length name → key ≡ before_first (λ b. b == 46) name → rest ≡ after_first (λ b. b == 46) name → keys_of name ≡ key ∷ keys_of rest
keys_of-first name key rest within is_key is_rest = rw (is_key, is_rest) (slice_split_first (λ b. b == 46) name 0 within)

-- a dotted name is looked up below its first part
pub look_up-found : (name key rest : List ℕ) (d : Data) (found : Data) → at_dot name < length name → key ≡ before_first (λ b. b == 46) name → rest ≡ after_first (λ b. b == 46) name
    → get key d ≡ Some found → look_up (keys_of name) d ≡ look_up (keys_of rest) found
look_up-found name key rest d found within is_key is_rest member =
    ap (λ path. look_up path d) (keys_of-first name key rest within is_key is_rest) ∙ ap (option_and_then (look_up (keys_of rest))) member

-- and not found where the first part is not
pub look_up-missing : (name key rest : List ℕ) (d : Data) → at_dot name < length name → key ≡ before_first (λ b. b == 46) name → rest ≡ after_first (λ b. b == 46) name
    → get key d ≡ None → look_up (keys_of name) d ≡ None
look_up-missing name key rest d within is_key is_rest missing =
    ap (λ path. look_up path d) (keys_of-first name key rest within is_key is_rest) ∙ ap (option_and_then (look_up (keys_of rest))) missing

whole : (o : Option Data) → option_and_then (look_up []) o ≡ o
whole None = refl
whole (Some d) = refl

-- a name without a dot is looked up as it is
pub look_up-last : (name : List ℕ) (d : Data) → at_dot name ≡ length name → look_up (keys_of name) d ≡ get name d
look_up-last name d none =
    ap (λ path. look_up path d) (slice_split_none (λ b. b == 46) name (λ k x l. fails_before_first (λ b. b == 46) name k x (omega arith)))
    ∙ whole (get name d)

-- what follows a dot is shorter
pub length-after_dot : (name rest : List ℕ) → at_dot name < length name → rest ≡ after_first (λ b. b == 46) name → length rest < length name
length-after_dot name rest within is_rest =
    let cut : length rest ≡ length name - (at_dot name + 1) = ap length is_rest ∙ length-drop (at_dot name + 1) name in
    omega arith
