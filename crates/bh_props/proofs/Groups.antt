-- Entries of new names are put into a map behind the others: the groups in their order, each with what its place gives.
use Rattle.std.proofs.Common.{◌≡◌, ℕ, zero, suc, ◌+◌, ◌<◌, List, [], ◌∷◌, ◌++◌, length, take, get_or, Bool, true, false, ◌||◌, Some, None, refl, sym, ap, ◌∙◌, true≢false, append_assoc, length-take, arith}
use Rattle.std.proofs.lemmas.List.{append-nil, take_more}
use Rattle.std.proofs.lemmas.Slice.Eq.{bytes_eq-Decides}
use Rattle.std.specs.List.{list_any}
use Rattle.std.specs.Map.{keys_of}
use Rattle.std.specs.Str.{bytes_eq}
use Rattle.indexmap.specs.IndexMap.{insert_entry}
use Rattle.bh_base.specs.Commands.{each_from}
use Rattle.bh_props.specs.Names.{first_twice}
use Rattle.bh_props.proofs.Each.{each_from-last}

-- one of the texts is this one
abbrev pub is_among : List ℕ → List (List ℕ) → Bool
is_among name names = list_any (λ t. bytes_eq t name) names

not_later : (here later : Bool) → (here || later) ≡ false → later ≡ false
not_later true later h = absurd (true≢false h)
not_later false later h = h

first_twice-head : (before : List (List ℕ)) (n : ℕ) (name : List ℕ) (rest : List (List ℕ)) → first_twice before n (name ∷ rest) ≡ None
    → (is_among name before ≡ false) × (first_twice (before ++ name ∷ []) (n + 1) rest ≡ None)
first_twice-head before n name rest h = by (is_among name before) refl
  where
    by : (b : Bool) → is_among name before ≡ b → (is_among name before ≡ false) × (first_twice (before ++ name ∷ []) (n + 1) rest ≡ None)
    by true e = let bad : Some n ≡ None = rw e at h in cc
    by false e = (e, rw e at h)

-- a name that is there once does not stand before its place
pub not_before : (before names : List (List ℕ)) (n i : ℕ) (d : List ℕ) → first_twice before n names ≡ None → i < length names → is_among (get_or names i d) (before ++ take i names) ≡ false
not_before before [] n i d h within = absurd (omega arith)
not_before before (name ∷ rest) n zero d h within = rw (append-nil before) ((first_twice-head before n name rest h).0)
not_before before (name ∷ rest) n (suc i) d h within =
    rw append_assoc at (not_before (before ++ name ∷ []) rest (n + 1) i d ((first_twice-head before n name rest h).1) (omega arith))

-- a new name goes last
pub insert_entry-new_name : {V : Type 0} (es : List (List ℕ × V)) (name : List ℕ) (v : V) → is_among name (keys_of es) ≡ false → insert_entry bytes_eq es name v ≡ es ++ (name, v) ∷ []
insert_entry-new_name [] name v h = refl
insert_entry-new_name {V} (e ∷ es) name v h = by (bytes_eq name e.0) (insert_entry-new_name es name v) refl
  where
    by : (b : Bool) → (is_among name (keys_of es) ≡ false → insert_entry bytes_eq es name v ≡ es ++ (name, v) ∷ [])
        → bytes_eq name e.0 ≡ b → insert_entry bytes_eq (e ∷ es) name v ≡ (e ∷ es) ++ (name, v) ∷ []
    by true rest is =
        let same : e.0 ≡ name = sym ((bytes_eq-Decides name e.0).0 is) in
        let there : is_among name (keys_of (e ∷ es)) ≡ true = rw ((bytes_eq-Decides e.0 name).1 same) refl in
        absurd (true≢false (sym there ∙ h))
    by false rest is = rw is (ap (λ later. e ∷ later) (rest (not_later (bytes_eq e.0 name) _ h)))

module _ {V : Type 0} (value : ℕ → List ℕ → V) where
  abbrev entries : ℕ → List (List ℕ) → List (List ℕ × V)
  entries from names = each_from from (λ place name. (name, value place name)) names

  keys_of-entries : (from : ℕ) (names : List (List ℕ)) → keys_of (entries from names) ≡ names
  keys_of-entries from [] = refl
  keys_of-entries from (name ∷ names) = ap (λ later. name ∷ later) (keys_of-entries (from + 1) names)

  -- the names so far and one more
  pub insert_entry-next : (names : List (List ℕ)) (i : ℕ) (name : List ℕ) (old new : List (List ℕ × V)) (v : V) → first_twice [] 1 names ≡ None → i < length names → name ≡ get_or names i name
      → old ≡ entries 0 (take i names) → v ≡ value i name → new ≡ insert_entry bytes_eq old name v → new ≡ entries 0 (take (i + 1) names)
  insert_entry-next names i name old new v distinct within is so_far is_value inserted =
      let fresh : is_among name (take i names) ≡ false = rw (← is) at (not_before [] names 1 i name distinct within) in
      let new_key : is_among name (keys_of old) ≡ false = ap (λ es. is_among name (keys_of es)) so_far ∙ ap (is_among name) (keys_of-entries 0 (take i names)) ∙ fresh in
      let grown : take (i + 1) names ≡ take i names ++ name ∷ [] = take_more names i name within ∙ ap (λ n. take i names ++ n ∷ []) (sym is) in
      let here : i ≡ 0 + length (take i names) = simp length-take (omega arith) in
      inserted ∙ insert_entry-new_name old name v new_key
      ∙ ap (λ es. es ++ (name, v) ∷ []) so_far
      ∙ ap (λ w. entries 0 (take i names) ++ (name, w) ∷ []) (is_value ∙ ap (λ n. value n name) here)
      ∙ sym (ap (entries 0) grown ∙ each_from-last 0 (λ place t. (t, value place t)) (take i names) name)
