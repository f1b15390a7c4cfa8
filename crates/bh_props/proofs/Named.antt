-- Names that are not bad.
use Rattle.std.proofs.Common.{◌≡◌, ℕ, zero, suc, ◌+◌, ◌<◌, ◌≤◌, List, [], ◌∷◌, length, map, get_or, codes, Bool, true, false, ◌&&◌, nat_le, Option, Some, None, option_and_then, Ok, Err, All, Bor, refl, sym, ap, true≢false, arith}
use Rattle.std.proofs.lemmas.List.{get_or-map, length-map}
use Rattle.std.proofs.lemmas.Bool.{leb-true}
use Rattle.toml.specs.Data.{Data, as_array}
use Rattle.bh_props.specs.Tree.{keys_of, look_up}
use Rattle.bh_props.specs.declared.error.SettingsError.TheVariants as refusals
use Rattle.bh_props.specs.Names.{is_name, first_bad, first_twice, texts, if_counted, listed, unless_twice, unless_bad, names_of}

all_names : (n : ℕ) (names : List (List ℕ)) (i : ℕ) (d : List ℕ) → first_bad n names ≡ None → i < length names → is_name (get_or names i d) ≡ true
all_names n [] i d h within = absurd (omega arith)
all_names n (name ∷ rest) zero d h within = by (is_name name) refl
  where
    by : (b : Bool) → is_name name ≡ b → is_name name ≡ true
    by true e = e
    by false e = let bad : Some n ≡ None = rw e at h in cc
all_names n (name ∷ rest) (suc i) d h within = by (is_name name) refl (λ g. all_names (n + 1) rest i d g (omega arith))
  where
    by : (b : Bool) → is_name name ≡ b → (first_bad (n + 1) rest ≡ None → is_name (get_or rest i d) ≡ true) → is_name (get_or rest i d) ≡ true
    by true e later = later (rw e at h)
    by false e later = let bad : Some n ≡ None = rw e at h in cc

left : (a b : Bool) → (a && b) ≡ true → a ≡ true
left true b h = refl
left false b h = absurd (true≢false (sym h))

right : (a b : Bool) → (a && b) ≡ true → b ≡ true
right true b h = h
right false b h = absurd (true≢false (sym h))

short : (name : List ℕ) → is_name name ≡ true → length name ≤ 32
short name h = leb-true (length name) 32 (right _ _ (left _ _ (left _ _ h)))

-- a text that may name a group has at most 32 bytes
pub names_fit : (names : List (Bor (List ℕ))) (i : ℕ) (d : Bor (List ℕ)) → first_bad 1 (map (λ s. s.now) names) ≡ None → i < length names → length (get_or names i d).now ≤ 32
names_fit names i d h within =
    let is = all_names 1 (map (λ s. s.now) names) i d.now h (simp length-map within) in
    short _ (rw (get_or-map (λ s. s.now) names i d d.now within) at is)

-- and so have all of the names
pub names_short : (names : List (List ℕ)) → first_bad 1 names ≡ None → All (λ name. length name ≤ 32) names
names_short names h i d within = short _ (all_names 1 names i d h within)

counted : (o : Option (List (List ℕ))) (xs : List (List ℕ)) → option_and_then if_counted o ≡ Some xs → length xs ≤ 1000
counted None xs h = let bad : None ≡ Some xs = h in cc
counted (Some ys) xs h = by (nat_le 1 (length ys) && nat_le (length ys) 1000) refl
  where
    by : (b : Bool) → (nat_le 1 (length ys) && nat_le (length ys) 1000) ≡ b → length xs ≤ 1000
    by true e =
        let same : Some ys ≡ Some xs = rw e at h in
        let few : length ys ≤ 1000 = leb-true (length ys) 1000 (right (nat_le 1 (length ys)) (nat_le (length ys) 1000) e) in
        let as_long : length ys ≡ length xs = ap length (inner same) in
        omega arith
      where
        inner : Some ys ≡ Some xs → ys ≡ xs
        inner e = cc
    by false e = let bad : None ≡ Some xs = rw e at h in cc

-- there are at most 1,000 groups
pub few_names : (d : Data) (names : List (List ℕ)) → names_of d ≡ Ok names → length names ≤ 1000
few_names d names h = by (listed d) refl
  where
    by_twice : (xs : List (List ℕ)) (o : Option ℕ) → unless_twice xs o ≡ Ok names → xs ≡ names
    by_twice xs None e = let same : Ok xs ≡ Ok names = e in cc
    by_twice xs (Some place) e = let bad : Err (refusals.TwiceNamed place) ≡ Ok names = e in cc

    by_bad : (xs : List (List ℕ)) (o : Option ℕ) → unless_bad xs o ≡ Ok names → xs ≡ names
    by_bad xs None e = by_twice xs (first_twice [] 1 xs) e
    by_bad xs (Some place) e = let bad : Err (refusals.BadName place) ≡ Ok names = e in cc

    by : (o : Option (List (List ℕ))) → listed d ≡ o → length names ≤ 1000
    by None e = let bad : Err refusals.NoGroups ≡ Ok names = rw e at h in cc
    by (Some xs) e =
        let same : xs ≡ names = by_bad xs (first_bad 1 xs) (rw e at h) in
        let few : length xs ≤ 1000 = counted (option_and_then texts (option_and_then as_array (look_up (keys_of (codes "service.groups")) d))) xs e in
        let as_long : length xs ≡ length names = ap length same in
        omega arith
