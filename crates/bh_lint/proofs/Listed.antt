-- The groups and the further commands of a file, as subjects.
use Rattle.std.proofs.Common.{◌≡◌, ◌≤◌, ◌<◌, ◌+◌, ◌==◌, ℕ, zero, suc, List, [], ◌∷◌, ◌++◌, length, map, codes, Bool, true, false, ◌&&◌, ◌||◌, Option, Some, None, Ok, Err, nat_le, refl, sym, ap, subst, ◌∙◌, inl, inr, arith}
use Rattle.std.specs.Prelude.{option_and_then}
use Rattle.std.proofs.lemmas.Bool.{and_parts, and_from, and_right, or_cases, or_left, or_right, false≢true, eq-eqb, le-leb, leb-true}
use Rattle.std.proofs.lemmas.List.Folds.{list_any-append}
use Rattle.std.proofs.lemmas.Slice.Eq.{bytes_eq-Decides}
use Rattle.std.specs.List.{AllByRecursion, list_any, flat_map}
use Rattle.std.specs.Map.{keys_of as entry_keys}
use Rattle.std.specs.Str.{bytes_eq}
use Rattle.toml.specs.Data.{Data, as_array}
use Rattle.bh_base.specs.Commands.{each_from}
use Rattle.bh_props.specs.declared.error.SettingsError.TheVariants as refusals
use Rattle.bh_props.specs.declared.subject.Subject.{Subject}
use Rattle.bh_props.specs.Tree.{keys_of, look_up}
use Rattle.bh_props.specs.Names.{is_name, texts, if_counted, listed, first_bad, first_twice, unless_twice, unless_bad, names_of}
use Rattle.bh_props.specs.Commands.{Commands, commands_in, entries_of, is_free, next_command, commands_from, commands_of}
use Rattle.bh_props.specs.Subjects.{a_command, subjects_at, subjects}
use Rattle.bh_props.proofs.Known.{IsNumbered, commands_of-numbered}
use Rattle.bh_lint.specs.Table.{is_further}
use Rattle.bh_lint.proofs.Any.{together, other-way, any-front, any-back, any-filter, filter-any, each-more}
use Rattle.bh_lint.proofs.Tables.{any-map}
use Rattle.bh_lint.proofs.Ways.{with_pool}

-- there is a group, each further command is of one, and has a short name
pub record AreListed (names : List (List ℕ)) (commands : Commands) : Type 0 where
  pub some : nat_le 1 (length names) ≡ true
  pub placed : AllByRecursion (λ c. c.1.0 < length names) commands
  pub short : AllByRecursion (λ c. length c.0 ≤ 32) commands

-- Names of subjects.

-- the subjects of some groups, where the first place is given
abbrev pub rows : Commands → ℕ → List (List ℕ) → List Subject
rows commands from names = flat_map (λ some. some) (each_from from (subjects_at commands) names)

-- the further commands of a group
abbrev pub those_at : Commands → ℕ → List Subject
those_at commands place = map (λ c. a_command c.0) (commands_in place commands)

module _ (commands : Commands) (f : List ℕ → Bool) where
  -- one of the groups or of the further commands passes
  abbrev either : List (List ℕ) → Bool
  either names = list_any f names || list_any (λ c. f c.0) commands

  at-place-some : (place : ℕ) → list_any (λ s. f s.name) (those_at commands place) ≡ true → list_any (λ c. f c.0) commands ≡ true
  at-place-some place h = any-filter (λ c. c.1.0 == place) (λ c. f c.0) commands (any-map (λ s. f s.name) (λ c. a_command c.0) (commands_in place commands) ∙ h)

  rows-either : (from : ℕ) (names : List (List ℕ)) (r : Bool) → (list_any f names ≡ true → r ≡ true) → (list_any (λ c. f c.0) commands ≡ true → r ≡ true)
      → list_any (λ s. f s.name) (rows commands from names) ≡ true → r ≡ true
  rows-either from [] r group further h = absurd (false≢true h)
  rows-either from (n ∷ names) r group further h =
      elim (or_cases (f n) (list_any (λ s. f s.name) (those_at commands from ++ rows commands (from + 1) names)) h) [
        | inl here ↦ group (or_left (f n) (list_any f names) here)
        | inr later ↦ elim (or_cases (list_any (λ s. f s.name) (those_at commands from)) (list_any (λ s. f s.name) (rows commands (from + 1) names))
            (sym (list_any-append (λ s. f s.name) (those_at commands from) (rows commands (from + 1) names)) ∙ later)) [
              | inl there ↦ further (at-place-some from there)
              | inr rest ↦ rows-either (from + 1) names r (λ e. group (or_right (f n) (list_any f names) e)) further rest
            ]
      ]

  groups-rows : (from : ℕ) (names : List (List ℕ)) → list_any f names ≡ true → list_any (λ s. f s.name) (rows commands from names) ≡ true
  groups-rows from [] h = absurd (false≢true h)
  groups-rows from (n ∷ names) h =
      elim (or_cases (f n) (list_any f names) h) [
        | inl here ↦ or_left (f n) (list_any (λ s. f s.name) (those_at commands from ++ rows commands (from + 1) names)) here
        | inr later ↦ or_right (f n) (list_any (λ s. f s.name) (those_at commands from ++ rows commands (from + 1) names))
            (any-back (λ s. f s.name) (those_at commands from) (rows commands (from + 1) names) (groups-rows (from + 1) names later))
      ]

  place-rows : (from place : ℕ) (names : List (List ℕ)) → place < length names → list_any (λ s. f s.name) (those_at commands (from + place)) ≡ true
      → list_any (λ s. f s.name) (rows commands from names) ≡ true
  place-rows from place [] within h = absurd (omega arith)
  place-rows from zero (n ∷ names) within h =
      let here : from + 0 ≡ from = omega arith in
      or_right (f n) (list_any (λ s. f s.name) (those_at commands from ++ rows commands (from + 1) names))
      (any-front (λ s. f s.name) (those_at commands from) (rows commands (from + 1) names)
      (subst (λ (p : ℕ). list_any (λ s. f s.name) (those_at commands p) ≡ true) here h))
  place-rows from (suc place) (n ∷ names) within h =
      let there : from + suc place ≡ from + 1 + place = omega arith in
      or_right (f n) (list_any (λ s. f s.name) (those_at commands from ++ rows commands (from + 1) names))
      (any-back (λ s. f s.name) (those_at commands from) (rows commands (from + 1) names)
      (place-rows (from + 1) place names (omega arith) (subst (λ (p : ℕ). list_any (λ s. f s.name) (those_at commands p) ≡ true) there h)))

  placed-at : (groups : ℕ) (some : Commands) → AllByRecursion (λ c. c.1.0 < groups) some → list_any (λ c. f c.0) some ≡ true
      → (place : ℕ) × (place < groups) × (list_any (λ c. (c.1.0 == place) && f c.0) some ≡ true)
  placed-at groups [] h some = absurd (false≢true some)
  placed-at groups (c ∷ rest) h some =
      elim (or_cases (f c.0) (list_any (λ x. f x.0) rest) some) [
        | inl here ↦ (c.1.0, h.0, or_left ((c.1.0 == c.1.0) && f c.0) (list_any (λ x. (x.1.0 == c.1.0) && f x.0) rest) (and_from (c.1.0 == c.1.0) (f c.0) (eq-eqb c.1.0 c.1.0 refl) here))
        | inr later ↦ let found = placed-at groups rest h.1 later in
            (found.0, found.1, or_right ((c.1.0 == found.0) && f c.0) (list_any (λ x. (x.1.0 == found.0) && f x.0) rest) found.2)
      ]

  further-rows : (names : List (List ℕ)) → AllByRecursion (λ c. c.1.0 < length names) commands → list_any (λ c. f c.0) commands ≡ true → list_any (λ s. f s.name) (subjects names commands) ≡ true
  further-rows names h some =
      let found = placed-at (length names) commands h some in
      let start : found.0 ≡ 0 + found.0 = omega arith in
      let there = filter-any (λ c. c.1.0 == found.0) (λ c. f c.0) commands found.2 in
      place-rows 0 found.0 names found.1
      (subst (λ (p : ℕ). list_any (λ s. f s.name) (those_at commands p) ≡ true) start
      (sym (any-map (λ s. f s.name) (λ c. a_command c.0) (commands_in found.0 commands)) ∙ there))

  -- a subject's name passes where that of a group or of a further command does
  pub any-subject : (names : List (List ℕ)) → AllByRecursion (λ c. c.1.0 < length names) commands
      → list_any (λ s. f s.name) (subjects names commands) ≡ (list_any f names || list_any (λ c. f c.0) commands)
  any-subject names h =
      together (list_any (λ s. f s.name) (subjects names commands)) (either names)
      (rows-either 0 names (either names) (or_left (list_any f names) (list_any (λ c. f c.0) commands)) (or_right (list_any f names) (list_any (λ c. f c.0) commands)))
      (λ e. elim (or_cases (list_any f names) (list_any (λ c. f c.0) commands) e) [ inl group ↦ groups-rows 0 names group | inr further ↦ further-rows names h further ])

  no-pools : (some : Commands) → list_any (λ s. with_pool s.scope (f s.name)) (map (λ c. a_command c.0) some) ≡ false
  no-pools [] = refl
  no-pools (c ∷ rest) = no-pools rest

  pools-rows : (from : ℕ) (names : List (List ℕ)) → list_any (λ s. with_pool s.scope (f s.name)) (rows commands from names) ≡ list_any f names
  pools-rows from [] = refl
  pools-rows from (n ∷ names) =
      ap (λ later. f n || later)
      (list_any-append (λ s. with_pool s.scope (f s.name)) (those_at commands from) (rows commands (from + 1) names)
      ∙ ap (λ b. b || list_any (λ s. with_pool s.scope (f s.name)) (rows commands (from + 1) names)) (no-pools (commands_in from commands))
      ∙ pools-rows (from + 1) names)

  -- of those that have a pool, where that of a group does
  pub any-pool : (names : List (List ℕ)) → list_any (λ s. with_pool s.scope (f s.name)) (subjects names commands) ≡ list_any f names
  any-pool names = pools-rows 0 names

-- Names of further commands.

fits : (key : List ℕ) (commands : Commands) → AllByRecursion (λ c. length c.0 ≤ 32) commands → list_any (λ c. bytes_eq c.0 key) commands ≡ true → length key ≤ 32
fits key [] h some = absurd (false≢true some)
fits key (c ∷ rest) h some =
    elim (or_cases (bytes_eq c.0 key) (list_any (λ x. bytes_eq x.0 key) rest) some) [
      | inl here ↦ subst (λ (s : List ℕ). length s ≤ 32) ((bytes_eq-Decides c.0 key).0 here) h.0
      | inr later ↦ fits key rest h.1 later
    ]

-- a further command has the name
pub any-further : (key : List ℕ) (commands : Commands) → AllByRecursion (λ c. length c.0 ≤ 32) commands → list_any (λ c. bytes_eq c.0 key) commands ≡ is_further commands key
any-further key commands h = turned ∙ by (list_any (bytes_eq key) (entry_keys commands)) refl
  where
    turned : list_any (λ c. bytes_eq c.0 key) commands ≡ list_any (bytes_eq key) (entry_keys commands)
    turned = (λ i. list_any (λ c. other-way c.0 key i) commands) ∙ any-map (bytes_eq key) (λ c. c.0) commands

    by : (b : Bool) → list_any (bytes_eq key) (entry_keys commands) ≡ b → list_any (bytes_eq key) (entry_keys commands) ≡ is_further commands key
    by true e = e ∙ sym (and_from (nat_le (length key) 32) (list_any (bytes_eq key) (entry_keys commands)) (le-leb (length key) 32 (fits key commands h (turned ∙ e))) e)
    by false e = e ∙ sym (and_right (nat_le (length key) 32) (list_any (bytes_eq key) (entry_keys commands)) e)

-- What is read is listed.

short-name : (name : List ℕ) → is_name name ≡ true → length name ≤ 32
short-name name h = leb-true (length name) 32 (and_parts _ _ (and_parts _ _ (and_parts _ _ h).0).0).1

all-last : {X : Type 0} (P : X → Type 0) (xs : List X) (x : X) → AllByRecursion P xs → P x → AllByRecursion P (xs ++ x ∷ [])
all-last P [] x h p = (p, tt)
all-last P (y ∷ xs) x h p = (h.0, all-last P xs x h.1 p)

free-next : (groups : List (List ℕ)) (before : Commands) (name : List ℕ) (d : Data) (c : ℕ × ℕ) → next_command groups before name d ≡ Some c → length name ≤ 32
free-next groups before name d c is = by (is_free groups name) refl
  where
    by : (b : Bool) → is_free groups name ≡ b → length name ≤ 32
    by true e = short-name name (and_parts _ _ e).0
    by false e = let bad : None ≡ Some c = rw e at is in cc

short-from : (groups : List (List ℕ)) (before : Commands) (es : List (List ℕ × Data)) (commands : Commands) → AllByRecursion (λ c. length c.0 ≤ 32) before → commands_from groups before es ≡ Ok commands
    → AllByRecursion (λ c. length c.0 ≤ 32) commands
short-from groups before [] commands h is = let same : before ≡ commands = cc in subst (λ (some : Commands). AllByRecursion (λ c. length c.0 ≤ 32) some) same h
short-from groups before (e ∷ es) commands h is = by (next_command groups before e.0 e.1) refl (λ more. short-from groups more es commands)
  where
    by : (o : Option (ℕ × ℕ)) → next_command groups before e.0 e.1 ≡ o
        → ((more : Commands) → AllByRecursion (λ c. length c.0 ≤ 32) more → commands_from groups more es ≡ Ok commands → AllByRecursion (λ c. length c.0 ≤ 32) commands)
        → AllByRecursion (λ c. length c.0 ≤ 32) commands
    by None next later = let bad : Err (refusals.BadCommand (length before + 1)) ≡ Ok commands = rw next at is in cc
    by (Some c) next later =
        later (before ++ (e.0, c) ∷ []) (all-last (λ x. length x.0 ≤ 32) before (e.0, c) h (free-next groups before e.0 e.1 c next)) (rw next at is)

counted : (o : Option (List (List ℕ))) (xs : List (List ℕ)) → option_and_then if_counted o ≡ Some xs → nat_le 1 (length xs) ≡ true
counted None xs h = let bad : None ≡ Some xs = h in cc
counted (Some ys) xs h = by (nat_le 1 (length ys) && nat_le (length ys) 1000) refl
  where
    by : (b : Bool) → (nat_le 1 (length ys) && nat_le (length ys) 1000) ≡ b → nat_le 1 (length xs) ≡ true
    by true e =
        let same : Some ys ≡ Some xs = rw e at h in
        subst (λ (s : List (List ℕ)). nat_le 1 (length s) ≡ true) (inner same) (and_parts (nat_le 1 (length ys)) (nat_le (length ys) 1000) e).0
      where
        inner : Some ys ≡ Some xs → ys ≡ xs
        inner e = cc
    by false e = let bad : None ≡ Some xs = rw e at h in cc

-- a file that is read names a group
pub some-names : (d : Data) (names : List (List ℕ)) → names_of d ≡ Ok names → nat_le 1 (length names) ≡ true
some-names d names h = by (listed d) refl
  where
    by_twice : (xs : List (List ℕ)) (o : Option ℕ) → unless_twice xs o ≡ Ok names → xs ≡ names
    by_twice xs None e = let same : Ok xs ≡ Ok names = e in cc
    by_twice xs (Some place) e = let bad : Err (refusals.TwiceNamed place) ≡ Ok names = e in cc

    by_bad : (xs : List (List ℕ)) (o : Option ℕ) → unless_bad xs o ≡ Ok names → xs ≡ names
    by_bad xs None e = by_twice xs (first_twice [] 1 xs) e
    by_bad xs (Some place) e = let bad : Err (refusals.BadName place) ≡ Ok names = e in cc

    by : (o : Option (List (List ℕ))) → listed d ≡ o → nat_le 1 (length names) ≡ true
    by None e = let bad : Err refusals.NoGroups ≡ Ok names = rw e at h in cc
    by (Some xs) e =
        let same : xs ≡ names = by_bad xs (first_bad 1 xs) (rw e at h) in
        subst (λ (s : List (List ℕ)). nat_le 1 (length s) ≡ true) same
        (counted (option_and_then texts (option_and_then as_array (look_up (keys_of (codes "service.groups")) d))) xs e)

-- with no further commands
pub none-listed : (d : Data) (names : List (List ℕ)) → names_of d ≡ Ok names → AreListed names []
none-listed d names h = record { some = some-names d names h; placed = tt; short = tt }

-- with those of the file
pub all-listed : (d : Data) (names : List (List ℕ)) (commands : Commands) → names_of d ≡ Ok names → commands_of names d ≡ Ok commands → AreListed names commands
all-listed d names commands h is = record {
  some = some-names d names h;
  placed = each-more (IsNumbered (length names) commands) (λ c. c.1.0 < length names) (λ c numbered. numbered.0) commands (commands_of-numbered names d commands is).known;
  short = short-from names [] (entries_of (look_up (keys_of (codes "service.command")) d)) commands tt is;
}
