-- The names of the groups, or why they are refused.
use Rattle.std.specs.Prelude.{ℕ, ◌+◌, List, [], ◌∷◌, ◌++◌, length, codes, Bool, not, ◌&&◌, ◌||◌, ◌==◌, nat_le, if◌then◌else◌, Option, Some, None, option_and_then, option_map, Result, Ok, Err}
use Rattle.std.specs.List.{list_all, list_any}
use Rattle.std.specs.Str.{bytes_eq}
use Rattle.toml.specs.Data.{Data, Items, no_items, item, as_str, as_array}
use Rattle.bh_props.specs.declared.error.SettingsError.{SettingsError}
use Rattle.bh_props.specs.declared.error.SettingsError.TheVariants as refusals
use Rattle.bh_props.specs.Tree.{keys_of, look_up}

-- the items, where each is a text
abbrev pub texts : Items → Option (List (List ℕ))
texts no_items = Some []
texts (item d ds) = option_and_then (λ s. option_map (λ rest. s ∷ rest) (texts ds)) (as_str d)

-- the texts, where there are 1 to 1,000
abbrev pub if_counted : List (List ℕ) → Option (List (List ℕ))
if_counted names = if nat_le 1 (length names) && nat_le (length names) 1000 then Some names else None

-- the texts that are listed as groups
abbrev pub listed : Data → Option (List (List ℕ))
listed d = option_and_then if_counted (option_and_then texts (option_and_then as_array (look_up (keys_of (codes "service.groups")) d)))

-- a letter of a bare TOML key
abbrev pub is_name_byte : ℕ → Bool
is_name_byte b = (nat_le 65 b && nat_le b 90) || (nat_le 97 b && nat_le b 122) || (nat_le 48 b && nat_le b 57) || (b == 95) || (b == 45)

-- a text that may name a group
abbrev pub is_name : List ℕ → Bool
is_name s = nat_le 1 (length s) && nat_le (length s) 32 && list_all is_name_byte s && not (bytes_eq s (codes "default"))

-- the place of the first that is no name, where the first place is n
abbrev pub first_bad : ℕ → List (List ℕ) → Option ℕ
first_bad n [] = None
first_bad n (s ∷ rest) = if is_name s then first_bad (n + 1) rest else Some n

-- the place of the first that is among those before it, where the first place is n
abbrev pub first_twice : List (List ℕ) → ℕ → List (List ℕ) → Option ℕ
first_twice before n [] = None
first_twice before n (s ∷ rest) = if list_any (λ t. bytes_eq t s) before then Some n else first_twice (before ++ s ∷ []) (n + 1) rest

-- the names, unless one is there twice
abbrev pub unless_twice : List (List ℕ) → Option ℕ → Result (List (List ℕ)) SettingsError
unless_twice names (Some place) = Err (refusals.TwiceNamed place)
unless_twice names None = Ok names

-- the names, unless one is bad, or there twice
abbrev pub unless_bad : List (List ℕ) → Option ℕ → Result (List (List ℕ)) SettingsError
unless_bad names (Some place) = Err (refusals.BadName place)
unless_bad names None = unless_twice names (first_twice [] 1 names)

-- the names, if there are any
abbrev pub if_listed : Option (List (List ℕ)) → Result (List (List ℕ)) SettingsError
if_listed None = Err refusals.NoGroups
if_listed (Some names) = unless_bad names (first_bad 1 names)

-- the names of the groups, in listed order
abbrev pub names_of : Data → Result (List (List ℕ)) SettingsError
names_of d = if_listed (listed d)
