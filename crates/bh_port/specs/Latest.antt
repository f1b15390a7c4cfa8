-- The numbers that were noted last for names, each at the place that its name has by its hash.
use Rattle.std.specs.Prelude.{◌≡◌, ◌≤◌, ◌%◌, ℕ, List, Option, None, Some, nat_lt, option_and_then, replicate, slice_get, if◌then◌else◌}
use Rattle.std.specs.Hash.FoldHasher.{finish, initial, write}
use Rattle.bh_port.specs.declared.groups.Entry.{Entry}

abbrev pub places : ℕ
places = 4096

-- stands where no number was noted, and for each that is no lower
abbrev pub unknown : ℕ
unknown = 65535

abbrev pub place_of : List ℕ → ℕ
place_of name = finish (write initial name) % places

abbrev pub no_numbers : List ℕ
no_numbers = replicate places unknown

abbrev pub noted : ℕ → ℕ
noted number = if nat_lt number unknown then number else unknown

abbrev pub if_known : ℕ → Option ℕ
if_known number = if nat_lt number unknown then Some number else None

-- the number that was noted last at the place of the name
abbrev pub latest_at : List ℕ → List ℕ → Option ℕ
latest_at numbers name = option_and_then if_known (slice_get numbers (place_of name))

-- of the groups whose names have the same place, the one with the highest number is noted
abbrev pub AreLatest : List Entry → List ℕ → Type 0
AreLatest entries numbers = (number : ℕ) (entry : Entry) → slice_get entries number ≡ Some entry
    → (latest : ℕ) × (slice_get numbers (place_of entry.name) ≡ Some latest) × (noted number ≤ latest)
