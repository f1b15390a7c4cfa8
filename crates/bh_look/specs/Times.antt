-- How long some requests took, and what is told of that.
use Rattle.std.specs.Prelude.{◌≡◌, ℕ, ◌+◌, ◌-◌, ◌*◌, ◌^◌, ◌/◌, ◌%◌, ◌<◌, ◌≤◌, Bool, ◌&&◌, nat_lt, nat_le, min, max, List, [], ◌∷◌, All, length, slice_index, count_by, Option, Some, None, is_some, IfSome, if◌then◌else◌}
use Rattle.bh_look.specs.declared.table.TimesTold.{TimesTold}

-- where a grade of times begins: those below 128 have one each, and of those beyond, 128 share each power of two
unfoldable pub begin : ℕ → ℕ
begin grade = if nat_lt grade 128 then grade else (grade % 128 + 128) * 2 ^ (grade / 128 - 1)

-- whether a time is of the grade
abbrev pub is_graded : ℕ → ℕ → Bool
is_graded grade t = nat_le (begin grade) t && nat_lt t (begin (grade + 1))

-- the least of the times, or the most that there can be
abbrev pub least_of : List ℕ → ℕ
least_of [] = 18_446_744_073_709_551_615
least_of (t ∷ ts) = min t (least_of ts)

-- the greatest of the times, or 0
abbrev pub most_of : List ℕ → ℕ
most_of [] = 0
most_of (t ∷ ts) = max t (most_of ts)

-- what is kept: how many times there are, the least and the greatest, and how many there are of each grade
pub record TimesView : Type 0 where
  pub count : ℕ
  pub least : ℕ
  pub most : ℕ
  pub numbers : List ℕ

-- this is what is kept of these times
pub record AreTimes (ts : List ℕ) (v : TimesView) : Type 0 where
  pub count : v.count ≡ length ts
  pub least : v.least ≡ least_of ts
  pub most : v.most ≡ most_of ts
  pub numbers : (grade : ℕ) → slice_index v.numbers grade ≡ count_by (is_graded grade) ts
  pub graded : All (λ t. t < begin (length v.numbers)) ts

-- the least, where there is one
abbrev pub least_told : List ℕ → Option ℕ
least_told [] = None
least_told (t ∷ ts) = Some (least_of (t ∷ ts))

-- the greatest, where there is one
abbrev pub most_told : List ℕ → Option ℕ
most_told [] = None
most_told (t ∷ ts) = Some (most_of (t ∷ ts))

-- the time is of this rank, from 1 by rising time: fewer are less, and so many are no greater
pub record IsOfRank (rank : ℕ) (ts : List ℕ) (x : ℕ) : Type 0 where
  pub under : count_by (λ t. nat_lt t x) ts < rank
  pub reached : rank ≤ count_by (λ t. nat_le t x) ts

-- what is told is within one percent of the time
pub record IsNear (told x : ℕ) : Type 0 where
  pub above : 100 * told ≤ 101 * x
  pub below : 99 * x ≤ 100 * told

-- what is told of a rank: something where there is a time at all, and that is within one percent of the time of the rank
pub record TellsRank (rank : ℕ) (ts : List ℕ) (told : Option ℕ) : Type 0 where
  pub some : is_some told ≡ nat_lt 0 (length ts)
  pub near : IfSome told (λ t. (x : ℕ) → IsOfRank rank ts x → IsNear t x)

-- what is told of these times
pub record TellsTimes (ts : List ℕ) (told : TimesTold) : Type 0 where
  pub least : told.least ≡ least_told ts
  pub median : TellsRank (length ts / 2 + length ts % 2) ts told.median
  pub percentile_99 : TellsRank (length ts - length ts / 100) ts told.percentile_99
  pub most : told.most ≡ most_told ts
