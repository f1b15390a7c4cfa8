-- The columns of a track, by their indexes.
use Rattle.std.proofs.Common.{◌≡◌, ◌≢◌, ◌+◌, ◌-◌, ◌*◌, ◌/◌, ◌^◌, ◌<◌, ◌≤◌, inl, inr, Bool, true, false, ℕ, suc, Some, None, List, length, set, get_or, sym, ap, subst, ◌∙◌, arith}
use Rattle.std.specs.Prelude.{◌&&◌, nat_le, nat_lt, max, min, if◌then◌else◌}
use Rattle.std.specs.Vec.{with_item}
use Rattle.std.proofs.Math.Nat.{div-mul-le_self, lt-div-mul-add, mul-le-mul_right, suc-mul}
use Rattle.std.proofs.lemmas.Bool.{cases_lt, le-ltb}
use Rattle.std.proofs.lemmas.Bool.Decides.{nat_tests}
use Rattle.std.proofs.lemmas.List.{get_or-set_other, get_or-set_same, get_or_default, get_or_past}
use Rattle.bh_port.proofs.Keeping.{either}
use Rattle.bh_look.specs.declared.tally.Tally.{Tally}
use Rattle.bh_columns.specs.Columns.{no_column, usage_added, usage_of, with_stay, with_told_at, with_usage}
use Rattle.bh_columns.proofs.Filling.{time_none, told_before, told_behind, told_here}
use Rattle.bh_columns.specs.Spans.{stay_within, with_told_within}
use Rattle.bh_columns.specs.Tracks.{HasRoom, IsReach, IsSpentAt, IsToldAt, column_at, place_at, with_stay_in}
use Rattle.bh_columns.specs.declared.column.Column.{Column}
use Rattle.bh_columns.specs.declared.stay.Stay.{Stay}
use Rattle.bh_columns.specs.declared.track.Reach.{Reach}
use Rattle.bh_columns.specs.declared.track.Track.{Track}

-- the column of an index, by a list of columns and the index of the first
abbrev pub column_in : ℕ → List Column → ℕ → Column
column_in first columns index = if nat_le first index && nat_lt index (2 ^ 64) then get_or columns (index - first) no_column else no_column

shown_test : (first index : ℕ) → first ≤ index → index < 2 ^ 64 → (nat_le first index && nat_lt index (2 ^ 64)) ≡ true
shown_test first index le lt = grind (arith, nat_tests)

pub shown_at : (first : ℕ) (columns : List Column) (index : ℕ) → first ≤ index → index < 2 ^ 64 → column_in first columns index ≡ get_or columns (index - first) no_column
shown_at first columns index le lt = ap (λ t. if t then get_or columns (index - first) no_column else no_column) (shown_test first index le lt)

before_test : (first index : ℕ) → index < first → (nat_le first index && nat_lt index (2 ^ 64)) ≡ false
before_test first index lt = grind (arith, nat_tests)

pub none_before : (first : ℕ) (columns : List Column) (index : ℕ) → index < first → column_in first columns index ≡ no_column
none_before first columns index lt = ap (λ t. if t then get_or columns (index - first) no_column else no_column) (before_test first index lt)

past_test : (first index : ℕ) → 2 ^ 64 ≤ index → (nat_le first index && nat_lt index (2 ^ 64)) ≡ false
past_test first index le = grind (arith, nat_tests)

pub none_beyond : (first : ℕ) (columns : List Column) (index : ℕ) → 2 ^ 64 ≤ index → column_in first columns index ≡ no_column
none_beyond first columns index le = ap (λ t. if t then get_or columns (index - first) no_column else no_column) (past_test first index le)

pub none_past : (first : ℕ) (columns : List Column) (index : ℕ) → first + length columns ≤ index → column_in first columns index ≡ no_column
none_past first columns index past = elim (cases_lt index (2 ^ 64)) [
  | inl lt ↦ shown_at first columns index (omega (arith, past)) lt ∙ get_or_past columns (index - first) no_column (omega (arith, past))
  | inr le ↦ none_beyond first columns index le
]

-- two lists that read the same at a place
pub same_read : (first : ℕ) (xs ys : List Column) (index : ℕ) → get_or xs (index - first) no_column ≡ get_or ys (index - first) no_column → column_in first xs index ≡ column_in first ys index
same_read first xs ys index same = ap (λ c. if nat_le first index && nat_lt index (2 ^ 64) then c else no_column) same

-- one column is another
pub set_at : (first : ℕ) (columns : List Column) (place : ℕ) (c : Column) (index : ℕ) → place < length columns → index ≡ first + place → index < 2 ^ 64 → column_in first (set columns place c) index ≡ c
set_at first columns place c index inside is lt =
    let here : index - first ≡ place = omega (arith, is) in
    shown_at first (set columns place c) index (omega (arith, is)) lt ∙ ap (λ k. get_or (set columns place c) k no_column) here ∙ get_or-set_same columns place c no_column inside

pub set_elsewhere : (first : ℕ) (columns : List Column) (place : ℕ) (c : Column) (index : ℕ) → index ≢ first + place → column_in first (set columns place c) index ≡ column_in first columns index
set_elsewhere first columns place c index differ = elim (cases_lt index first) [
  | inl lt ↦ none_before first (set columns place c) index lt ∙ sym (none_before first columns index lt)
  | inr le ↦ same_read first (set columns place c) columns index (get_or-set_other columns place (index - first) c no_column (λ same. differ (omega (arith, le, same))))
]

-- a stay of no millisecond adds nothing
usage_none : (s : Stay) (c : Column) → s.until ≤ s.since → with_usage s c ≡ c
usage_none s c none = ap (λ t. if t then record c { usage = usage_added c.usage (usage_of s) } else c) (le-ltb s.since s.until none)

pub stay_none : (s : Stay) (c : Column) → s.until ≤ s.since → with_stay s c ≡ c
stay_none s c none = ap (with_usage s) (time_none s.since s.until s.circuit c none) ∙ usage_none s c none

-- the columns before those in which a stay lies, and those behind them, have nothing of it
pub stay_before : (r : Reach) (s : Stay) (index : ℕ) (c : Column) → IsReach r s.since s.until → index < r.first → with_stay_in r.width index s c ≡ c
stay_before r s index c reach lt =
    let most : s.since / r.width * r.width ≤ s.since = div-mul-le_self s.since r.width in
    let less : suc index * r.width ≤ s.since / r.width * r.width = mul-le-mul_right r.width (omega (arith, lt, reach.first)) in
    let one : suc index * r.width ≡ index * r.width + r.width = suc-mul index r.width in
    stay_none (stay_within (index * r.width) (index * r.width + r.width) s) c (omega (arith, most, less, one))

pub stay_behind : (r : Reach) (s : Stay) (index : ℕ) (c : Column) → IsReach r s.since s.until → r.end ≤ index → with_stay_in r.width index s c ≡ c
stay_behind r s index c reach le =
    let last = (s.until - 1) / r.width in
    let below : s.until - 1 < last * r.width + r.width = lt-div-mul-add reach.some_width in
    let one : suc last * r.width ≡ last * r.width + r.width = suc-mul last r.width in
    let more : suc last * r.width ≤ index * r.width = mul-le-mul_right r.width (omega (arith, le, reach.end)) in
    stay_none (stay_within (index * r.width) (index * r.width + r.width) s) c (omega (arith, below, one, more, reach.some_time))

-- the first moment of a column in which a stay lies is before its end
pub begins_within : (r : Reach) (since until index : ℕ) → IsReach r since until → index < r.end → index * r.width < until
begins_within r since until index reach lt =
    let last = (until - 1) / r.width in
    let most : last * r.width ≤ until - 1 = div-mul-le_self (until - 1) r.width in
    let less : index * r.width ≤ last * r.width = mul-le-mul_right r.width (omega (arith, lt, reach.end)) in
    omega (arith, most, less, reach.some_time)

-- what a step told, in the column of its moment
pub told_columns : (old new : Track) (width index moment : ℕ) (told : Tally) (closed : Bool) → 0 < width → index ≡ moment / width → IsToldAt index moment told closed old new
    → (i : ℕ) → column_at new i ≡ with_told_within (i * width) (i * width + width) moment told closed (column_at old i)
told_columns old new width index moment told closed some is noted i = elim (either i index) [
  | inl here ↦ (
      let at : i ≡ moment / width = here ∙ is in
      let from : i * width ≤ moment = subst (λ k. k * width ≤ moment) (sym at) (div-mul-le_self moment width) in
      let to : moment < i * width + width = subst (λ k. moment < k * width + width) (sym at) (lt-div-mul-add some) in
      ap (column_at new) here ∙ noted.here ∙ ap (λ k. with_told_at moment told closed (column_at old k)) (sym here) ∙ sym (told_here moment told closed (i * width) (i * width + width) (column_at old i) from to))
  | inr differ ↦ noted.other i differ ∙ sym (elim (cases_lt i index) [
    | inl before ↦ (
        let most : index * width ≤ moment = subst (λ k. k * width ≤ moment) (sym is) (div-mul-le_self moment width) in
        let less : suc i * width ≤ index * width = mul-le-mul_right width (omega (arith, before)) in
        let one : suc i * width ≡ i * width + width = suc-mul i width in
        told_behind moment told closed (i * width) (i * width + width) (column_at old i) (omega (arith, most, less, one)))
    | inr past ↦ (
        let below : moment < index * width + width = subst (λ k. moment < k * width + width) (sym is) (lt-div-mul-add some) in
        let more : suc index * width ≤ i * width = mul-le-mul_right width (omega (arith, past, differ)) in
        let one : suc index * width ≡ index * width + width = suc-mul index width in
        told_before moment told closed (i * width) (i * width + width) (column_at old i) (omega (arith, below, more, one)))
  ])
]

-- the part of a stay in a column, where its end is not counted beyond the greatest moment
pub part_is : (s : Stay) (begin width : ℕ) → s.until < 2 ^ 64 → stay_within begin (min (begin + width) (2 ^ 64 - 1)) s ≡ stay_within begin (begin + width) s
part_is s begin width small = let e : min s.until (min (begin + width) (2 ^ 64 - 1)) ≡ min s.until (begin + width) = omega (arith, small) in ap (λ n. record s { since = max s.since begin; until = n }) e

-- the column at hand has the part of a stay that lies in it
pub spent_here : (old mid new : Track) (r : Reach) (s part : Stay) (index begin end : ℕ) → IsReach r s.since s.until → index < r.end → begin ≡ min (index * r.width) (2 ^ 64 - 1) → end ≡ min (begin + r.width) (2 ^ 64 - 1)
    → part ≡ stay_within begin end s → IsSpentAt index part mid new → column_at mid index ≡ column_at old index → column_at new index ≡ with_stay_in r.width index s (column_at old index)
spent_here old mid new r s part index begin end reach inside begin_is end_is part_of spent same =
    let lt : index * r.width < s.until = begins_within r s.since s.until index reach inside in
    let small : s.until < 2 ^ 64 = reach.fits in
    let b : begin ≡ index * r.width = omega (arith, begin_is, lt, small) in
    let whole : part ≡ stay_within (index * r.width) (index * r.width + r.width) s =
    part_of ∙ ap (λ e. stay_within begin e s) end_is ∙ ap (λ n. stay_within n (min (n + r.width) (2 ^ 64 - 1)) s) b ∙ part_is s (index * r.width) r.width small in
    spent.here ∙ (λ i. with_stay (whole i) (same i))

-- the column of an index is another, with what a step told
pub told_set : (t : Track) (index place moment : ℕ) (told : Tally) (closed : Bool) (was now : Column) → HasRoom t index (index + 1) → index < 2 ^ 64 → place_at t index ≡ Some place
    → was ≡ get_or t.columns.items place was → now ≡ with_told_at moment told closed was → IsToldAt index moment told closed t (record { first = t.first; columns = with_item t.columns place now })
told_set t index place moment told closed was now room small at read is =
    let found : place_at t index ≡ Some (index - t.first) = ap (λ b. if b then Some (index - t.first) else None) (room_test t index room) in
    let both : Some place ≡ Some (index - t.first) = sym at ∙ found in
    let same : place ≡ index - t.first = cc in
    let inside : place < length t.columns.items = omega (arith, same, room.begin, room.end) in
    let here : index ≡ t.first + place = omega (arith, same, room.begin) in
    let had : was ≡ column_at t index =
    read ∙ get_or_default t.columns.items place was no_column inside ∙ ap (λ k. get_or t.columns.items k no_column) same ∙ sym (shown_at t.first t.columns.items index room.begin small) in
    record {
      here = set_at t.first t.columns.items place now index inside here small ∙ is ∙ ap (with_told_at moment told closed) had;
      other = λ i differ. set_elsewhere t.first t.columns.items place now i (λ e. differ (e ∙ sym here));
    }
  where
    room_test : (u : Track) (i : ℕ) → HasRoom u i (i + 1) → (nat_le u.first i && nat_lt (i - u.first) (length u.columns.items)) ≡ true
    room_test u i r = let a = r.begin in let b = r.end in grind (arith, nat_tests)
