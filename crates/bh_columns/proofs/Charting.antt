-- What a picture is drawn from, and what happened.
use Rattle.std.proofs.Common.{◌≡◌, ◌+◌, ◌-◌, ◌*◌, ◌/◌, ◌^◌, ◌<◌, ◌≤◌, ◌⊎◌, inl, inr, ℕ, suc, List, [], ◌∷◌, ◌++◌, length, Option, Some, None, refl, sym, ap, subst, ◌∙◌, arith, length-append}
use Rattle.std.specs.Prelude.{slice_get}
use Rattle.std.proofs.Math.Nat.{add-mul, div-mul-le_self, lt-div-mul-add, mul-le-mul_left, mul-le-mul_right, mul_comm, pow-le-pow_right, suc-mul}
use Rattle.std.proofs.lemmas.Bool.{cases_lt}
use Rattle.std.proofs.lemmas.Grind.{pow_more}
use Rattle.std.proofs.lemmas.Option.{slice_get_within}
use Rattle.bh_port.proofs.Keeping.{either}
use Rattle.bh_port.proofs.Lists.{push_before, push_here, read_within}
use Rattle.bh_props.specs.SettingsView.{SettingsView}
use Rattle.bh_port.specs.GroupsView.{GroupsView}
use Rattle.bh_columns.specs.Charts.{HasHappened, IsChartOf, IsCounted, IsDrawnOf, IsFitted, IsLaidOut, IsLaneOf, IsNarrowest, IsNarrowestOf, IsRound, IsStep, NoneFits, count_in, drawn_at}
use Rattle.bh_columns.specs.Columns.{bare, no_column}
use Rattle.bh_columns.specs.Layouts.{Layout}
use Rattle.bh_columns.specs.Named.{KeptRun}
use Rattle.bh_columns.specs.Recorded.{HasLayout, IsRecorded}
use Rattle.bh_columns.specs.Spans.{Fill, IsFill}
use Rattle.bh_columns.specs.Tracks.{IsFilled, IsIn, column_at}
use Rattle.bh_columns.specs.declared.chart.Chart.{Chart}
use Rattle.bh_columns.specs.declared.chart.Lane.{Lane}
use Rattle.bh_columns.specs.declared.chart.Panel.{Panel}
use Rattle.bh_columns.specs.declared.column.Column.{Column}
use Rattle.bh_columns.specs.declared.kept.Kept.{Kept}
use Rattle.bh_columns.specs.declared.panel.KeptPanel.{KeptPanel}
use Rattle.bh_columns.specs.declared.selection.Selection.{Selection}
use Rattle.bh_columns.specs.declared.track.Track.{Track}
use Rattle.bh_columns.proofs.Joining.{joined_are_wider, run_bare, run_same}
use Rattle.bh_columns.proofs.Within.{out_none}

-- one more item, which is as the others are
pub pushed : {X : Type 0} (P : ℕ → X → Type 0) (xs : List X) (x : X) → ((k : ℕ) (y : X) → slice_get xs k ≡ Some y → P k y) → P (length xs) x → (k : ℕ) (y : X) → slice_get (xs ++ x ∷ []) k ≡ Some y → P k y
pushed P xs x each here k y at = elim (either k (length xs)) [
  | inl last ↦ (
      let found : slice_get (xs ++ x ∷ []) k ≡ Some x = ap (slice_get (xs ++ x ∷ [])) last ∙ push_here xs x in
      let both : Some x ≡ Some y = sym found ∙ at in
      let same : x ≡ y = cc in
      subst (P k) same (subst (λ n. P n x) (sym last) here))
  | inr differ ↦ (
      let all : k < length (xs ++ x ∷ []) = slice_get_within (xs ++ x ∷ []) k y at in
      let inside : k < length xs = omega (arith, all, differ, length-append xs (x ∷ [])) in
      each k y (sym (push_before xs x k inside) ∙ at))
]

power_up : (i j : ℕ) → i ≤ j → 10 ^ i ≤ 10 ^ j
power_up i j le = pow-le-pow_right {n = 10} (omega arith) {i = i} {j = j} le

-- a power of ten that is less than the greatest which is a moment
pub power_fits : (power k : ℕ) → power ≡ 10 ^ k → k < 19 → (0 < power) × (5 * power < 2 ^ 64) × (power * 10 < 2 ^ 64)
power_fits power k is below =
    let most : 10 ^ k ≤ 10 ^ 18 = power_up k 18 (omega (arith, below)) in
    let some : 10 ^ 0 ≤ 10 ^ k = power_up 0 k (omega arith) in
    (omega (arith, some, is), omega (arith, most, is), omega (arith, most, is))

step_some : (times : ℕ) → IsStep times → 1 ≤ times
step_some times (inl is) = omega (arith, is)
step_some times (inr (inl is)) = omega (arith, is)
step_some times (inr (inr is)) = omega (arith, is)

step_few : (times : ℕ) → IsStep times → times ≤ 5
step_few times (inl is) = omega (arith, is)
step_few times (inr (inl is)) = omega (arith, is)
step_few times (inr (inr is)) = omega (arith, is)

-- the first number that gives few enough columns is the least, where none of a lesser power did
pub narrowest_is : (extent : ℕ × ℕ) (columns power k many : ℕ) → power ≡ 10 ^ k → ((q times : ℕ) → q < k → IsStep times → columns < count_in extent (times * 10 ^ q)) → IsNarrowestOf extent columns power many
    → IsNarrowest extent columns many
narrowest_is extent columns power k many is before own = record {
  round = record { times = own.times; power = k; step = own.step; is = own.is ∙ ap (λ p. own.times * p) is };
  fits = own.fits;
  least = λ other round less. elim (cases_lt round.power k) [
    | inl lesser ↦ subst (λ n. columns < count_in extent n) (sym round.is) (before round.power round.times lesser round.step)
    | inr up ↦ elim (either round.power k) [
      | inl same ↦ (
          let other_is : other ≡ round.times * power = round.is ∙ ap (λ q. round.times * 10 ^ q) same ∙ ap (λ p. round.times * p) (sym is) in
          subst (λ n. columns < count_in extent n) (sym other_is) (own.least round.times round.step (lesser_of other round.times other_is less)))
      | inr differ ↦ absurd (
          let higher : 10 ^ (k + 1) ≤ 10 ^ round.power = power_up (k + 1) round.power (omega (arith, up, differ)) in
          let next : 10 ^ (k + 1) ≡ 10 ^ k * 10 = pow_more 10 k in
          let least : 1 * 10 ^ round.power ≤ round.times * 10 ^ round.power = mul-le-mul_right (10 ^ round.power) (step_some round.times round.step) in
          let most : own.times * power ≤ 5 * power = mul-le-mul_right power (step_few own.times own.step) in
          let some : 10 ^ 0 ≤ 10 ^ k = power_up 0 k (omega arith) in
          omega (arith, higher, next, least, most, some, less, round.is, own.is, is))
    ]
  ];
}
  where
    lesser_of : (other times : ℕ) → other ≡ times * power → other < many → times < own.times
    lesser_of other times other_is less = elim (cases_lt times own.times) [
      | inl lesser ↦ lesser
      | inr up ↦ absurd (let more : own.times * power ≤ times * power = mul-le-mul_right power up in omega (arith, more, other_is, less, own.is))
    ]

pub narrowest_some : (extent : ℕ × ℕ) (columns power many : ℕ) → IsNarrowestOf extent columns power many → 0 < power → 0 < many
narrowest_some extent columns power many own some =
    let more : 1 * power ≤ own.times * power = mul-le-mul_right power (step_some own.times own.step) in
    omega (arith, more, own.is, some)

-- the first of the three that gives few enough columns
pub first_of : (extent : ℕ × ℕ) (columns power : ℕ) → count_in extent power ≤ columns → IsNarrowestOf extent columns power power
first_of extent columns power fits = record { times = 1; step = inl refl; is = omega arith; fits = fits; least = λ other step less. absurd (let some = step_some other step in omega (arith, some, less)) }

pub second_of : (extent : ℕ × ℕ) (columns power : ℕ) → columns < count_in extent power → count_in extent (2 * power) ≤ columns → IsNarrowestOf extent columns power (2 * power)
second_of extent columns power none fits = record { times = 2; step = inr (inl refl); is = refl; fits = fits; least = λ other step less. below other step less }
  where
    below : (other : ℕ) → IsStep other → other < 2 → columns < count_in extent (other * power)
    below other step less =
        let some = step_some other step in
        let one : power ≡ other * power = subst (λ n. power ≡ n * power) (let e : 1 ≡ other = omega (arith, some, less) in e) (omega arith) in
        subst (λ n. columns < count_in extent n) one none

pub third_of : (extent : ℕ × ℕ) (columns power : ℕ) → columns < count_in extent power → columns < count_in extent (2 * power) → count_in extent (5 * power) ≤ columns → IsNarrowestOf extent columns power (5 * power)
third_of extent columns power one two fits = record { times = 5; step = inr (inr refl); is = refl; fits = fits; least = λ other step less. below other step less }
  where
    below : (other : ℕ) → IsStep other → other < 5 → columns < count_in extent (other * power)
    below other (inl is) less = subst (λ n. columns < count_in extent n) (let e : power ≡ 1 * power = omega arith in e ∙ ap (λ n. n * power) (sym is)) one
    below other (inr (inl is)) less = subst (λ n. columns < count_in extent n) (ap (λ n. n * power) (sym is)) two
    below other (inr (inr is)) less = absurd (omega (arith, is, less))

pub none_of : (extent : ℕ × ℕ) (columns power : ℕ) → columns < count_in extent power → columns < count_in extent (2 * power) → columns < count_in extent (5 * power) → NoneFits extent columns power
none_of extent columns power one two five times (inl is) = subst (λ n. columns < count_in extent n) (let e : power ≡ 1 * power = omega arith in e ∙ ap (λ n. n * power) (sym is)) one
none_of extent columns power one two five times (inr (inl is)) = subst (λ n. columns < count_in extent n) (ap (λ n. n * power) (sym is)) two
none_of extent columns power one two five times (inr (inr is)) = subst (λ n. columns < count_in extent n) (ap (λ n. n * power) (sym is)) five

-- where the greatest power of ten that is a moment is one, there are two columns at most
pub few_at_last : (least greatest power : ℕ) → greatest < 2 ^ 64 → power ≡ 10 ^ 19 → count_in (least, greatest) power ≤ 2
few_at_last least greatest power fits is =
    let last : greatest / 10_000_000_000_000_000_000 ≤ 1 = omega (arith, fits) in
    let same : greatest / power ≡ greatest / 10_000_000_000_000_000_000 = ap (λ p. greatest / p) is in
    omega (arith, last, same)

-- so many columns, joined, are what happened in their moments
drawn_filled : (t : Track) (width many index : ℕ) (f : Fill) → IsFill f → IsFilled t width f → bare (drawn_at t many index) ≡ f (index * (many * width)) (index * (many * width) + many * width)
drawn_filled t width many index f fill filled =
    let at : ℕ → Column = λ k. bare (column_at t k) in
    let fills : ℕ → Column = λ k. f (k * width) (k * width + width) in
    run_bare (column_at t) (index * many) many
    ∙ run_same at fills (index * many) many (λ k below. filled (index * many + k))
    ∙ joined_are_wider f width many index fill

-- a number of columns as one is some
round_some : (many : ℕ) → IsRound many → 0 < many
round_some many round =
    let some : 10 ^ 0 ≤ 10 ^ round.power = power_up 0 round.power (omega arith) in
    let more : 1 * 10 ^ round.power ≤ round.times * 10 ^ round.power = mul-le-mul_right (10 ^ round.power) (step_some round.times round.step) in
    omega (arith, some, more, round.is)

pub fitted_some : (extent : Option (ℕ × ℕ)) (columns many first end : ℕ) → IsFitted extent columns many first end → 0 < many
fitted_some None columns many first end fitted = omega (arith, fitted.0)
fitted_some (Some e) columns many first end fitted = round_some many fitted.0.round

-- no column before the first or behind the last is of one that is kept
outside : (extent : Option (ℕ × ℕ)) (columns many first end i : ℕ) → i < 18_446_744_073_709_551_615 → IsFitted extent columns many first end → (i < first) ⊎ (end ≤ i) → (k : ℕ) → k < many → IsIn extent (i * many + k) → ⊥
outside None columns many first end i small fitted side k below is = is
outside (Some e) columns many first end i small fitted (inl before) k below is =
    let most : e.0 / many * many ≤ e.0 = div-mul-le_self e.0 many in
    let less : suc i * many ≤ e.0 / many * many = mul-le-mul_right many (omega (arith, before, fitted.1)) in
    let one : suc i * many ≡ i * many + many = suc-mul i many in
    omega (arith, most, less, one, below, is.0)
outside (Some e) columns many first end i small fitted (inr behind) k below is =
    let last : e.1 < e.1 / many * many + many = lt-div-mul-add (round_some many fitted.0.round) in
    let more : suc (e.1 / many) * many ≤ i * many = mul-le-mul_right many (omega (arith, behind, small, fitted.2)) in
    let one : suc (e.1 / many) * many ≡ e.1 / many * many + many = suc-mul (e.1 / many) many in
    omega (arith, last, more, one, is.1)

-- a column whose moments lie before the first or behind the last
side_of : (first end i width begin count : ℕ) → 0 < width → begin ≡ first * width → count ≡ end - first → (i * width + width ≤ begin) ⊎ (begin + count * width ≤ i * width) → (i < first) ⊎ (end ≤ i)
side_of first end i width begin count some is many (inl before) = elim (cases_lt i first) [
  | inl less ↦ inl less
  | inr from ↦ absurd (let more : first * width ≤ i * width = mul-le-mul_right width from in omega (arith, more, before, is, some))
]
side_of first end i width begin count some is many (inr behind) = elim (cases_lt i end) [
  | inr past ↦ inr past
  | inl less ↦ absurd (
      let more : suc i * width ≤ (first + count) * width = mul-le-mul_right width (omega (arith, less, many)) in
      let one : suc i * width ≡ i * width + width = suc-mul i width in
      let sum : (first + count) * width ≡ first * width + count * width = add-mul first count width in
      omega (arith, more, one, sum, behind, is, some))
]

-- what is drawn of a recording is what happened in its run
module _ (service : SettingsView) (sel : Selection) (groups : GroupsView) (kept : Kept) (run : KeptRun) (columns : ℕ) (chart : Chart) (is : IsChartOf kept columns chart) (recorded : IsRecorded service sel groups kept run) where
  -- a panel that is drawn is kept
  own_panel : (place : ℕ) (panel : Panel) → slice_get chart.panels.items place ≡ Some panel → (own : KeptPanel) × (slice_get kept.panels.items place ≡ Some own) × IsDrawnOf is.many is.first is.end own panel
  own_panel place panel at =
      let (own, had) = read_within kept.panels.items place (omega (arith, slice_get_within chart.panels.items place panel at, is.panels.count)) in
      (own, had, is.panels.each place own panel had at)

  fills_are : (own : KeptPanel) (panel : Panel) (command : ℕ) → IsDrawnOf is.many is.first is.end own panel → run.fills own.group own.like command ≡ run.fills panel.group panel.like command
  fills_are own panel command drawn =
      let groups = sym drawn.group in
      let likes = sym drawn.like in
      λ i. run.fills (groups i) (likes i) command

  wide_is : IsCounted chart → is.many * kept.grid.width ≡ chart.width
  wide_is counted =
      let turned : is.many * kept.grid.width ≡ kept.grid.width * is.many = mul_comm is.many kept.grid.width in
      omega (arith, counted, turned, is.width)

  begin_is : IsCounted chart → chart.begin ≡ is.first * chart.width
  begin_is counted = omega (arith, counted, is.begin)

  shown_is : IsCounted chart → (place command p : ℕ) (panel : Panel) (lane : Lane) (column : Column) → slice_get chart.panels.items place ≡ Some panel → slice_get panel.lanes.items command ≡ Some lane → slice_get lane.columns.items p ≡ Some column
      → bare column ≡ run.fills panel.group panel.like command (chart.begin + p * chart.width) (chart.begin + p * chart.width + chart.width)
  shown_is counted place command p panel lane column at_panel at_lane at_column =
      let (own, had, drawn) = own_panel place panel at_panel in
      let (one, had_one) = read_within own.lanes.items command (omega (arith, slice_get_within panel.lanes.items command lane at_lane, drawn.lanes.count)) in
      let mine : IsLaneOf is.many is.first is.end one lane = drawn.lanes.each command one lane had_one at_lane in
      let wide = wide_is counted in
      let begin : (is.first + p) * (is.many * kept.grid.width) ≡ chart.begin + p * chart.width =
      ap (λ w. (is.first + p) * w) wide ∙ add-mul is.first p chart.width ∙ ap (λ b. b + p * chart.width) (sym (begin_is counted)) in
      let same = fills_are own panel command drawn in
      ap bare (mine.columns.each p column at_column)
      ∙ drawn_filled one.track kept.grid.width is.many (is.first + p) (run.fills own.group own.like command) (recorded.columns.sound own.group own.like command) (recorded.columns.filled place command own one had had_one)
      ∙ (λ i. same i (begin i) (begin i + wide i))

  none_is : IsCounted chart → (place command i : ℕ) (panel : Panel) → slice_get chart.panels.items place ≡ Some panel → i * chart.width < 18_446_744_073_709_551_615
      → (i * chart.width + chart.width ≤ chart.begin) ⊎ (chart.begin + chart.count * chart.width ≤ i * chart.width) → run.fills panel.group panel.like command (i * chart.width) (i * chart.width + chart.width) ≡ no_column
  none_is counted place command i panel at small where_it_lies =
      let (own, had, drawn) = own_panel place panel at in
      let wide = sym (wide_is counted) in
      let many = fitted_some kept.grid.extent columns is.many is.first is.end is.fitted in
      let some : 0 < chart.width = (let more : 1 * kept.grid.width ≤ is.many * kept.grid.width = mul-le-mul_right kept.grid.width (omega (arith, many)) in omega (arith, more, wide, kept.grid.some_width)) in
      let low : i < 18_446_744_073_709_551_615 = (let more : i * 1 ≤ i * chart.width = mul-le-mul_left i (omega (arith, some)) in omega (arith, more, small)) in
      let side = side_of is.first is.end i chart.width chart.begin chart.count some (begin_is counted) is.count where_it_lies in
      let same = sym (fills_are own panel command drawn) in
      (λ j. same j (i * wide j) (i * wide j + wide j))
      ∙ out_none kept.grid.extent kept.grid.width is.many i (run.fills own.group own.like command) (recorded.columns.sound own.group own.like command) (recorded.columns.within place command own had)
      (outside kept.grid.extent columns is.many is.first is.end i low is.fitted side)

  pub has_happened : HasHappened run.fills chart
  has_happened = record { shown = shown_is; none = none_is }

-- the panels are those that are kept
pub laid_chart : (l : Layout) (kept : Kept) (columns : ℕ) (chart : Chart) → IsChartOf kept columns chart → HasLayout l kept → IsLaidOut l chart
laid_chart l kept columns chart is laid = record {
  panels = record {
    count = is.panels.count ∙ laid.count;
    each = λ p one panel there at.
        let inside : p < length kept.panels.items = omega (arith, slice_get_within l.panels p one there, laid.count) in
        let (own, had) = read_within kept.panels.items p inside in
        let named = laid.named p one own there had in
        let drawn = is.panels.each p own panel had at in
        (drawn.group ∙ named.group, drawn.like ∙ named.like);
  };
  left_out = is.left_out ∙ laid.left_out;
}
