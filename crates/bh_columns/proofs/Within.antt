-- What is kept of moments outside the extent: nothing.
use Rattle.std.proofs.Common.{◌≡◌, ◌+◌, ◌-◌, ◌*◌, ◌/◌, ◌<◌, ◌≤◌, ◌⊎◌, inl, inr, ℕ, suc, Bool, true, false, Option, Some, None, Result, Ok, Err, OnOk, refl, sym, ap, subst, ◌∙◌, arith}
use Rattle.std.specs.Prelude.{max, min, if◌then◌else◌}
use Rattle.std.proofs.Math.Nat.{div-mul-le_self, lt-div-mul-add, mul-le-mul_right, mul_comm, suc-mul}
use Rattle.std.proofs.lemmas.Bool.{cases_lt}
use Rattle.bh_base.specs.Machine.{circuit_of}
use Rattle.bh_base.specs.Runs.{View}
use Rattle.bh_base.specs.Seen.{view_after}
use Rattle.bh_base.specs.declared.circuit.CircuitState.{CircuitState}
use Rattle.bh_base.specs.declared.step.Op.{Op}
use Rattle.bh_port.proofs.Keeping.{either}
use Rattle.bh_look.specs.declared.tally.Tally.{Tally}
use Rattle.bh_look.specs.Steps.{tally_with}
use Rattle.bh_look.specs.Tallies.{no_tally}
use Rattle.bh_columns.specs.Columns.{no_column, told_of}
use Rattle.bh_columns.specs.Filled.{AreWithin, Fills, fills_with}
use Rattle.bh_columns.specs.Panels.{IsTaken}
use Rattle.bh_columns.specs.Spans.{Fill, IsFill, lies, with_told_within}
use Rattle.bh_columns.specs.Steps.{added_fill, closes, filled_with, time_fill, when_of}
use Rattle.bh_columns.specs.Tracks.{IsIn, IsWithin, tenth}
use Rattle.bh_columns.specs.declared.column.Column.{Column}
use Rattle.bh_columns.specs.declared.panel.When.{When}
use Rattle.bh_columns.proofs.Filling.{time_none, told_before, told_behind}
use Rattle.bh_columns.proofs.Joining.{joined_are_wider, run_none}
use Rattle.bh_columns.proofs.Keeping.{lies_from, lies_to}
use Rattle.bh_columns.proofs.Recording.{other_number, same_number}

-- what follows from three facts where all went well
pub three_ok : {T E P Q R S : Type 0} (r : Result T E) → OnOk r P → OnOk r Q → OnOk r R → (P → Q → R → S) → OnOk r S
three_ok (Ok x) p q r f = f p q r
three_ok (Err e) p q r f = tt

-- what lies between two indexes of an extent lies in it
in_between : (extent : Option (ℕ × ℕ)) (a b i : ℕ) → IsIn extent a → IsIn extent b → a ≤ i → i ≤ b → IsIn extent i
in_between None a b i first last from to = first
in_between (Some e) a b i first last from to = (omega (arith, first.0, from), omega (arith, last.1, to))

-- an extent that covers another
pub covered : (old new : Option (ℕ × ℕ)) (width : ℕ) (f : Fill) → ((i : ℕ) → IsIn old i → IsIn new i) → IsWithin old width f → IsWithin new width f
covered old new width f covers within = λ i out. within i (λ is. out (covers i is))

in_tenth : (extent : Option (ℕ × ℕ)) (i k : ℕ) → k < 10 → IsIn extent (i * 10 + k) → IsIn (tenth extent) i
in_tenth None i k below is = is
in_tenth (Some e) i k below is = (omega (arith, is.0, below), omega (arith, is.1, below))

pub wider_within : (extent : Option (ℕ × ℕ)) (width : ℕ) (f : Fill) → IsFill f → IsWithin extent width f → IsWithin (tenth extent) (width * 10) f
wider_within extent width f fill within = λ i out.
    let wide : width * 10 ≡ 10 * width = mul_comm width 10 in
    (λ j. f (i * wide j) (i * wide j + wide j))
    ∙ sym (joined_are_wider f width 10 i fill)
    ∙ run_none (λ k. f (k * width) (k * width + width)) (i * 10) 10 (λ k below. within (i * 10 + k) (λ is. out (in_tenth extent i k below is)))

-- so many columns as one, of which none lies in the extent
pub out_none : (extent : Option (ℕ × ℕ)) (width many i : ℕ) (f : Fill) → IsFill f → IsWithin extent width f → ((k : ℕ) → k < many → IsIn extent (i * many + k) → ⊥) → f (i * (many * width)) (i * (many * width) + many * width) ≡ no_column
out_none extent width many i f fill within out =
    sym (joined_are_wider f width many i fill) ∙ run_none (λ k. f (k * width) (k * width + width)) (i * many) many (λ k below. within (i * many + k) (out k below))

-- a column outside the extent lies apart from moments whose columns lie in it
apart : (extent : Option (ℕ × ℕ)) (width since until i : ℕ) → 0 < width → since < until → IsIn extent (since / width) → IsIn extent ((until - 1) / width) → (IsIn extent i → ⊥) → (i * width + width ≤ since) ⊎ (until ≤ i * width)
apart extent width since until i some some_time first last out = elim (cases_lt i (since / width)) [
  | inl before ↦ inl (
      let most : since / width * width ≤ since = div-mul-le_self since width in
      let less : suc i * width ≤ since / width * width = mul-le-mul_right width (omega (arith, before)) in
      let one : suc i * width ≡ i * width + width = suc-mul i width in
      omega (arith, most, less, one))
  | inr from ↦ elim (cases_lt ((until - 1) / width) i) [
    | inl past ↦ inr (
        let end = (until - 1) / width in
        let below : until - 1 < end * width + width = lt-div-mul-add some in
        let more : suc end * width ≤ i * width = mul-le-mul_right width (omega (arith, past)) in
        let one : suc end * width ≡ end * width + width = suc-mul end width in
        omega (arith, below, more, one, some_time))
    | inr to ↦ absurd (out (in_between extent (since / width) ((until - 1) / width) i first last from to))
  ]
]

-- what a step adds lies in the extent, where the columns of its moments do
module _ (extent : Option (ℕ × ℕ)) (width : ℕ) (when : When) (some : 0 < width) (order : when.since ≤ when.moment) (taken : IsTaken extent width when) where
  abbrev since : ℕ
  since = max when.since when.from

  abbrev until : ℕ
  until = min (when.moment + 1) when.to

  no_time : (i : ℕ) → (IsIn extent i → ⊥) → min (min when.moment when.to) (i * width + width) ≤ max since (i * width)
  no_time i out = elim (cases_lt since until) [
    | inl some_time ↦ (
        let ends = taken some_time in
        elim (apart extent width since until i some some_time ends.0 ends.1 out) [
          | inl before ↦ omega (arith, before)
          | inr past ↦ omega (arith, past)
        ])
    | inr none ↦ omega (arith, none)
  ]

  not_told : (told : Tally) (closed : Bool) (i : ℕ) (c : Column) → (IsIn extent i → ⊥) → (kept : Bool) → lies when.from when.to when.moment ≡ kept
      → (if kept then with_told_within (i * width) (i * width + width) when.moment told closed c else c) ≡ c
  not_told told closed i c out false is = refl
  not_told told closed i c out true is =
      let from = lies_from when.from when.to when.moment is in
      let to = lies_to when.from when.to when.moment is in
      let some_time : since < until = omega (arith, from, to, order) in
      let ends = taken some_time in
      elim (apart extent width since until i some some_time ends.0 ends.1 out) [
        | inl before ↦ told_behind when.moment told closed (i * width) (i * width + width) c (omega (arith, before, from, order))
        | inr past ↦ told_before when.moment told closed (i * width) (i * width + width) c (omega (arith, past, to))
      ]

  pub added_within : (told : Tally) (before after : CircuitState) (f : Fill) → IsWithin extent width f → IsWithin extent width (added_fill when told before after f)
  added_within told before after f within = λ i out.
      let c = time_fill when before f (i * width) (i * width + width) in
      let time : c ≡ f (i * width) (i * width + width) = time_none (max since (i * width)) (min (min when.moment when.to) (i * width + width)) before (f (i * width) (i * width + width)) (no_time i out) in
      not_told told (closes before after) i c out (lies when.from when.to when.moment) refl ∙ time ∙ within i out

pub stepped_within : (extent : Option (ℕ × ℕ)) (width n from to : ℕ) (v : View) (o : Op) (now : ℕ) (fs : Fills) (when : When) → when ≡ when_of from to v o now → 0 < width → when.since ≤ when.moment → IsTaken extent width when
    → AreWithin extent width fs → AreWithin extent width (fills_with from to n v o now fs)
stepped_within extent width n from to v o now fs when is some order taken within = λ p k. elim (either p n) [
  | inl same ↦ (
      let before = (circuit_of k v.present).state in
      let after = (circuit_of k (view_after v o now).present).state in
      subst (λ (f : Fill). IsWithin extent width f) (sym (ap (λ b. if b then filled_with from to v o now k (fs p k) else fs p k) (same_number p n same)))
      (subst (λ (w : When). IsWithin extent width (added_fill w (told_of (tally_with v o now k no_tally)) before after (fs p k))) is
      (added_within extent width when some order taken (told_of (tally_with v o now k no_tally)) before after (fs p k) (within p k))))
  | inr differ ↦ subst (λ (f : Fill). IsWithin extent width f) (sym (ap (λ b. if b then filled_with from to v o now k (fs p k) else fs p k) (other_number p n differ))) (within p k)
]
