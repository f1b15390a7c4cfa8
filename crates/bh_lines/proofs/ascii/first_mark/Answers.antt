use Rattle.std.proofs.Common.{sym, ap, ◌∙◌, arith}
use lib.Count.{count_trailing_zeros}
use Rattle.bh_lines.specs.Ascii.{is_mark}
use Rattle.bh_lines.proofs.Lanes.{first_among, first_within, none_among}
use Rattle.bh_lines.proofs.ascii.first_mark.Goals as goal

pub returns-then-marks-ne0-clause-value : goal.returns-then-marks-ne0-clause-value
returns-then-marks-ne0-clause-value c =
    let marks = c.marks_in-marks in
    let run = first_among is_mark c.args.bytes.now c.loop-place.place (omega (arith, c.requires)) (omega (arith, marks.ensures)) ∙ ap (count_trailing_zeros 64) (sym marks.ensures) in
    omega (arith, run, c.loop-place.invariant.0)

pub returns-then-marks-ne0-clause-within : goal.returns-then-marks-ne0-clause-within
returns-then-marks-ne0-clause-within c =
    let marks = c.marks_in-marks in
    let less = first_within is_mark c.args.bytes.now c.loop-place.place (omega (arith, c.requires)) (omega (arith, marks.ensures)) in
    omega (arith, less, ap (count_trailing_zeros 64) marks.ensures, c.loop-place-test.true)

pub loop-place-preserved : goal.loop-place-preserved
loop-place-preserved c =
    let run = none_among is_mark c.args.bytes.now c.loop-place.place (omega (arith, c.requires)) (omega (arith, c.marks_in-marks.ensures)) in
    (omega (arith, run, c.loop-place.invariant.0), omega arith)
