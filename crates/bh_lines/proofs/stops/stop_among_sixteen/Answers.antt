use Rattle.std.proofs.Common.{drop, sym, ap, ◌∙◌, arith, length-drop}
use Rattle.std.proofs.lemmas.List.Sums.{prefix_len-le-length}
use lib.Count.{count_trailing_zeros}
use Rattle.json.specs.Run.{is_plain, is_stop}
use Rattle.bh_lines.proofs.Lanes.{first_among, none_among}
use Rattle.bh_lines.proofs.stops.stop_among_sixteen.Goals as goal

pub returns-then-stops-eq0-clause-value : goal.returns-then-stops-eq0-clause-value
returns-then-stops-eq0-clause-value c = none_among is_stop c.args.bytes.now c.args.place c.requires (omega (arith, c.stops_in-stops.ensures))

pub returns-clause-value : goal.returns-clause-value
returns-clause-value c =
    let stops = c.stops_in-stops in
    let run = first_among is_stop c.args.bytes.now c.args.place c.requires (omega (arith, stops.ensures)) ∙ ap (count_trailing_zeros 64) (sym stops.ensures) in
    omega (arith, run)

pub returns-clause-within : goal.returns-clause-within
returns-clause-within c =
    let stops = c.stops_in-stops in
    let bytes = c.args.bytes.now in
    let place = c.args.place in
    let run = first_among is_stop bytes place c.requires (omega (arith, stops.ensures)) ∙ ap (count_trailing_zeros 64) (sym stops.ensures) in
    omega (arith, run, prefix_len-le-length is_plain (drop place bytes), length-drop place bytes)
