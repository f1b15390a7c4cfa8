use Rattle.std.proofs.Common.{◌≡◌, ◌+◌, ◌-◌, ◌/◌, ◌^◌, drop, length, sym, ap, ◌∙◌, arith, length-drop}
use Rattle.std.proofs.lemmas.List.Sums.{prefix_len-le-length}
use Rattle.std.specs.List.{prefix_len}
use lib.Count.{count_trailing_zeros}
use Rattle.json.specs.Run.{is_plain, is_stop}
use Rattle.bh_lines.proofs.Lanes.{none_in_tail, first_in_tail}
use Rattle.bh_lines.proofs.stops.plain_end_of_few.Goals as goal

pub returns-then-stops-eq0-clause-value : goal.returns-then-stops-eq0-clause-value
returns-then-stops-eq0-clause-value c =
    let bytes = c.args.bytes.now in
    let first = length bytes - 16 in
    let k = c.args.from - first in
    let at : first + k ≡ c.args.from = omega (arith, c.requires.few, c.if-bytes-lt16.false) in
    let run = none_in_tail is_stop bytes first k (omega (arith, c.if-bytes-lt16.false)) (ap (λ m. m / 2 ^ k) (sym c.stops_in.ensures) ∙ omega (arith, c.if-stops-eq0.true)) in
    omega (arith, c.requires.within, c.requires.few, at, sym (ap (λ n. prefix_len is_plain (drop n bytes)) at) ∙ run)

pub returns-clause-value : goal.returns-clause-value
returns-clause-value c =
    let bytes = c.args.bytes.now in
    let first = length bytes - 16 in
    let k = c.args.from - first in
    let at : first + k ≡ c.args.from = omega (arith, c.requires.few, c.if-bytes-lt16.false) in
    let is = ap (λ m. m / 2 ^ k) c.stops_in.ensures in
    let run = first_in_tail is_stop bytes first k (omega (arith, c.if-bytes-lt16.false)) (omega (arith, is, c.if-stops-eq0.false)) ∙ ap (count_trailing_zeros 64) (sym is) in
    omega (arith, sym (ap (λ n. prefix_len is_plain (drop n bytes)) at) ∙ run)

pub returns-clause-within : goal.returns-clause-within
returns-clause-within c =
    let bytes = c.args.bytes.now in
    let first = length bytes - 16 in
    let k = c.args.from - first in
    let at : first + k ≡ c.args.from = omega (arith, c.requires.few, c.if-bytes-lt16.false) in
    let is = ap (λ m. m / 2 ^ k) c.stops_in.ensures in
    let run = first_in_tail is_stop bytes first k (omega (arith, c.if-bytes-lt16.false)) (omega (arith, is, c.if-stops-eq0.false)) ∙ ap (count_trailing_zeros 64) (sym is) in
    omega (arith, c.requires.within, prefix_len-le-length is_plain (drop c.args.from bytes), length-drop c.args.from bytes, sym (ap (λ n. prefix_len is_plain (drop n bytes)) at) ∙ run)
