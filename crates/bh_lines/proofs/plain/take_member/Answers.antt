use Rattle.std.proofs.Common.{drop}
use Rattle.bh_lines.specs.declared.flat.Scalar.TheVariants as scalars
use Rattle.bh_lines.proofs.PlainReading.{member_there, number_scalar, scalar_behind, text_inside, text_scalar}
use Rattle.bh_lines.proofs.plain.take_member.Goals as goal

pub push_member-requires : goal.push_member-requires
push_member-requires g c =
    let line = c.args.line.now in
    let name = c.in_ok-name in
    let value = c.in_ok-place in
    let quote = c.in-Some in
    let found = c.in_ok-text in
    let rest = drop found.behind line in
    let text = text_inside line value.place quote.start found.text.now rest quote.ensures found.ensures in
    member_there line c.args.members.now.items (record { name = name.name; value = scalars.Text found.text }) c.requires.0 c.args.start name.behind_name value.place found.behind c.requires.1 c.requires.2 name.ensures value.ensures
    (text_scalar (drop value.place line) rest found.text text)

pub push_member-requires-in-Some-plain_number : goal.push_member-requires-in-Some-plain_number
push_member-requires-in-Some-plain_number g c =
    let line = c.args.line.now in
    let name = c.in_ok-name in
    let value = c.in_ok-place in
    let start = drop c.past_space-place.result line in
    let found = c.in-Some-plain_number in
    let rest = drop found.behind line in
    member_there line c.args.members.now.items (record { name = name.name; value = scalars.Number found.number }) c.requires.0 c.args.start name.behind_name value.place found.behind c.requires.1 c.requires.2 name.ensures value.ensures
    (scalar_behind (drop value.place line) start rest (scalars.Number found.number) c.past_space-place.ensures (number_scalar start rest found.number found.ensures))

pub push_member-requires-2 : goal.push_member-requires-2
push_member-requires-2 g c =
    let line = c.args.line.now in
    let name = c.in_ok-name in
    let value = c.in_ok-place in
    let start = drop c.past_space-place.result line in
    let found = c.in_ok-value in
    let rest = drop found.behind line in
    member_there line c.args.members.now.items (record { name = name.name; value = found.value }) c.requires.0 c.args.start name.behind_name value.place found.behind c.requires.1 c.requires.2 name.ensures value.ensures
    (scalar_behind (drop value.place line) start rest found.value c.past_space-place.ensures found.ensures)
