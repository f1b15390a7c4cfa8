use Rattle.std.proofs.Common.{◌≡◌, ◌∷◌, refl, ap, ◌∙◌, arith}
use Rattle.json.specs.Token.{Token}
use Rattle.json.specs.Json as json
use Rattle.json.specs.Json.{value}
use Rattle.json.proofs.Grammar.{value_is}
use Rattle.bh_lines.proofs.flat.next_scalar.Goals as goal

pub returns-in-String-clause-value : goal.returns-in-String-clause-value
returns-in-String-clause-value c =
    let is : c.args.reader.now ≡ Token.string c.in-String.text.now ∷ c.next.new.self = grind arith in
    (json.string c.in-String.text.now, λ depth. ap (value depth) is ∙ value_is depth _, refl)

pub returns-in_ok-whole_number-in-Number-clause-value : goal.returns-in_ok-whole_number-in-Number-clause-value
returns-in_ok-whole_number-in-Number-clause-value c =
    let is : c.args.reader.now ≡ Token.number c.in-Number.text.now ∷ c.next.new.self = grind arith in
    (json.number c.in-Number.text.now, λ depth. ap (value depth) is ∙ value_is depth _, rw c.in_ok-whole_number-in-Number.ensures.value)

pub returns-in-Bool-clause-value : goal.returns-in-Bool-clause-value
returns-in-Bool-clause-value c =
    let is : c.args.reader.now ≡ Token.boolean c.in-Bool.truth ∷ c.next.new.self = grind arith in
    (json.boolean c.in-Bool.truth, λ depth. ap (value depth) is ∙ value_is depth _, refl)

pub returns-in-Null-clause-value : goal.returns-in-Null-clause-value
returns-in-Null-clause-value c =
    let is : c.args.reader.now ≡ Token.null ∷ c.next.new.self = grind arith in
    (json.null, λ depth. ap (value depth) is ∙ value_is depth _, refl)
