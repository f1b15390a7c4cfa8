use Rattle.std.proofs.Common.{◌≡◌, ◌∷◌, sym, ap, ◌∙◌, arith}
use Rattle.json.specs.Token.{Token}
use Rattle.json.specs.Lex.{tokens}
use Rattle.bh_lines.specs.Flat.{is_flat}
use Rattle.bh_lines.proofs.FlatReading.{begun, read_flat}
use Rattle.bh_lines.proofs.flat.FlatObject.read_tokens.Goals as goal

pub returns-clause-found : goal.returns-clause-found
returns-clause-found c =
    let opens : tokens c.args.line.now ≡ Token.begin_object ∷ c.next.new.self = grind arith in
    c.ends_object.ensures.found _ (begun c.next.new.self c.clear.new.self.items c.clear.ensures) ∙ sym (ap is_flat opens)

pub returns-clause-value : goal.returns-clause-value
returns-clause-value c there =
    let opens : tokens c.args.line.now ≡ Token.begin_object ∷ c.next.new.self = grind arith in
    read_flat c.args.line.now c.ends_object.new.members.items c.next.new.self opens (c.ends_object.ensures.value _ (begun c.next.new.self c.clear.new.self.items c.clear.ensures) there)
