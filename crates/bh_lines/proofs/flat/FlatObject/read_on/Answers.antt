use Rattle.std.proofs.Common.{◌≡◌, drop, inl, inr, sym, subst, arith}
use Rattle.json.specs.Lex.{tokens}
use Rattle.bh_lines.specs.Flat.{IsBegun}
use Rattle.bh_lines.proofs.FlatReading.{read_flat}
use Rattle.bh_lines.proofs.flat.FlatObject.read_on.Goals as goal

pub returns-clause-value : goal.returns-clause-value
returns-clause-value c there =
    let line = c.args.line.now in
    let object = c.args.self.now in
    let left : c.in_ok-reader.reader ≡ tokens (drop object.rest line) = grind arith in
    elim c.requires [
      | inl none ↦ absurd (c.if-self-eq0.false none)
      | inr front ↦ read_flat line c.ends_object.new.members.items front.first front.opens (c.ends_object.ensures.value front.first (subst (IsBegun front.first object.members.items) (sym left) front.begun) there)
    ]
