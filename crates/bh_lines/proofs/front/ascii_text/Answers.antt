use Rattle.std.proofs.Common.{ℕ, List, sym, ◌∙◌, subst}
use Rattle.std.specs.Str.{IsUtf8}
use Rattle.bh_lines.proofs.Fronting.{ascii-text, text-valid}
use Rattle.bh_lines.proofs.front.ascii_text.Goals as goal

pub from_utf8_unchecked-requires : goal.from_utf8_unchecked-requires
from_utf8_unchecked-requires c = subst (λ (ys : List ℕ). IsUtf8 ys) (sym c.without_return.ensures) (ascii-text c.args.bytes.now c.requires)

pub returns : goal.returns
returns c = let is = c.from_utf8_unchecked.ensures ∙ c.without_return.ensures in (is, text-valid _ _ is c.from_utf8_unchecked.utf8)
