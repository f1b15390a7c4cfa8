use Rattle.bh_lines.proofs.Fronting.{front-found}
use Rattle.bh_lines.proofs.front.front_line.Goals as goal

pub returns : goal.returns
returns c = let e = c.in-Some.ensures in let t = c.ascii_text.ensures in front-found _ c.in-Some.feed c.ascii_text.result e.0 e.2 t.0 t.1
