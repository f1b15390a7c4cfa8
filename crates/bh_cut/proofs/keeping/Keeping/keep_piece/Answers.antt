use Rattle.bh_cut.proofs.Looking.{front-keeps, front-refused}
use Rattle.bh_cut.proofs.keeping.Keeping.keep_piece.Goals as goal

pub returns-in_default-clause-refused : goal.returns-in_default-clause-refused
returns-in_default-clause-refused c = λ _. front-refused c.args.piece.now c.in_default.ensures c.requires

pub returns-clause-keeps : goal.returns-clause-keeps
returns-clause-keeps c = front-keeps _ c.args.piece.now _ _ c.in-Some.front c.in-Some.ensures c.in_ok-keep_if_named.ensures.keeps
