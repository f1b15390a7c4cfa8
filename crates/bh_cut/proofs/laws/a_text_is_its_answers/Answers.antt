use Rattle.bh_cut.proofs.Worlds.{text-is_answers}
use Rattle.bh_cut.proofs.laws.a_text_is_its_answers.Goals as goal

pub returns : goal.returns
returns c = text-is_answers
