use Rattle.std.proofs.Common.{◌≡◌, List, ℕ, ◌++◌, length}
use Rattle.bh_lines.specs.Lines.{cut}
use Rattle.bh_streams.specs.Watched.{writer_of, bytes_held, NoneRefused}
use Rattle.bh_control.specs.AnswerLine.{responder}
use Rattle.bh_control.specs.Session.{HoldsUpTo}
use Rattle.bh_control.proofs.session.answer_lines.Given as goal

abbrev pub invariant-loop-asked : goal.invariant-loop-asked
invariant-loop-asked g l = record {
  same_writer : (writer_of l.writer).ghost_name ≡ (writer_of l.fn.writer).ghost_name;
  names : g.C.Control.names l.control ≡ g.C.Control.names l.fn.control;
  none_refused : NoneRefused l.fn.writer l.writer;
  holds : HoldsUpTo (responder (g.C.Control.names l.fn.control) g.C.Control.may_show g.C.Control.may_answer g.C.Control.may_close g.C.Control.may_total g.C.Control.may_tune g.C.Control.may_force)
      (bytes_held g.W.Write.contents l.fn.writer) (bytes_held g.W.Write.contents l.writer) l.fn.received (λ (more : List ℕ). cut (l.received ++ more)) l.answers.items;
}

abbrev pub decreases-loop-asked : goal.decreases-loop-asked
decreases-loop-asked g l = length l.received
