use Rattle.std.proofs.Common.{rules, arith, ℕ, List, take, Ok, Err, ◌∙◌, refl, subst}
use Rattle.std.proofs.lemmas.Result.{err_from_is_err_and}
use Rattle.bh_lines.proofs.PortErrors.{unless-ok}
use Rattle.bh_streams.specs.Watched.{bytes_left, bytes_held}
use Rattle.bh_lines.specs.Names.{Names}
use Rattle.bh_control.specs.AnswerLine.{responder}
use Rattle.bh_control.specs.Session.{PieceOutcome, LastOutcome}
use Rattle.bh_control.proofs.Progress.{progress-start, progress-piece, progress-stops, progress-refused, progress-fails, progress-ends, progress-answered, memory-refused}
use Rattle.bh_control.proofs.session.converse_in.Goals as goal

pub returns-then-count-eq0-clause-answers : goal.returns-then-count-eq0-clause-answers
returns-then-count-eq0-clause-answers g c =
    let inv = c.loop.invariant in
    let read = c.in-Ok.ensures.bytes in
    let who = λ (names : Names). responder names g.C.Control.may_show g.C.Control.may_answer g.C.Control.may_close g.C.Control.may_total g.C.Control.may_tune g.C.Control.may_force in
    let outcome = subst (λ (names : Names). LastOutcome (who names) (bytes_held g.W.Write.contents c.loop.writer) (bytes_held g.W.Write.contents c.answer_last.new.writer) c.loop.received c.answer_last.result) inv.names c.answer_last.ensures.outcome in
    progress-ends _ (bytes_left g.R.Read.remaining c.loop.reader) (bytes_left g.R.Read.remaining c.read.new.self) _ (bytes_held g.W.Write.contents c.loop.writer) _ (who (g.C.Control.names c.args.control.now)) c.loop.received (take c.in-Ok.count c.read.new.buf) c.answer_last.result
    inv.progress read.0 (search rules) (read.1 (search rules) (search rules)) outcome

pub returns-in_err-push-clause-answers : goal.returns-in_err-push-clause-answers
returns-in_err-push-clause-answers g c =
    let inv = c.loop.invariant in
    let p = err_from_is_err_and c.from_residual.result c.from_residual.ensures.1 in
    rw p.1 (memory-refused _ _ _ _ p.0 p.2 (progress-refused _ _ _ _ _ _ inv.progress))

pub returns-in_err-answer_piece-clause-answers : goal.returns-in_err-answer_piece-clause-answers
returns-in_err-answer_piece-clause-answers g c =
    let inv = c.loop.invariant in
    let read = c.in-Ok.ensures.bytes in
    let error = c.in_err-answer_piece.field-0.0 in
    let p = err_from_is_err_and c.from_residual-in_err-answer_piece.result c.from_residual-in_err-answer_piece.ensures.1 in
    let piece = take c.in-Ok.count c.read.new.buf in
    let who = λ (names : Names). responder names g.C.Control.may_show g.C.Control.may_answer g.C.Control.may_close g.C.Control.may_total g.C.Control.may_tune g.C.Control.may_force in
    let named = subst (λ (names : Names). PieceOutcome (who names) (bytes_held g.W.Write.contents c.loop.writer) (bytes_held g.W.Write.contents c.answer_piece.new.writer) c.push.new.self (Err error) c.answer_piece.new.received) inv.names c.in_err-answer_piece.ensures.outcome in
    let outcome = subst (λ (all : List ℕ). PieceOutcome (who (g.C.Control.names c.args.control.now)) (bytes_held g.W.Write.contents c.loop.writer) (bytes_held g.W.Write.contents c.answer_piece.new.writer) all (Err error) c.answer_piece.new.received) c.in_ok-push.ensures.ok named in
    rw (p.1, p.2)
    (progress-stops _ (bytes_left g.R.Read.remaining c.loop.reader) (bytes_left g.R.Read.remaining c.read.new.self) _ (bytes_held g.W.Write.contents c.loop.writer) _ (who (g.C.Control.names c.args.control.now)) c.loop.received piece c.answer_piece.new.received error
    inv.progress read.0 outcome)

pub loop-preserved : goal.loop-preserved
loop-preserved g c =
    let inv = c.loop.invariant in
    let read = c.in-Ok.ensures.bytes in
    let piece = take c.in-Ok.count c.read.new.buf in
    let done = c.in_ok-answer_piece.ensures in
    let who = λ (names : Names). responder names g.C.Control.may_show g.C.Control.may_answer g.C.Control.may_close g.C.Control.may_total g.C.Control.may_tune g.C.Control.may_force in
    let named = subst (λ (names : Names). PieceOutcome (who names) (bytes_held g.W.Write.contents c.loop.writer) (bytes_held g.W.Write.contents c.answer_piece.new.writer) c.push.new.self (Ok tt) c.answer_piece.new.received) inv.names done.outcome in
    let outcome = subst (λ (all : List ℕ). PieceOutcome (who (g.C.Control.names c.args.control.now)) (bytes_held g.W.Write.contents c.loop.writer) (bytes_held g.W.Write.contents c.answer_piece.new.writer) all (Ok tt) c.answer_piece.new.received) c.in_ok-push.ensures.ok named in record {
      same_reader = c.in-Ok.ensures.same_reader ∙ inv.same_reader;
      same_writer = done.same_writer ∙ inv.same_writer;
      names = done.groups ∙ inv.names;
      none_held = done.none_held;
      no_line = outcome.1;
      read_enough = omega (arith, c.in-Ok.ensures.one);
      none_failed = c.in-Ok.ensures.ok ∙ inv.none_failed;
      none_refused = unless-ok _ _ done.not_refused ∙ inv.none_refused;
      progress = progress-piece _ (bytes_left g.R.Read.remaining c.loop.reader) _ _ (bytes_held g.W.Write.contents c.loop.writer) _ _ c.loop.received piece c.answer_piece.new.received inv.progress read.0 outcome.0;
    }

pub loop-init : goal.loop-init
loop-init g c = record {
  same_reader = refl;
  same_writer = refl;
  names = refl;
  none_held = c.clear-2.ensures.items;
  no_line = rw c.clear.ensures refl;
  read_enough = omega arith;
  none_failed = refl;
  none_refused = refl;
  progress = progress-start _ _ _ _ c.clear.ensures;
}

pub returns-in_default-clause-answered : goal.returns-in_default-clause-answered
returns-in_default-clause-answered g c = λ same.
    progress-answered _ _ _ _ _ _ _ c.loop.invariant.progress c.in_default.ensures.bytes c.loop.invariant.no_line

pub returns-in_default-clause-answers : goal.returns-in_default-clause-answers
returns-in_default-clause-answers g c = progress-fails _ _ _ _ _ _ c.loop.invariant.progress

pub returns-clause-answers : goal.returns-clause-answers
returns-clause-answers g c = progress-fails _ _ _ _ _ _ c.loop.invariant.progress
