use Rattle.std.proofs.Common.{rules, arith, ℕ, List, take, Ok, Err, ◌∙◌, subst}
use Rattle.std.proofs.KnownBytes.{Keeps-refl}
use Rattle.std.proofs.lemmas.Result.{err_from_is_err_and}
use Rattle.bh_lines.proofs.PortErrors.{unless-ok}
use Rattle.bh_streams.specs.Watched.{bytes_left, bytes_held}
use Rattle.bh_desk.specs.Answers.{responder}
use Rattle.bh_desk.specs.Session.{PieceOutcome}
use Rattle.bh_desk.proofs.Progress.{progress-piece, progress-stops, progress-refused, progress-fails, progress-ends, progress-answered, memory-refused, reached-piece, some-last, some-piece}
use Rattle.bh_desk.proofs.session.converse.Goals as goal

pub returns-then-count-eq0-clause-answers : goal.returns-then-count-eq0-clause-answers
returns-then-count-eq0-clause-answers g c =
    let inv = c.loop.invariant in
    let read = c.in-Ok.ensures.bytes in
    progress-ends _ (bytes_left g.R.Read.remaining c.loop.reader) (bytes_left g.R.Read.remaining c.read.new.self) _ (bytes_held g.W.Write.contents c.loop.writer) _ _ _ _ _ c.loop.received (take c.in-Ok.count c.read.new.buf) c.answer_last.result
    inv.progress read.0 (search rules) (read.1 (search rules) (search rules)) c.answer_last.ensures.outcome

pub returns-then-count-eq0-clause-turns : goal.returns-then-count-eq0-clause-turns
returns-then-count-eq0-clause-turns g c = some-last _ _ _ _ _ _ _ c.answer_last.result c.loop.invariant.reached c.answer_last.ensures.outcome

pub returns-in_err-push-clause-answers : goal.returns-in_err-push-clause-answers
returns-in_err-push-clause-answers g c =
    let inv = c.loop.invariant in
    let p = err_from_is_err_and c.from_residual.result c.from_residual.ensures.1 in
    rw p.1 (memory-refused _ _ _ _ _ _ p.0 p.2 (progress-refused _ _ _ _ _ _ _ _ inv.progress))

pub returns-in_err-answer_piece-clause-answers : goal.returns-in_err-answer_piece-clause-answers
returns-in_err-answer_piece-clause-answers g c =
    let inv = c.loop.invariant in
    let read = c.in-Ok.ensures.bytes in
    let error = c.in_err-answer_piece.field-0.0 in
    let p = err_from_is_err_and c.from_residual-in_err-answer_piece.result c.from_residual-in_err-answer_piece.ensures.1 in
    let piece = take c.in-Ok.count c.read.new.buf in
    let who = responder (g.N.Directory.names c.args.directory.now) g.D.Desk.may in
    let outcome = subst (λ (all : List ℕ). PieceOutcome who c.loop.desk c.answer_piece.new.desk (bytes_held g.W.Write.contents c.loop.writer) (bytes_held g.W.Write.contents c.answer_piece.new.writer) all (Err error) c.answer_piece.new.received) c.in_ok-push.ensures.ok c.in_err-answer_piece.ensures.outcome in
    rw (p.1, p.2)
    (progress-stops _ (bytes_left g.R.Read.remaining c.loop.reader) (bytes_left g.R.Read.remaining c.read.new.self) _ (bytes_held g.W.Write.contents c.loop.writer) _ who _ _ _ c.loop.received piece c.answer_piece.new.received error
    inv.progress read.0 outcome)

pub returns-in_err-answer_piece-clause-turns : goal.returns-in_err-answer_piece-clause-turns
returns-in_err-answer_piece-clause-turns g c =
    some-piece _ _ _ _ _ _ _ _ c.in_err-answer_piece.field-0.0 c.loop.invariant.reached c.in_err-answer_piece.ensures.outcome

pub loop-preserved : goal.loop-preserved
loop-preserved g c =
    let inv = c.loop.invariant in
    let read = c.in-Ok.ensures.bytes in
    let piece = take c.in-Ok.count c.read.new.buf in
    let done = c.in_ok-answer_piece.ensures in
    let who = responder (g.N.Directory.names c.args.directory.now) g.D.Desk.may in
    let outcome = subst (λ (all : List ℕ). PieceOutcome who c.loop.desk c.answer_piece.new.desk (bytes_held g.W.Write.contents c.loop.writer) (bytes_held g.W.Write.contents c.answer_piece.new.writer) all (Ok tt) c.answer_piece.new.received) c.in_ok-push.ensures.ok done.outcome in record {
      same_reader = c.in-Ok.ensures.same_reader ∙ inv.same_reader;
      same_writer = done.same_writer ∙ inv.same_writer;
      none_held = done.none_held;
      no_line = outcome.1;
      read_enough = omega (arith, c.in-Ok.ensures.one);
      none_failed = c.in-Ok.ensures.ok ∙ inv.none_failed;
      none_refused = unless-ok _ _ done.not_refused ∙ inv.none_refused;
      reached = reached-piece who _ _ _ _ _ _ _ inv.reached outcome.0;
      progress = progress-piece _ (bytes_left g.R.Read.remaining c.loop.reader) _ _ (bytes_held g.W.Write.contents c.loop.writer) _ who _ _ _ c.loop.received piece c.answer_piece.new.received inv.progress read.0 outcome.0;
    }

pub returns-in_default-clause-answered : goal.returns-in_default-clause-answered
returns-in_default-clause-answered g c = λ same.
    progress-answered _ _ _ _ _ _ _ _ _ c.loop.invariant.progress c.in_default.ensures.bytes c.loop.invariant.no_line

pub returns-in_default-clause-answers : goal.returns-in_default-clause-answers
returns-in_default-clause-answers g c = progress-fails _ _ _ _ _ _ _ _ c.loop.invariant.progress

pub returns-clause-answers : goal.returns-clause-answers
returns-clause-answers g c = progress-fails _ _ _ _ _ _ _ _ c.loop.invariant.progress

pub returns-clause-answered : goal.returns-clause-answered
returns-clause-answered g c = λ same.
    progress-answered _ _ _ _ _ _ _ _ _ c.loop.invariant.progress (Keeps-refl (bytes_left g.R.Read.remaining c.loop.reader)) c.loop.invariant.no_line
