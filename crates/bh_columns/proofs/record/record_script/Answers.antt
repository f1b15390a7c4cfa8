use Rattle.std.proofs.Common.{◌≡◌, rules, arith, ◌∙◌, Err, ap, inl, inr, refl}
use Rattle.std.proofs.lemmas.Result.{err_from_is_err_and}
use Rattle.bh_lines.specs.declared.port_error.PortError.TheVariants.{Read}
use Rattle.bh_lines.proofs.PortErrors.{unless-ok}
use Rattle.bh_props.specs.Shown.{settings_view}
use Rattle.bh_look.proofs.Reading.{error-is, not-read, passed-not-read, passed-on}
use Rattle.bh_columns.proofs.Reading.{progress_start, progress_lines, progress_read, progress_stops, progress_ends, progress_failed, nothing_said}
use Rattle.bh_columns.proofs.record.record_script.Goals as goal

pub loop-init : goal.loop-init
loop-init g c = record {
  same_reader = refl;
  read_enough = omega arith;
  read_no_more = omega arith;
  none_failed = refl;
  piece = omega arith;
  progress = λ sel run recorded. rw c.new-buffer.ensures.items (progress_start _ sel run _ _ _ recorded);
}

pub returns-in_err-take_lines-clause-outcome : goal.returns-in_err-take_lines-clause-outcome
returns-in_err-take_lines-clause-outcome g c = λ sel run recorded.
    let p = err_from_is_err_and c.from_residual.result c.from_residual.ensures.1 in
    rw (p.1, p.2) (progress_stops _ sel run _ _ _ c.take_lines.new.self.groups _ c.take_lines.new.self.kept _ (Err c.in_err-take_lines.field-0.0) (c.loop.invariant.progress sel run recorded) (λ later more was. c.in_err-take_lines.ensures.stopped sel later more was))

pub returns-in_err-fill-clause-outcome : goal.returns-in_err-fill-clause-outcome
returns-in_err-fill-clause-outcome g c = λ sel run recorded.
    let p = err_from_is_err_and c.from_residual-in_err-fill.result c.from_residual-in_err-fill.ensures.1 in
    rw (p.1, p.2) (nothing_said _ sel run _ _ _ _ c.in_err-fill.ensures.err)

pub returns-then-not-branch-clause-outcome : goal.returns-then-not-branch-clause-outcome
returns-then-not-branch-clause-outcome g c = λ sel run recorded.
    let now = progress_lines _ sel run _ _ _ _ _ _ _ _ (c.loop.invariant.progress sel run recorded) (λ later was. c.in_ok-take_lines.ensures.taken sel later was) in
    let piece = c.in_ok-fill.ensures.more in
    let ended = c.in_ok-fill.ensures.end (search rules) in
    progress_ends _ sel run _ _ _ _ _ _ _ _ (progress_read _ sel run _ _ _ _ _ _ _ _ now piece.1 piece.2) ended.0 (λ later was. c.take_last.ensures.outcome sel later was)

pub loop-preserved : goal.loop-preserved
loop-preserved g c =
    let piece = c.in_ok-fill.ensures.more in
    record {
      same_reader = c.in_ok-fill.ensures.same_reader ∙ c.loop.invariant.same_reader;
      read_enough = omega (arith, c.in_ok-fill.ensures.one);
      read_no_more = omega (arith, c.in_ok-fill.ensures.one);
      none_failed = unless-ok _ _ c.in_ok-fill.ensures.not_failed ∙ c.loop.invariant.none_failed;
      piece = omega (arith, c.fill.auto.piece);
      progress = λ sel run recorded.
          progress_read _ sel run _ _ _ _ _ _ _ _ (progress_lines _ sel run _ _ _ _ _ _ _ _ (c.loop.invariant.progress sel run recorded) (λ later was. c.in_ok-take_lines.ensures.taken sel later was)) piece.1 piece.2;
    }

pub returns-clause-outcome : goal.returns-clause-outcome
returns-clause-outcome g c = λ sel run recorded. nothing_said (settings_view c.args.settings.now) sel run _ c.loop.recording.groups c.loop.recording.kept Read tt

-- ---- whether a read failed

pub returns-in_err-take_lines-clause-read : goal.returns-in_err-take_lines-clause-read
returns-in_err-take_lines-clause-read g c =
    let p = err_from_is_err_and c.from_residual.result c.from_residual.ensures.1 in
    let is : c.from_residual.result ≡ Err c.in_err-take_lines.field-0.0 = rw (p.1, p.2) refl in
    λ same. absurd (passed-not-read _ _ is c.in_err-take_lines.ensures.kinds same)

pub returns-in_err-take_lines-clause-taken : goal.returns-in_err-take_lines-clause-taken
returns-in_err-take_lines-clause-taken g c =
    let p = err_from_is_err_and c.from_residual.result c.from_residual.ensures.1 in
    let is : c.from_residual.result ≡ Err c.in_err-take_lines.field-0.0 = rw (p.1, p.2) refl in
    λ same. absurd (passed-not-read _ _ is c.in_err-take_lines.ensures.kinds same)

pub returns-in_err-fill-clause-not_failed : goal.returns-in_err-fill-clause-not_failed
returns-in_err-fill-clause-not_failed g c =
    let p = err_from_is_err_and c.from_residual-in_err-fill.result c.from_residual-in_err-fill.ensures.1 in
    elim c.in_err-fill.ensures.not_failed [
      | inl failed ↦ inl (passed-on _ _ _ _ _ p.1 p.2 refl failed)
      | inr none ↦ inr (none ∙ c.loop.invariant.none_failed)
    ]

pub returns-in_err-fill-clause-taken : goal.returns-in_err-fill-clause-taken
returns-in_err-fill-clause-taken g c = λ same.
    let p = err_from_is_err_and c.from_residual-in_err-fill.result c.from_residual-in_err-fill.ensures.1 in
    let kept = c.in_err-fill.ensures.kept (ap Err (error-is _ _ _ _ p.1 p.2 same)) in
    inr (λ sel run recorded.
    let now = progress_lines _ sel run _ _ _ _ _ _ _ _ (c.loop.invariant.progress sel run recorded) (λ later was. c.in_ok-take_lines.ensures.taken sel later was) in
    progress_failed _ sel run _ _ _ _ _ _ now kept.0 c.in_ok-take_lines.ensures.none_left)

pub returns-then-not-branch-clause-read : goal.returns-then-not-branch-clause-read
returns-then-not-branch-clause-read g c = λ same. absurd (not-read _ c.take_last.ensures.kinds same)

pub returns-then-not-branch-clause-taken : goal.returns-then-not-branch-clause-taken
returns-then-not-branch-clause-taken g c = λ same. absurd (not-read _ c.take_last.ensures.kinds same)
