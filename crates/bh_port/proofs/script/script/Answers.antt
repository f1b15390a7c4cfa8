use Rattle.std.proofs.Common.{rules, arith, refl, ap, ◌∙◌, Result, Ok, IfErr, ◌≡◌, inl, inr, Err}
use Rattle.std.proofs.lemmas.Result.{err_from_is_err_and}
use Rattle.bh_lines.specs.declared.port_error.PortError.TheVariants.{Read, Write, Line, Memory}
use Rattle.bh_lines.specs.declared.port_error.PortError.{PortError}
use Rattle.bh_lines.proofs.PortErrors.{unless-ok}
use Rattle.bh_streams.specs.Watched.{bytes_left, bytes_held}
use Rattle.bh_port.specs.Script.{IsNotRead}
use Rattle.bh_port.proofs.Running.{progress-start, progress-lines, progress-read, progress-stops, progress-ends, progress-front, progress-failed}
use Rattle.bh_port.proofs.script.script.Goals as goal

pub returns-in_err-write_answers-clause-text : goal.returns-in_err-write_answers-clause-text
returns-in_err-write_answers-clause-text g c =
    let p = err_from_is_err_and c.from_residual-in_err-write_answers.result c.from_residual-in_err-write_answers.ensures.1 in
    rw (p.1, p.2) (progress-stops _ _ _ _ (bytes_held g.W.Write.contents c.write_answers.new.writer) _ _ _ (Err c.in_err-write_answers.field-0.0) c.loop.invariant.progress c.in_err-write_answers.ensures.stopped)

pub returns-in_err-fill-clause-text : goal.returns-in_err-fill-clause-text
returns-in_err-fill-clause-text g c =
    let p = err_from_is_err_and c.from_residual-in_err-fill.result c.from_residual-in_err-fill.ensures.1 in
    let now = progress-lines _ _ _ _ _ _ _ c.write_answers.new.self.groups _ _ c.loop.invariant.progress c.in_ok-write_answers.ensures.answered in
    rw (p.1, p.2) (progress-front _ _ _ _ _ _ _ _ now c.in_err-fill.ensures.err)

pub returns-then-not-branch-clause-text : goal.returns-then-not-branch-clause-text
returns-then-not-branch-clause-text g c =
    let now = progress-lines _ _ _ _ _ _ _ c.write_answers.new.self.groups _ _ c.loop.invariant.progress c.in_ok-write_answers.ensures.answered in
    let piece = c.in_ok-fill.ensures.more in
    let ended = c.in_ok-fill.ensures.end (search rules) in
    progress-ends _ _ _ _ _ _ _ _ _ (progress-read _ _ _ _ _ _ _ _ _ _ now piece.1 piece.2) ended.0 c.write_last.ensures.outcome

pub loop-preserved : goal.loop-preserved
loop-preserved g c =
    let now = progress-lines _ _ _ _ _ _ _ c.write_answers.new.self.groups _ _ c.loop.invariant.progress c.in_ok-write_answers.ensures.answered in
    let piece = c.in_ok-fill.ensures.more in
    record {
      same_reader = c.in_ok-fill.ensures.same_reader ∙ c.loop.invariant.same_reader;
      same_writer = c.in_ok-write_answers.ensures.same_writer ∙ c.loop.invariant.same_writer;
      read_enough = omega (arith, c.in_ok-fill.ensures.one);
      read_no_more = omega (arith, c.in_ok-fill.ensures.one);
      none_failed = unless-ok _ _ c.in_ok-fill.ensures.not_failed ∙ c.loop.invariant.none_failed;
      none_refused = unless-ok _ _ c.in_ok-write_answers.ensures.not_refused ∙ c.loop.invariant.none_refused;
      piece = omega (arith, c.fill.auto.piece);
      places = c.loop.invariant.places;
      progress = progress-read _ _ _ _ _ _ _ _ _ _ now piece.1 piece.2;
    }

pub returns-clause-text : goal.returns-clause-text
returns-clause-text g c = progress-front _ _ _ _ _ _ _ Read c.loop.invariant.progress tt

not-read : (r : Result (Unit {0}) PortError) (e : PortError) → r ≡ Err e → IsNotRead e → ¬ (r ≡ Err Read)
not-read r Read is h same = h
not-read r Write is h same = let k : Write ≡ Read = cc in cc
not-read r Line is h same = let k : Line ≡ Read = cc in cc
not-read r Memory is h same = let k : Memory ≡ Read = cc in cc

pub returns-in_err-write_answers-clause-read : goal.returns-in_err-write_answers-clause-read
returns-in_err-write_answers-clause-read g c =
    let p = err_from_is_err_and c.from_residual-in_err-write_answers.result c.from_residual-in_err-write_answers.ensures.1 in
    let is : c.from_residual-in_err-write_answers.result ≡ Err c.in_err-write_answers.field-0.0 = rw (p.1, p.2) refl in
    λ same. absurd (not-read _ _ is c.in_err-write_answers.ensures.no_read same)

if-not-read : (r : Result (Unit {0}) PortError) → IfErr r IsNotRead → ¬ (r ≡ Err Read)
if-not-read (Ok x) h same = cc
if-not-read (Err e) h same = not-read (Err e) e refl h same

pub returns-then-not-branch-clause-read : goal.returns-then-not-branch-clause-read
returns-then-not-branch-clause-read g c = λ same. absurd (if-not-read _ c.write_last.ensures.no_read same)

pub returns-in_err-write_answers-clause-answered : goal.returns-in_err-write_answers-clause-answered
returns-in_err-write_answers-clause-answered g c =
    let p = err_from_is_err_and c.from_residual-in_err-write_answers.result c.from_residual-in_err-write_answers.ensures.1 in
    let is : c.from_residual-in_err-write_answers.result ≡ Err c.in_err-write_answers.field-0.0 = rw (p.1, p.2) refl in
    λ same. absurd (not-read _ _ is c.in_err-write_answers.ensures.no_read same)

pub returns-then-not-branch-clause-answered : goal.returns-then-not-branch-clause-answered
returns-then-not-branch-clause-answered g c = λ same. absurd (if-not-read _ c.write_last.ensures.no_read same)

error-is : (r : Result (Unit {0}) PortError) (x e k : PortError) → r ≡ Err x → x ≡ e → r ≡ Err k → e ≡ k
error-is r x e k made is same = cc

pub returns-in_err-fill-clause-answered : goal.returns-in_err-fill-clause-answered
returns-in_err-fill-clause-answered g c = λ same.
    let p = err_from_is_err_and c.from_residual-in_err-fill.result c.from_residual-in_err-fill.ensures.1 in
    let now = progress-lines _ _ _ _ _ _ _ c.write_answers.new.self.groups _ _ c.loop.invariant.progress c.in_ok-write_answers.ensures.answered in
    let kept = c.in_err-fill.ensures.kept (ap Err (error-is _ _ _ _ p.1 p.2 same)) in
    inr (progress-failed _ _ _ _ _ _ _ _ now kept.0 c.in_ok-write_answers.ensures.none_left)

-- an error that is passed on is the one that was answered
passed-on : {T : Type 0} (r : Result (Unit {0}) PortError) (f : Result T PortError) (x e k : PortError) → r ≡ Err x → x ≡ e → f ≡ Err e → f ≡ Err k → r ≡ Err k
passed-on r f x e k made is was same = (let one : e ≡ k = cc in made ∙ ap Err (is ∙ one))

pub returns-in_err-fill-clause-not_failed : goal.returns-in_err-fill-clause-not_failed
returns-in_err-fill-clause-not_failed g c =
    let p = err_from_is_err_and c.from_residual-in_err-fill.result c.from_residual-in_err-fill.ensures.1 in
    elim c.in_err-fill.ensures.not_failed [
      | inl failed ↦ inl (passed-on _ _ _ _ _ p.1 p.2 refl failed)
      | inr none ↦ inr (none ∙ c.loop.invariant.none_failed)
    ]

pub loop-init : goal.loop-init
loop-init g c = record {
  same_reader = refl;
  same_writer = refl;
  read_enough = omega arith;
  read_no_more = omega arith;
  none_failed = refl;
  none_refused = refl;
  piece = search rules;
  places = c.in_ok-opened.ensures.places;
  progress = rw c.in_ok-opened.ensures.empty (progress-start (bytes_left g.R.Read.remaining c.args.reader.now) (bytes_held g.W.Write.contents c.args.writer.now) _ _ c.in_ok-opened.ensures.agrees);
}
