use Rattle.std.proofs.Common.{◌≡◌, ◌∙◌, ℕ, Some, ap, arith, false, length, refl, sym}
use Rattle.std.proofs.lemmas.Option.{slice_get_read}
use Rattle.bh_base.specs.declared.step.GroupId.{GroupId}
use Rattle.bh_journal.specs.Passes.{PassView}
use Rattle.bh_audit.specs.Books.{BookView}
use Rattle.bh_audit.specs.Calls.{is_due}
use Rattle.bh_audit.proofs.Lists.{all_up_to, position_first, position_none}
use Rattle.bh_audit.proofs.locked.Locked.first_due.Goals as goal

pub returns-then-is_due-clause-first : goal.returns-then-is_due-clause-first
returns-then-is_due-clause-first g c =
    let passes = c.args.passes.now in
    let place = c.loop-place.place in
    let pass = c.index-passes-place.result in
    let due : c.is_due.result ≡ is_due c.args.self.now.book.groups pass.group c.args.now =
    c.is_due.ensures.due
    ∙ ap (λ (b : BookView). is_due b.groups c.group.result c.args.now) c.loop-place.invariant.book
    ∙ ap (λ (id : GroupId). is_due c.args.self.now.book.groups id c.args.now) c.group.ensures in
    ap Some (omega arith)
    ∙ sym (position_first (λ (p : PassView). is_due c.args.self.now.book.groups p.group c.args.now) 0 passes place pass c.loop-place.invariant.before
    (slice_get_read passes (length passes) place pass refl (omega (arith, c.loop-place-test.true)) c.index-passes-place.is)
    (sym due ∙ c.if-is_due.true))

pub loop-place-preserved : goal.loop-place-preserved
loop-place-preserved g c =
    let passes = c.args.passes.now in
    let place = c.loop-place.place in
    let pass = c.index-passes-place.result in
    let due : c.is_due.result ≡ is_due c.args.self.now.book.groups pass.group c.args.now =
    c.is_due.ensures.due
    ∙ ap (λ (b : BookView). is_due b.groups c.group.result c.args.now) c.loop-place.invariant.book
    ∙ ap (λ (id : GroupId). is_due c.args.self.now.book.groups id c.args.now) c.group.ensures in
    record {
      book = c.is_due.ensures.same ∙ c.loop-place.invariant.book;
      stopped = c.loop-place.invariant.stopped;
      before = all_up_to (λ (p : PassView). is_due c.args.self.now.book.groups p.group c.args.now ≡ false) passes place pass c.loop-place.invariant.before
          (slice_get_read passes (length passes) place pass refl (omega (arith, c.loop-place-test.true)) c.index-passes-place.is)
          (sym due ∙ c.if-is_due.false);
    }

pub returns-clause-first : goal.returns-clause-first
returns-clause-first g c =
    sym (position_none (λ (p : PassView). is_due c.args.self.now.book.groups p.group c.args.now) 0 c.args.passes.now (λ (j : ℕ) lt. c.loop-place.invariant.before j (omega (arith, lt, c.loop-place-test.false))))
