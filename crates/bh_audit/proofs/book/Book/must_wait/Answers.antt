use Rattle.std.proofs.Common.{◌∙◌, ap, refl, sym}
use Rattle.bh_base.specs.declared.step.Op.TheVariants as op
use Rattle.bh_base.specs.Seen.{view_reply}
use Rattle.bh_core.specs.Looks.{is_assigned, is_worn_out}
use Rattle.bh_audit.specs.Books.{BookView}
use Rattle.bh_audit.proofs.Looking.{or_right}
use Rattle.bh_audit.proofs.book.Book.must_wait.Goals as goal

pub returns-then-worn-clause-goes_on : goal.returns-then-worn-clause-goes_on
returns-then-worn-clause-goes_on c = λ goes_on v at moment.
    or_right (is_assigned (view_reply v op.Start moment)) (is_worn_out (view_reply v op.Start moment))
    (sym (c.worn.ensures.known v op.Start moment (rw (ap (λ (b : BookView). b.groups) c.self.view_is) at) refl) ∙ c.if-worn.true)

pub returns-clause-fresh : goal.returns-clause-fresh
returns-clause-fresh c = λ waits v moment at.
    sym (c.worn.ensures.known v op.Start moment (rw (ap (λ (b : BookView). b.groups) c.self.view_is) at) refl) ∙ c.if-worn.false
