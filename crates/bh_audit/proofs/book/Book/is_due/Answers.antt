use Rattle.std.proofs.Common.{◌≡◌, ◌∙◌, ap, arith, false, length, refl, sym}
use Rattle.std.proofs.lemmas.Option.{slice_get_read}
use Rattle.bh_core.specs.CoreView.{CoreView, view_at}
use Rattle.bh_audit.specs.Books.{BookView}
use Rattle.bh_audit.specs.Calls.{is_due, would_expire}
use Rattle.bh_audit.proofs.Quiet.{due_seen, quiet_before, quiet_noted}
use Rattle.bh_audit.proofs.book.Book.is_due.Goals as goal

pub returns-then-now-index-clause-due : goal.returns-then-now-index-clause-due
returns-then-now-index-clause-due c =
    let until = c.self.inside.quiet_until.items in
    let core_is : c.self.inside.core ≡ c.args.self.now.groups = ap (λ (b : BookView). b.groups) c.self.view_is in
    sym (ap (λ (gs : CoreView). is_due gs c.args.group c.args.now) (sym core_is)
    ∙ c.self.invariant.1.quiet c.args.group.0 c.index.result.now c.args.now
    (slice_get_read until (length until) c.args.group.0 c.index.result.now refl (omega (arith, c.if-place-len.false, c.len.ensures, c.self.inside.quiet_until.ok.0)) c.index.ensures)
    c.if-now-index.true)

pub invariant_of-self : goal.invariant_of-self
invariant_of-self c = (
  c.self.invariant.0,
  quiet_noted c.self.inside.core c.self.inside.quiet_until.items c.args.group.0 c.saturating_add-ahead.result c.self.invariant.1
      (sym (due_seen (view_at c.self.inside.core c.args.group.0) c.saturating_add-ahead.result c.due.result c.due.ensures.known c.due.ensures.unknown) ∙ c.if-due.false),
)

pub returns-clause-due : goal.returns-clause-due
returns-clause-due c =
    let shown = view_at c.self.inside.core c.args.group.0 in
    let ahead = c.saturating_add-ahead.result in
    let core_is : c.self.inside.core ≡ c.args.self.now.groups = ap (λ (b : BookView). b.groups) c.self.view_is in
    let none : would_expire shown ahead ≡ false = sym (due_seen shown ahead c.due.result c.due.ensures.known c.due.ensures.unknown) ∙ c.if-due.false in
    sym (ap (λ (gs : CoreView). is_due gs c.args.group c.args.now) (sym core_is)
    ∙ quiet_before shown c.args.now ahead (omega (arith, c.saturating_add-ahead.ensures, c.ranges.now.fits)) none)
