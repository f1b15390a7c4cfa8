use Rattle.std.proofs.Common.{◌≡◌, ℕ, ◌∷◌, ◌++◌, [], ◌∙◌, ap, sym, subst, List}
use Rattle.bh_core.specs.CoreView.{CoreView}
use Rattle.bh_journal.specs.Replay.{JournalView, empty_journal}
use Rattle.bh_audit.specs.Books.{IsAudited}
use Rattle.bh_audit.proofs.Journals.{audited_more}
use Rattle.bh_audit.proofs.Quiet.{quiet_registered}
use Rattle.bh_audit.proofs.book.Book.register.Goals as goal

pub invariant_of-self-2 : goal.invariant_of-self-2
invariant_of-self-2 c = (
  λ audited.
      let before = c.self.inside in
      let journals : c.push_reserved-3.new.self.items ≡ before.journals.items ++ empty_journal c.args.props.now c.args.step_limit ∷ [] = c.push_reserved-3.ensures.items ∙ (λ i. c.journal_behind.ensures.same i ++ c.in-Ok.ensures.made i ∷ []) in
      subst (λ (js : List JournalView). IsAudited c.register-2.new.self js) (sym journals)
      (subst (λ (gs : CoreView). IsAudited gs (before.journals.items ++ empty_journal c.args.props.now c.args.step_limit ∷ [])) (sym c.in_ok-id-2.ensures.added) (audited_more before.core before.journals.items c.args.props.now c.args.step_limit (c.self.invariant.0 audited))),
  quiet_registered c.self.inside.core c.register-2.new.self c.self.inside.quiet_until.items c.push_reserved-2.new.self.items c.args.props.now c.args.step_limit c.in_ok-id-2.ensures.added
      (c.push_reserved-2.ensures.items ∙ ap (λ (us : List ℕ). us ++ 0 ∷ []) c.reserve.ensures.items) c.self.invariant.1,
)

pub invariant_of-self-then-not-self : goal.invariant_of-self-then-not-self
invariant_of-self-then-not-self c = (
  λ audited. absurd (let unaudited = c.if-not-self.true in cc),
  quiet_registered c.self.inside.core c.register.new.self c.self.inside.quiet_until.items c.push_reserved.new.self.items c.args.props.now c.args.step_limit c.in_ok-id.ensures.added
      (c.push_reserved.ensures.items ∙ ap (λ (us : List ℕ). us ++ 0 ∷ []) c.reserve.ensures.items) c.self.invariant.1,
)
