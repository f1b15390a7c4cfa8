use Rattle.std.proofs.Common.{◌≡◌, ◌∙◌, ap, true, false, sym, refl}
use Rattle.bh_core.specs.Looks.{expires_some}
use Rattle.bh_audit.specs.Calls.{is_due}
use Rattle.bh_audit.proofs.Looking.{expires, expires_above, is_expire_reply}
use Rattle.bh_lender.specs.Lender.{LenderView}
use Rattle.bh_lender.proofs.lender.Lender.expire_due.Goals as goal

pub returns-then-not-due : goal.returns-then-not-due
returns-then-not-due c =
    let none : is_due c.self.inside.core.groups c.args.group c.args.now ≡ false = sym c.due.ensures ∙ c.if-not-due.true in
    (refl, rw (ap (λ (v : LenderView). v.recorded) c.self.view_is) at none)

pub unreachable-requires : goal.unreachable-requires
unreachable-requires c =
    let reply = c.apply_to.new.reply in
    is_expire_reply reply (expires c.self.inside.core.groups c.apply_to.new.self.groups c.args.group c.args.now reply c.apply_to.ensures.0 (sym c.due.ensures ∙ c.if-not-due.false)) c.in_default.not-Expired

pub returns : goal.returns
returns c =
    let reply = c.apply_to.new.reply in
    let says : expires_some reply ≡ true = expires c.self.inside.core.groups c.apply_to.new.self.groups c.args.group c.args.now reply c.apply_to.ensures.0 (sym c.due.ensures ∙ c.if-not-due.false) in (
      expires_above c.in-Expired.number (rw c.in-Expired.is at says),
      (
        c.apply_to.new.self,
        c.settle.ensures.0,
        rw (ap (λ (v : LenderView). v.recorded) c.self.view_is) at (rw c.in-Expired.is at c.apply_to.ensures),
        rw (ap (λ (v : LenderView). v.left) c.self.view_is) at c.settle.ensures.1,
      ),
    )
