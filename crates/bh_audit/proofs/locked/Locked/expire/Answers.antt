use Rattle.std.proofs.Common.{◌≡◌, ◌∙◌, true, false, refl, sym}
use Rattle.bh_core.specs.CoreView.{view_at}
use Rattle.bh_core.specs.Looks.{expires_some}
use Rattle.bh_audit.specs.Calls.{is_due}
use Rattle.bh_audit.proofs.Looking.{expires, expires_above, is_expire_reply}
use Rattle.bh_audit.proofs.Quiet.{due_seen}
use Rattle.bh_audit.proofs.locked.Locked.expire.Goals as goal

pub returns-then-not-due : goal.returns-then-not-due
returns-then-not-due g c =
    let groups = c.args.self.now.book.groups in
    let group = c.group-group.result in
    let now = c.now-now.result in
    let due : c.due.result ≡ is_due groups group now = due_seen (view_at groups group.0) now c.due.result (rw c.core.ensures at c.due.ensures.known) (rw c.core.ensures at c.due.ensures.unknown) in
    let none : is_due groups group now ≡ false = sym due ∙ c.if-not-due.true in
    λ any. rw c.look.ensures (record { book = refl; stopped = refl; pass = refl }, (now, c.now-now.ensures, rw c.group-group.ensures at none))

pub unreachable-requires : goal.unreachable-requires
unreachable-requires g c =
    let groups = c.args.self.now.book.groups in
    let group = c.group-group.result in
    let now = c.now-now.result in
    let reply = c.step-freed.new.reply in
    let due : c.due.result ≡ is_due groups group now = due_seen (view_at groups group.0) now c.due.result (rw c.core.ensures at c.due.ensures.known) (rw c.core.ensures at c.due.ensures.unknown) in
    let says : expires_some reply ≡ true = expires groups _ group now reply c.step-freed.ensures.groups (sym due ∙ c.if-not-due.false) in
    is_expire_reply reply says c.in_default.not-Expired

pub returns : goal.returns
returns g c =
    let groups = c.args.self.now.book.groups in
    let group = c.group-group.result in
    let now = c.now-now.result in
    let reply = c.step-freed.new.reply in
    let due : c.due.result ≡ is_due groups group now = due_seen (view_at groups group.0) now c.due.result (rw c.core.ensures at c.due.ensures.known) (rw c.core.ensures at c.due.ensures.unknown) in
    let says : expires_some reply ≡ true = expires groups _ group now reply c.step-freed.ensures.groups (sym due ∙ c.if-not-due.false) in
    λ any. (
      expires_above c.in-Expired.number (rw c.in-Expired.is at says),
      (now, c.now-now.ensures, rw c.group-group.ensures at (rw c.in-Expired.is at c.step-freed.ensures)),
    )
