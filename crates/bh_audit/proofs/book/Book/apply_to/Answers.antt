use Rattle.std.proofs.Common.{◌≡◌, ◌∙◌, sym, ap, arith, List, slice_get, slice_set}
use Rattle.bh_journal.specs.Replay.{JournalView, written}
use Rattle.bh_audit.specs.Books.{BookView}
use Rattle.bh_audit.proofs.Journals.{audited_written, journal_read, placed, refused_same, registered, room_left}
use Rattle.bh_audit.proofs.Quiet.{quiet_after}
use Rattle.bh_audit.proofs.book.Book.apply_to.Goals as goal

pub write-requires : goal.write-requires
write-requires c =
    let before = c.self.inside in
    let audited = c.self.invariant.0 c.if-not-self.false in
    room_left before.core c.apply_to.new.self before.journals.items c.args.step.now c.apply_to.new.reply c.index_mut-journal.result.now audited c.apply_to.ensures (sym c.if-is_refused.ensures)
    (journal_read before.core c.apply_to.new.self before.journals.items c.args.step.now c.apply_to.new.reply c.index_mut-journal.result.now audited c.apply_to.ensures (sym c.if-is_refused.ensures) c.index_mut-journal.ensures.value)

pub invariant_of-self-2 : goal.invariant_of-self-2
invariant_of-self-2 c = (
  λ is_audited.
      let before = c.self.inside in
      let audited = c.self.invariant.0 is_audited in
      rw c.write.ensures
      (audited_written before.core c.apply_to.new.self before.journals.items c.args.step.now c.apply_to.new.reply c.index_mut-journal.result.now audited c.apply_to.ensures (sym c.if-is_refused.ensures)
      (journal_read before.core c.apply_to.new.self before.journals.items c.args.step.now c.apply_to.new.reply c.index_mut-journal.result.now audited c.apply_to.ensures (sym c.if-is_refused.ensures) c.index_mut-journal.ensures.value)),
  rw c.end_quiet.ensures (quiet_after c.self.inside.core c.apply_to.new.self c.self.inside.quiet_until.items c.args.step.now c.apply_to.new.reply c.self.invariant.1 c.apply_to.ensures),
)

pub invariant_of-self : goal.invariant_of-self
invariant_of-self c = (
  λ is_audited. rw (refused_same c.self.inside.core c.apply_to.new.self c.args.step.now c.apply_to.new.reply c.apply_to.ensures (sym c.is_refused.ensures ∙ c.if-is_refused.true)) (c.self.invariant.0 is_audited),
  rw c.end_quiet.ensures (quiet_after c.self.inside.core c.apply_to.new.self c.self.inside.quiet_until.items c.args.step.now c.apply_to.new.reply c.self.invariant.1 c.apply_to.ensures),
)

pub invariant_of-self-then-not-self : goal.invariant_of-self-then-not-self
invariant_of-self-then-not-self c = (
  λ is_audited. absurd (let unaudited = c.if-not-self.true in cc),
  rw c.end_quiet.ensures (quiet_after c.self.inside.core c.apply_to.new.self c.self.inside.quiet_until.items c.args.step.now c.apply_to.new.reply c.self.invariant.1 c.apply_to.ensures),
)

pub returns-clause-place : goal.returns-clause-place
returns-clause-place c = λ taken.
    placed c.self.inside.core c.apply_to.new.self c.args.step.now c.apply_to.new.reply c.steps-place.result c.apply_to.ensures taken c.steps-place.ensures.known

pub returns-clause-written : goal.returns-clause-written
returns-clause-written c = λ is_audited taken.
    let before = c.self.inside in
    let audited = c.self.invariant.0 c.if-not-self.false in
    let same : before.journals.items ≡ c.args.self.now.journals = ap (λ (b : BookView). b.journals) c.self.view_is in (
      c.index_mut-journal.result.now,
      ap (λ (js : List JournalView). slice_get js c.args.step.now.group.0) (sym same)
          ∙ journal_read before.core c.apply_to.new.self before.journals.items c.args.step.now c.apply_to.new.reply c.index_mut-journal.result.now audited c.apply_to.ensures taken c.index_mut-journal.ensures.value,
      ap (λ (j : JournalView). slice_set before.journals.items c.args.step.now.group.0 j) c.write.ensures
          ∙ ap (λ (js : List JournalView). slice_set js c.args.step.now.group.0 (written c.index_mut-journal.result.now c.args.step.now c.apply_to.new.reply)) same,
    )

pub returns-then-not-self-clause-place : goal.returns-then-not-self-clause-place
returns-then-not-self-clause-place c = λ taken.
    placed c.self.inside.core c.apply_to.new.self c.args.step.now c.apply_to.new.reply c.steps-place.result c.apply_to.ensures taken c.steps-place.ensures.known

pub index_mut-journal-requires : goal.index_mut-journal-requires
index_mut-journal-requires c =
    let before = c.self.inside in
    let audited = c.self.invariant.0 c.if-not-self.false in
    let known = registered before.core c.apply_to.new.self c.args.step.now c.apply_to.new.reply c.apply_to.ensures (sym c.if-is_refused.ensures) in
    omega (arith, known.2, audited.same, before.journals.ok.0)
