-- A step and a Collect that are made in one turn of the lock, and who goes on because of both.
use Rattle.std.proofs.Common.{◌≡◌, ℕ, Bor, Bool, true, false}
use Rattle.bh_base.specs.declared.reply.Reply.{Reply}
use Rattle.bh_base.specs.declared.step.GroupId.{GroupId}
use Rattle.bh_base.specs.declared.step.Op.{Op}
use Rattle.bh_base.specs.declared.step.Op.TheVariants as op
use Rattle.bh_base.specs.declared.step.Step.{Step}
use Rattle.bh_base.specs.Replies.{is_refusal}
use Rattle.bh_base.specs.Runs.{View}
use Rattle.bh_core.specs.CoreView.{CoreView}
use Rattle.bh_journal.specs.Passes.{PassView}
use Rattle.bh_audit.proofs.Looking.{missing}
use Rattle.bh_audit.specs.Calls.{AddsProgress, AddsStep, CanBeMissing, step_at}
use Rattle.bh_audit.specs.Turns.{Did, Does, Held, IsCollected, IsMade, IsMadeAndCollected}
use Rattle.bh_audit.specs.Waking.{FreesToo, KeepsWakeUps, LosesNoWakeUp}
use Rattle.bh_audit.specs.declared.asks.Answer.{Answer}
use Rattle.bh_audit.specs.declared.asks.Ask.{Ask}
use Rattle.bh_audit.specs.declared.asks.Ask.TheVariants as ask
use Rattle.bh_audit.specs.declared.asks.Said.{Said}
use Rattle.bh_audit.specs.declared.asks.Said.TheVariants as said
use Rattle.bh_audit.specs.declared.freed.Freed.{Freed}
use Rattle.bh_audit.specs.declared.next.Progress.{Progress}
use Rattle.bh_audit.specs.declared.next.Progress.TheVariants as progress

-- no wake-up is lost either where more are notified
loses_none_by_more : (before : View) (o : Op) (after : View) (f f' : Freed) → FreesToo f f' → LosesNoWakeUp before o after f → LosesNoWakeUp before o after f'
loses_none_by_more before o after f f' more h = record {
  worker = λ m m' idle started. more.worker (h.worker m m' idle started);
  next_worker = λ m told started. more.worker (h.next_worker m told started);
  caller = λ serial next m m' rise waits ends. more.caller serial (h.caller serial next m m' rise waits ends);
  worn = λ is. more.everybody (h.worn is);
}

keeps_by_more : (old : CoreView) (group : GroupId) (o : Op) (new : CoreView) (f f' : Freed) → FreesToo f f' → KeepsWakeUps old group o new f → KeepsWakeUps old group o new f'
keeps_by_more old group o new f f' more h = λ before after shown shown'. loses_none_by_more before o after f f' more (h before after shown shown')

made_by_more : (audited : Bool) (step : Step) (r : Reply) (old new : Held) (f f' : Freed) → FreesToo f f' → IsMade audited step r old new f → IsMade audited step r old new f'
made_by_more audited step r old new f f' more h = record {
  groups = h.groups;
  refused = h.refused;
  written = h.written;
  unwritten = h.unwritten;
  adds = h.adds;
  place = h.place;
  stopped = h.stopped;
  told = keeps_by_more old.book.groups step.group step.op new.book.groups f f' more h.told;
}

-- nothing else is said to a Collect
did_collect : (moments : ℕ → Type 0) (audited : Bool) (serial : ℕ) (old new : Held) (r : Reply) (s : Said) (f : Freed) → Does moments audited (ask.Collect serial) old new r s f → IsCollected moments audited serial r old new f
did_collect moments audited serial old new r said.Done f h = h
did_collect moments audited serial old new r _ f h = absurd h

-- a Collect behind a step, where those are notified whom either lets go on
pub both_made : (moments : ℕ → Type 0) (audited : Bool) (step : Step) (serial : ℕ) (first r : Reply) (old between new : Held) (s : Said) (f f' both : Freed)
    → IsMade audited step first old between f → is_refusal first ≡ false → Does moments audited (ask.Collect serial) between new r s f' → FreesToo f both → FreesToo f' both
    → IsMadeAndCollected moments audited step serial r old new both
both_made moments audited step serial first r old between new s f f' both made taken did these others =
    let k = did_collect moments audited serial between new r s f' did in
    record {
      first = first;
      between = between;
      made = made_by_more audited step first old between f both these made;
      taken = taken;
      collected = record {
        now = k.now;
        between = k.between;
        named = k.named;
        made = made_by_more audited _ r between (record new { pass = k.between }) f' both others k.made;
        was_stopped = k.was_stopped;
        adds = k.adds;
      };
    }

-- what was done in a turn under the lock of one kind was done by a service of that kind
pub did_so : (moments : ℕ → Type 0) (a b : Bool) (asked : Ask) (p q q' : PassView) (r r' : Reply) (s s' : Answer) → b ≡ a → q' ≡ q → r' ≡ r → s' ≡ s
    → Did moments a asked p q r s.said s.freed → (freed : Freed) × Did moments b asked p q' r' s'.said freed
did_so moments a b asked p q q' r r' s s' kind pass reply answer did = rw (kind, pass, reply, answer) (s.freed, did)

-- a Collect names no command
no_command : (serial : ℕ) → CanBeMissing (op.Collect serial) → ⊥
no_command serial lacks = (let both : true ≡ false = lacks.2 in cc)

step_told : (audited refused : Bool) (x : Step) (r : Reply) (old new : Held) (f : Freed) → IsMade audited x r old new f → is_refusal r ≡ refused → AddsStep audited refused old.pass x r new.pass
step_told audited refused x r old new f made is =
    record { adds = made.adds; refusal = is; kind = made.groups.kinds; missing = λ lacks. missing old.book.groups new.book.groups x r made.groups lacks }

-- what a step and a Collect behind it add to the pass, as far as they came
pub progress_told : (moments : ℕ → Type 0) (audited : Bool) (x : Bor Step) (serial : ℕ) (told : Progress) (p p' : PassView) (r : Reply) (f : Freed)
    → Did moments audited (ask.StepAndCollect x serial) p p' r (said.Progress told) f → AddsProgress moments audited p x.now serial told r p'
progress_told moments audited x serial progress.Refused p p' r f did = step_told audited true x.now r _ _ f did.4.0 did.4.1
progress_told moments audited x serial progress.Stepped p p' r f did = step_told audited false x.now r _ _ f did.4.0 did.4.1
progress_told moments audited x serial progress.Collected p p' r f did =
    let both = did.4 in
    let k = both.collected in
    record {
      first = both.first;
      between = both.between.pass;
      made = step_told audited false x.now both.first _ both.between f both.made both.taken;
      adds = k.adds;
      kind = k.made.groups.kinds;
      known = λ lacks. no_command serial (missing _ _ (step_at both.between.pass.group k.now (op.Collect serial)) r k.made.groups lacks);
    }
