-- What one turn tells a connection.
use Rattle.std.proofs.Common.{◌≡◌, ℕ, List, ◌++◌, Bool, true, Option, Result, Ok, Err, OnErr, OnOk, ap, refl, inl, inr}
use Rattle.std.specs.declared.alloc.AllocError.{AllocError}
use Rattle.bh_base.specs.declared.reply.Reply.{Reply}
use Rattle.bh_base.specs.declared.step.GroupId.{GroupId}
use Rattle.bh_base.specs.declared.step.Op.{Op}
use Rattle.bh_desk.specs.declared.desk.Turn.{Turn}
use Rattle.bh_desk.specs.declared.desk.Turn.TheVariants as turn
use Rattle.bh_desk.specs.Turns.{IsTurn as IsDeskTurn, IsWaited}
use Rattle.bh_in_force.specs.declared.properties.InForce.{InForce}
use Rattle.bh_lease.specs.declared.leases.Refusal.{Refusal}
use Rattle.bh_lease.specs.Leases.{LeasesView, cleared}
use Rattle.bh_lines.specs.Names.{Names}
use Rattle.bh_share.specs.Answer.{entry_line}
use Rattle.bh_share.specs.declared.share_line.ShareLine.TheVariants as lines
use Rattle.bh_sharing.specs.Client.{ClientView, MayTell, gone_line}
use Rattle.bh_sharing.specs.declared.asks.Said.TheVariants as said
use Rattle.bh_sharing.specs.Locked.{IsEntry, IsTurnAt, LockedView}
use Rattle.bh_sharing.specs.Service.{Facts, IsOf}
use Rattle.bh_sharing.specs.Shared.{IsInForce, IsReturned, IsShared, IsTurn}
use Rattle.bh_turns.specs.Turn.{answer_line, in_force_line}

-- the line of a step that was made, or refused
pub shared-line : (facts : Facts) (names : Names) (group : GroupId) (o : Op) (wait : Bool) (old : LockedView) (had : LeasesView) (reply : Reply) (new : LockedView) (has : LeasesView) (refused : Option Refusal)
    → IsOf facts old.lender.recorded.groups → IsTurnAt facts group o wait old had reply new has (said.Told refused)
    → IsTurn facts names group o wait had has (answer_line refused names group reply)
shared-line facts names group o wait old had reply new has refused of t =
    (old, new, of, t.0, t.1, (reply, t.3, ap (λ (r : Option Refusal). answer_line r names group reply) t.2))

-- a connection whose step was made at once, or is to wait
pub told-turn : (facts : Facts) (gone : Type 0) (old new : ClientView) (group : GroupId) (o : Op) (wait : Bool) (before after : List ℕ) (result : Result Turn AllocError)
    → IsShared facts old.names group o wait old.leases before result new.leases after → new.names ≡ old.names
    → IsDeskTurn (MayTell facts gone) old (lines.Step group o wait) before result new after
told-turn facts gone old new group o wait before after (Ok turn.Answered) t same = (t.0, (same, inl t.1), t.2)
told-turn facts gone old new group o wait before after (Ok turn.Waits) t same = (both old new same t.2, t.3)
  where
    both : (a b : ClientView) → b.names ≡ a.names → b.leases ≡ a.leases → b ≡ a
    both a b n l = rw (n, l) refl
told-turn facts gone old new group o wait before after (Err refused) t same = (inr (t.0.0, (same, inl t.0.1)), t.1)

-- where it was answered
pub told-answered : (facts : Facts) (gone : Type 0) (old new : ClientView) (group : GroupId) (o : Op) (wait : Bool) (before after : List ℕ)
    → IsShared facts old.names group o wait old.leases before (Ok turn.Answered) new.leases after → new.names ≡ old.names
    → IsWaited (MayTell facts gone) old (lines.Step group o wait) before (Ok tt) new after
told-answered facts gone old new group o wait before after t same = (t.0, (same, inl t.1), t.2)

-- where memory was refused
pub told-refused : (facts : Facts) (gone : Type 0) (old new : ClientView) (group : GroupId) (o : Op) (wait : Bool) (before after : List ℕ) (refused : AllocError)
    → IsShared facts old.names group o wait old.leases before (Err refused) new.leases after → new.names ≡ old.names
    → IsWaited (MayTell facts gone) old (lines.Step group o wait) before (Err refused) new after
told-refused facts gone old new group o wait before after refused t same = (inr (t.0.0, (same, inl t.0.1)), t.1)

-- where its client is gone
pub told-gone : (facts : Facts) (gone : Type 0) (s : ClientView) (group : GroupId) (o : Op) (before after : List ℕ)
    → gone → after ≡ before ++ gone_line → IsWaited (MayTell facts gone) s (lines.Step group o true) before (Ok tt) s after
told-gone facts gone s group o before after is text = (gone_line, (refl, inr (refl, is, refl, refl)), text)

-- what is left of what was given back
pub returned-none : (facts : Facts) (had has : LeasesView) → IsReturned facts had has → IsReturned facts had (cleared had)
returned-none facts had has t = (t.0, t.1, t.2, (t.3.0, t.3.1, refl))

-- whether it is within a request context now
pub told-entry : (facts : Facts) (gone : Type 0) (old new : ClientView) (group : GroupId) (context : ℕ) (refused : Option Refusal) (before after : List ℕ) (result : Result (Unit {0}) AllocError)
    → new.names ≡ old.names → IsEntry group context old.leases refused new.leases → OnOk result (after ≡ before ++ entry_line refused) → OnErr result (after ≡ before)
    → IsWaited (MayTell facts gone) old (lines.Enter group context) before result new after
told-entry facts gone old new group context refused before after (Ok x) same is put kept = (entry_line refused, (same, (refused, is, refl)), put)
told-entry facts gone old new group context refused before after (Err e) same is put kept = (inr (entry_line refused, (same, (refused, is, refl))), kept)

-- what is in force of a command
pub told-in-force : (facts : Facts) (gone : Type 0) (s : ClientView) (group : GroupId) (command : ℕ) (found : Option InForce) (before after : List ℕ) (result : Result (Unit {0}) AllocError)
    → IsInForce facts group command found → OnOk result (after ≡ before ++ in_force_line found) → OnErr result (after ≡ before)
    → IsWaited (MayTell facts gone) s (lines.Properties group command) before result s after
told-in-force facts gone s group command found before after (Ok x) is put kept = (in_force_line found, (refl, (found, is, refl)), put)
told-in-force facts gone s group command found before after (Err e) is put kept = (inl refl, kept)
