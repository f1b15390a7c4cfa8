-- What steps make of the groups of a service are its groups still.
use Rattle.std.proofs.Common.{◌≡◌, ℕ, List, [], ◌∷◌, ◌++◌, Option, None, Some, ap, refl, subst, sym}
use Rattle.std.proofs.Math.Logic.{∥∥₁_map}
use Rattle.bh_base.specs.declared.reply.Reply.{Reply}
use Rattle.bh_base.specs.declared.step.Step.{Step}
use Rattle.bh_core.specs.CoreView.{CoreView}
use Rattle.bh_lease.specs.declared.leases.Refusal.{Refusal}
use Rattle.bh_lease.specs.Leases.{LeasesView, refusal}
use Rattle.bh_lender.specs.Lender.{DoesStep, IsGivenBack, LenderView}
use Rattle.bh_lender.specs.Recorded.{RecordedView}
use Rattle.bh_lender.specs.Steps.{AreSteps, Made}
use Rattle.bh_lender.proofs.Logging.{return_steps, turn_steps}
use Rattle.bh_sharing.specs.Service.{AreStepped, Facts, IsOf}
use Rattle.bh_turns.specs.Turn.{IsDone, IsDoneUnless}

-- further steps
stepped_then : (a b c : CoreView) (ms ns : List Made) → AreStepped a ms b → AreStepped b ns c → AreStepped a (ms ++ ns) c
stepped_then a b c [] ns p q = let P : CoreView → Type 0 = λ x. AreStepped x ns c in subst P p q
stepped_then a b c (m ∷ ms) ns p q = (p.0, p.1, stepped_then p.0 b c ms ns p.2 q)

-- steps, without the account and the log
groups_stepped : (old : RecordedView) (ms : List Made) (new : RecordedView) → AreSteps old ms new → AreStepped old.groups ms new.groups
groups_stepped old [] new p = ap (λ (r : RecordedView). r.groups) p
groups_stepped old (m ∷ ms) new p = (p.0.groups, p.1.0, groups_stepped p.0 ms new p.2)

-- what steps make of the groups of a service are its groups
pub of_stepped : (facts : Facts) (old : RecordedView) (ms : List Made) (new : RecordedView) → IsOf facts old.groups → AreSteps old ms new → IsOf facts new.groups
of_stepped facts old ms new of steps =
    ∥∥₁_map of (λ o. (o.0, o.1 ++ ms, o.2, stepped_then o.0 old.groups new.groups o.1 ms o.3 (groups_stepped old ms new steps)))

-- those with which it is opened are
pub of_opened : (facts : Facts) (groups : CoreView) → ∥ facts.opened groups ∥₁ → IsOf facts groups
of_opened facts groups opened = ∥∥₁_map opened (λ o. (groups, [], o, refl))

-- and so are the same ones
pub of_same : (facts : Facts) (old new : CoreView) → IsOf facts old → new ≡ old → IsOf facts new
of_same facts old new of same = let P : CoreView → Type 0 = λ x. IsOf facts x in subst P (sym same) of

-- one step, and what it lets holders do
pub of_turn : (facts : Facts) (step : Step) (reply : Reply) (old new : LenderView) → IsOf facts old.recorded.groups → DoesStep step reply old new → IsOf facts new.recorded.groups
of_turn facts step reply old new of does =
    of_stepped facts old.recorded ((step, reply) ∷ (turn_steps step reply old new does).0) new.recorded of (turn_steps step reply old new does).1

-- what a connection asked for
pub of_done : (facts : Facts) (step : Step) (reply : Reply) (old : LenderView) (had : LeasesView) (new : LenderView) (has : LeasesView)
    → IsOf facts old.recorded.groups → IsDone step reply old had new has → IsOf facts new.recorded.groups
of_done facts step reply old had new has of done = unless (refusal step.group step.op had) done
  where
    unless : (why : Option Refusal) → IsDoneUnless why step reply old had new has → IsOf facts new.recorded.groups
    unless (Some why) d = of_same facts old.recorded.groups new.recorded.groups of (ap (λ (l : LenderView). l.recorded.groups) d.0)
    unless None d = of_turn facts step reply old new of d.0

-- what was given back
pub of_returned : (facts : Facts) (now : ℕ) (had : LeasesView) (old new : LenderView) → IsOf facts old.recorded.groups → IsGivenBack now had old new → IsOf facts new.recorded.groups
of_returned facts now had old new of given =
    of_stepped facts old.recorded (return_steps now had old new given).0 new.recorded of (return_steps now had old new given).1
