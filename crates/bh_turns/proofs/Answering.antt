-- What comes of a step that a connection asks for.
use Rattle.std.proofs.Common.{◌≡◌, Option, None, Some, refl, sym, subst}
use Rattle.bh_base.specs.declared.reply.Reply.{Reply}
use Rattle.bh_base.specs.declared.step.Step.{Step}
use Rattle.bh_lease.specs.declared.leases.Refusal.{Refusal}
use Rattle.bh_lease.specs.Leases.{LeasesView, leases_after, refusal}
use Rattle.bh_lender.specs.Lender.{DoesStep, LenderView}
use Rattle.bh_turns.specs.Turn.{IsDone, IsDoneUnless}

-- what is not refused for any reason is not refused
pub none_refused : (o : Option Refusal) → ((why : Refusal) → o ≡ Some why → ⊥) → o ≡ None
none_refused None never = refl
none_refused (Some why) never = absurd (never why refl)

-- a step that is not refused is made
pub done-made : (step : Step) (reply : Reply) (old : LenderView) (had : LeasesView) (new : LenderView) (has : LeasesView)
    → refusal step.group step.op had ≡ None → DoesStep step reply old new → has ≡ leases_after step.group step.op reply had
    → IsDone step reply old had new has
done-made step reply old had new has is does noted =
    let P : Option Refusal → Type 0 = λ o. IsDoneUnless o step reply old had new has in subst P (sym is) (does, noted)

-- of one that is refused nothing is done
pub done-refused : (step : Step) (reply : Reply) (old : LenderView) (had : LeasesView) (new : LenderView) (has : LeasesView) (why : Refusal)
    → refusal step.group step.op had ≡ Some why → new ≡ old → has ≡ had → IsDone step reply old had new has
done-refused step reply old had new has why is same kept =
    let P : Option Refusal → Type 0 = λ o. IsDoneUnless o step reply old had new has in subst P (sym is) (same, kept)
