-- A request context that a connection asks to enter.
use Rattle.std.proofs.Common.{◌≡◌, ℕ, Option, None, Some, sym, subst}
use Rattle.bh_base.specs.declared.step.GroupId.{GroupId}
use Rattle.bh_lease.specs.declared.leases.Refusal.{Refusal}
use Rattle.bh_lease.specs.Leases.{LeasesView, entered, entry_refusal}
use Rattle.bh_sharing.specs.Locked.{IsEntry, entered_unless}
use Rattle.bh_turns.proofs.Answering.{none_refused}

-- one that is refused for no reason is entered
pub entry-made : (group : GroupId) (context : ℕ) (had has : LeasesView) → ((why : Refusal) → entry_refusal group context had ≡ Some why → ⊥)
    → has ≡ record had { contexts = entered group context had.contexts } → IsEntry group context had None has
entry-made group context had has never is =
    let none : entry_refusal group context had ≡ None = none_refused (entry_refusal group context had) never in
    let P : Option Refusal → Type 0 = λ o. has ≡ entered_unless o group context had in (sym none, subst P (sym none) is)

-- of one that is refused nothing has changed
pub entry-refused : (group : GroupId) (context : ℕ) (had has : LeasesView) (why : Refusal)
    → entry_refusal group context had ≡ Some why → has ≡ had → IsEntry group context had (Some why) has
entry-refused group context had has why refused is =
    let P : Option Refusal → Type 0 = λ o. has ≡ entered_unless o group context had in (sym refused, subst P (sym refused) is)
