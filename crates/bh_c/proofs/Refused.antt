-- What a call is told on a handle that is empty.
use Rattle.std.proofs.Common.{◌≡◌, refl, sym, subst, Option, None}
use Rattle.bh_c.specs.declared.outcome.Outcome.{Outcome}
use Rattle.bh_c.specs.declared.outcome.Outcome.TheVariants.{NotOpen}
use Rattle.bh_c.specs.declared.service.Service.{Service}
use Rattle.bh_c.specs.Exports.{IsNotOpen, Keeps, Works}

pub not_open : (is : Option Service) (Untouched : Type 0) → is ≡ None → Untouched → IsNotOpen is NotOpen Untouched
not_open is Untouched empty untouched = record { told = refl; empty = empty; untouched = untouched }

pub nothing_kept : (was is : Option Service) (Untouched : Type 0) (Tells : Service → Type 0) → was ≡ None → is ≡ None → Untouched → Keeps was is NotOpen Untouched Tells
nothing_kept was is Untouched Tells none empty untouched = subst (λ held. Keeps held is NotOpen Untouched Tells) (sym none) (not_open is Untouched empty untouched)

pub nothing_worked : (was is : Option Service) (Untouched : Type 0) (Does : Service → Service → Type 0) → was ≡ None → is ≡ None → Untouched → Works was is NotOpen Untouched Does
nothing_worked was is Untouched Does none empty untouched = subst (λ held. Works held is NotOpen Untouched Does) (sym none) (not_open is Untouched empty untouched)
