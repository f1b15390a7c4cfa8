use Rattle.std.proofs.Common.{◌≡◌, true, false, sym, ◌∙◌}
use Rattle.bh_base.specs.Runs.{is_worn}
use Rattle.bh_audit.proofs.Waking.{worn_look}
use Rattle.bh_audit.proofs.locked.Locked.freed.Goals as goal

pub returns-then-worn-clause-fresh : goal.returns-then-worn-clause-fresh
returns-then-worn-clause-fresh g c = λ v at is.
    let look : c.worn.result ≡ is_worn v.present = worn_look v c.worn.result (λ o moment known. (rw c.core.ensures at c.worn.ensures.known) v o moment at known) in
    let both : true ≡ false = sym c.if-worn.true ∙ look ∙ is in absurd cc

pub returns-then-not-startable-clause-worn : goal.returns-then-not-startable-clause-worn
returns-then-not-startable-clause-worn g c = λ v at is.
    let look : c.worn.result ≡ is_worn v.present = worn_look v c.worn.result (λ o moment known. (rw c.core.ensures at c.worn.ensures.known) v o moment at known) in
    let both : true ≡ false = sym is ∙ sym look ∙ c.if-worn.false in absurd cc

pub returns-then-not-is_told_again-clause-worn : goal.returns-then-not-is_told_again-clause-worn
returns-then-not-is_told_again-clause-worn g c = λ v at is.
    let look : c.worn.result ≡ is_worn v.present = worn_look v c.worn.result (λ o moment known. (rw c.core.ensures at c.worn.ensures.known) v o moment at known) in
    let both : true ≡ false = sym is ∙ sym look ∙ c.if-worn.false in absurd cc

pub returns-clause-worn : goal.returns-clause-worn
returns-clause-worn g c = λ v at is.
    let look : c.worn.result ≡ is_worn v.present = worn_look v c.worn.result (λ o moment known. (rw c.core.ensures at c.worn.ensures.known) v o moment at known) in
    let both : true ≡ false = sym is ∙ sym look ∙ c.if-worn.false in absurd cc
