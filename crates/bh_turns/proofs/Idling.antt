-- Whether a start would be answered Idle, by what looks at the group say.
use Rattle.std.proofs.Common.{◌≡◌, ◌&&◌, ◌∙◌, Bool, true, false, not, Option, None, Some, is_some, ap, sym, refl}
use Rattle.bh_base.specs.declared.step.Op.TheVariants as op
use Rattle.bh_base.specs.Runs.{View}
use Rattle.bh_base.specs.Seen.{view_reply}
use Rattle.bh_core.specs.Looks.{is_assigned, is_worn_out}
use Rattle.bh_turns.specs.Turn.{would_idle}

-- not in a group that is not there
pub not_there : (o : Option View) → is_some o ≡ false → would_idle o ≡ false
not_there None none = refl
not_there (Some v) none = absurd cc

-- nor where a run would be assigned
pub assigned : (o : Option View) (startable : Bool) → ((v : View) → o ≡ Some v → startable ≡ is_assigned (view_reply v op.Start 0)) → startable ≡ true → would_idle o ≡ false
assigned None startable known is = refl
assigned (Some v) startable known is = ap (λ b. not b && not (is_worn_out (view_reply v op.Start 0))) (sym (known v refl) ∙ is)

-- else by whether the group is worn
pub by_wear : (o : Option View) (startable worn : Bool) → is_some o ≡ true → ((v : View) → o ≡ Some v → startable ≡ is_assigned (view_reply v op.Start 0)) → startable ≡ false
    → ((v : View) → o ≡ Some v → worn ≡ is_worn_out (view_reply v op.Start 0)) → not worn ≡ would_idle o
by_wear None startable worn some known is wear = absurd cc
by_wear (Some v) startable worn some known is wear =
    ap not (wear v refl) ∙ ap (λ b. not b && not (is_worn_out (view_reply v op.Start 0))) (sym (sym (known v refl) ∙ is))
