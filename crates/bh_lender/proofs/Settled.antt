-- What a holder that has collected does, and that one holder more has.
use Rattle.std.proofs.Common.{◌≡◌, ◌<◌, ℕ, false, List, [], ◌∷◌, ◌++◌, length, remove, slice_index_or, refl, ap, arith, subst, ◌∙◌}
use Rattle.bh_base.specs.declared.reply.Cause.{Cause}
use Rattle.bh_base.specs.declared.reply.Reply.{Reply}
use Rattle.bh_base.specs.declared.reply.Reply.TheVariants as replies
use Rattle.bh_lender.specs.declared.lender.Left.{Left}
use Rattle.bh_lender.specs.Recorded.{RecordedView}
use Rattle.bh_lender.specs.Steps.{AreSteps, Made}
use Rattle.bh_lender.specs.Settling.{IsBehindCollect, IsCollected, Settles, is_waiting, without_holder}

-- told anything but to run the fallback, a holder does no more
pub does_no_more : (now : ℕ) (holder : Left) (r : Reply) → ((cause : Cause) → r ≡ replies.RunFallback cause → ⊥) → IsBehindCollect now holder r []
does_no_more now holder (replies.RunFallback cause) other = absurd (other cause refl)
does_no_more now holder _ other = refl

-- behind those that have collected one more has, at a place of those that are left
pub one_more : (now : ℕ) (old : RecordedView) (left : List Left) (chunks : List (List Made)) (mid : RecordedView) (left' : List Left) (place : ℕ) (holder : Left) (made : List Made) (new : RecordedView)
    → Settles now old left chunks mid left' → place < length left' → holder ≡ slice_index_or left' place holder → is_waiting mid.groups holder ≡ false
    → IsCollected now holder made → AreSteps mid made new → Settles now old left (chunks ++ made ∷ []) new (without_holder holder left' place)
one_more now old left [] mid left' place holder made new so within is ready collected steps =
    let P : RecordedView → Type 0 = λ (r : RecordedView). is_waiting r.groups holder ≡ false in
    let Q : RecordedView → Type 0 = λ groups. AreSteps groups made new in
    let same : left' ≡ left = so.1 in
    (place, holder, new, omega (arith, within, ap (λ (xs : List Left). length xs) same), is ∙ ap (λ (xs : List Left). slice_index_or xs place holder) same, subst P so.0 ready, collected, subst Q so.0 steps, (refl, ap (λ (xs : List Left). without_holder holder xs place) same))
one_more now old left (c ∷ cs) mid left' place holder made new (p, h, m, w, i, r, g, s, others) within is ready collected steps =
    (p, h, m, w, i, r, g, s, one_more now m (without_holder h left p) cs mid left' place holder made new others within is ready collected steps)
