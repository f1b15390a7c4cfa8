-- The holders that are left with the service, and what is done for them.
use Rattle.std.specs.Prelude.{◌≡◌, ◌<◌, ◌-◌, ◌==◌, ◌&&◌, ◌+◌, ℕ, Bool, true, false, List, [], ◌∷◌, length, nat_lt, slice_index_or, slice_set, remove, Option, None, Some, if◌then◌else◌}
use Rattle.std.specs.List.{AllByRecursion}
use Rattle.bh_base.specs.declared.reply.Reply.{Reply}
use Rattle.bh_base.specs.declared.reply.Reply.TheVariants as replies
use Rattle.bh_base.specs.declared.step.FallbackEnd.TheVariants as fallback
use Rattle.bh_base.specs.declared.step.GroupId.{GroupId}
use Rattle.bh_base.specs.declared.step.Op.TheVariants as op
use Rattle.bh_base.specs.Runs.{View}
use Rattle.bh_base.specs.Seen.{view_reply}
use Rattle.bh_core.specs.CoreView.{CoreView, view_at}
use Rattle.bh_core.specs.Looks.{is_pending}
use Rattle.bh_lender.specs.declared.lender.Left.{Left}
use Rattle.bh_lender.specs.Recorded.{RecordedView}
use Rattle.bh_lender.specs.Steps.{AreSteps, Made, step_at}

-- whether a Collect of the serial would be answered Pending, which no moment plays a part in
abbrev pub would_wait : Option View → ℕ → Bool
would_wait None serial = false
would_wait (Some v) serial = is_pending (view_reply v (op.Collect serial) 0)

-- how many holders one entry counts at most
abbrev pub most_counted : ℕ
most_counted = 4_294_967_295

-- whether the entry is of the ticket, and counts one holder more
abbrev pub counts_more : GroupId → ℕ → Left → Bool
counts_more group serial l = ((l.group.0 == group.0) && (l.serial == serial)) && nat_lt l.number most_counted

-- with one holder of the ticket more: its entry counts one more, or a new one stands behind the others
abbrev pub with_holder : GroupId → ℕ → List Left → List Left
with_holder group serial [] = record { group = group; serial = serial; number = 1 } ∷ []
with_holder group serial (l ∷ ls) =
    if counts_more group serial l then record l { number = l.number + 1 } ∷ ls else l ∷ with_holder group serial ls

-- with one holder less at a place, where this entry stands: it counts one less, or is off the list where that was the last
abbrev pub without_holder : Left → List Left → ℕ → List Left
without_holder holder left place =
    if nat_lt 1 holder.number then slice_set left place (record holder { number = holder.number - 1 }) else remove left place

-- whether a holder has to wait: the group is there and not worn, and the run or the fallback of the ticket has still to end
abbrev pub is_waiting : CoreView → Left → Bool
is_waiting groups holder = would_wait (view_at groups holder.group.0) holder.serial

-- each of the holders has to wait
abbrev pub AreWaiting : CoreView → List Left → Type 0
AreWaiting groups left = AllByRecursion (λ (holder : Left). is_waiting groups holder ≡ true) left

-- what a holder that is gone does behind a Collect, by its reply: told to run the fallback, it has none, so this counts as
-- missing, and it collects again; told anything else, it does no more
abbrev pub IsBehindCollect : ℕ → Left → Reply → List Made → Type 0
IsBehindCollect now holder (replies.RunFallback cause) made =
    (r : Reply) × (r' : Reply) × (made ≡
    (step_at holder.group now (op.FallbackDone holder.serial fallback.Missing), r)
    ∷ (step_at holder.group now (op.Collect holder.serial), r') ∷ [])
IsBehindCollect now holder _ made = made ≡ []

-- the steps by which a holder that is gone has collected: a Collect, and what its reply asks for
abbrev pub IsCollected : ℕ → Left → List Made → Type 0
IsCollected now holder made =
    (r : Reply) × (others : List Made) × (made ≡ (step_at holder.group now (op.Collect holder.serial), r) ∷ others) × IsBehindCollect now holder r others

-- one after another of the holders that are left need not wait, has collected by these steps, and is counted no more
abbrev pub Settles : ℕ → RecordedView → List Left → List (List Made) → RecordedView → List Left → Type 0
Settles now old left [] new left' = (new ≡ old) × (left' ≡ left)
Settles now old left (made ∷ others) new left' =
    (place : ℕ) × (holder : Left) × (mid : RecordedView) × (place < length left) × (holder ≡ slice_index_or left place holder)
    × (is_waiting old.groups holder ≡ false) × IsCollected now holder made × AreSteps old made mid
    × Settles now mid (without_holder holder left place) others new left'
