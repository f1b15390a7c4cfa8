-- Whose a ticket and a request context are: what is allowed to a connection, and what it has after each step that was made for it.
use Rattle.std.specs.Prelude.{◌≡◌, ℕ, zero, suc, Bool, true, false, not, ◌||◌, List, [], ◌∷◌, ◌++◌, filter, length, nat_lt, Option, Some, None, if◌then◌else◌}
use Rattle.std.specs.List.{list_any}
use Rattle.bh_base.specs.declared.step.GroupId.{GroupId}
use Rattle.bh_base.specs.declared.step.Op.{Op}
use Rattle.bh_base.specs.declared.step.Op.TheVariants as op
use Rattle.bh_base.specs.declared.reply.Reply.{Reply}
use Rattle.bh_base.specs.declared.reply.Reply.TheVariants as reply
use Rattle.bh_base.specs.Replies.{is_refusal}
use Rattle.bh_lease.specs.declared.lease.Lease.{Lease}
use Rattle.bh_lease.specs.declared.lease.Part.{Part}
use Rattle.bh_lease.specs.declared.lease.Part.TheVariants as part
use Rattle.bh_lease.specs.declared.lease.Within.{Within}
use Rattle.bh_lease.specs.declared.leases.Refusal.{Refusal}
use Rattle.bh_lease.specs.declared.leases.Refusal.TheVariants as refuses
use Rattle.bh_lease.specs.Lease.{begun, has_at, is_over, is_within, with_part}

-- the leases of a connection, in the order in which they began, and how many it may have; the request contexts that it is
-- within, in the order in which it entered them, and how many these may be; and whether it may change properties
pub record LeasesView : Type 0 where
  pub listed : List Lease
  pub contexts : List Within
  pub limit : ℕ
  pub most_contexts : ℕ
  pub may_tune : Bool

-- a connection that has nothing
abbrev pub no_leases : ℕ → ℕ → Bool → LeasesView
no_leases limit most may_tune =
    record { listed = []; contexts = []; limit = limit; most_contexts = most; may_tune = may_tune }

-- all of it was given back
abbrev pub cleared : LeasesView → LeasesView
cleared l = record l { listed = []; contexts = [] }

-- the place is that of the first item that passes the test
abbrev pub IsFirst : {X : Type 0} → (X → Bool) → List X → ℕ → Type 0
IsFirst test [] place = ⊥
IsFirst test (x ∷ xs) zero = test x ≡ true
IsFirst test (x ∷ xs) (suc place) = (test x ≡ false) × IsFirst test xs place

-- what is allowed

-- whether a further lease may begin
abbrev pub has_room : LeasesView → Bool
has_room l = nat_lt (length l.listed) l.limit

-- the refusal, unless the connection has the part of the ticket
abbrev pub unless_had : GroupId → ℕ → Part → Refusal → List Lease → Option Refusal
unless_had group serial p why ls = if list_any (has_at group serial p) ls then None else Some why

-- why an operation makes no step for the connection: what begins a lease wants room for it, and what is of a ticket wants
-- the part that the connection has of it; who changes a property must be one that may; nobody is asked for the rest
abbrev pub refusal : GroupId → Op → LeasesView → Option Refusal
refusal group (op.Submit request) l = if has_room l then None else Some refuses.Full
refusal group op.Start l = if has_room l then None else Some refuses.Full
refusal group (op.Finish serial body) l = unless_had group serial part.Run refuses.NotRunning l.listed
refusal group (op.Fail serial bad) l = unless_had group serial part.Run refuses.NotRunning l.listed
refusal group (op.Collect serial) l = unless_had group serial part.Holder refuses.NoTicket l.listed
refusal group (op.FallbackDone serial end) l = unless_had group serial part.Fallback refuses.NotInFallback l.listed
refusal group op.Expire l = None
refusal group (op.Close context) l = None
refusal group (op.Read command) l = None
refusal group (op.Totals command) l = None
refusal group (op.Tune command tuning) l = if l.may_tune then None else Some refuses.NotTunable

-- why a connection does not enter a context: it is within as many as it may; one that it is within it may enter again
abbrev pub entry_refusal : GroupId → ℕ → LeasesView → Option Refusal
entry_refusal group context l =
    if list_any (is_within group context) l.contexts || nat_lt (length l.contexts) l.most_contexts then None else Some refuses.Full

-- what the connection has

-- the first lease that has the part of the ticket gives it up, and is off the list where nothing is left of it
abbrev pub given_up : GroupId → ℕ → Part → List Lease → List Lease
given_up group serial p [] = []
given_up group serial p (l ∷ ls) =
    if has_at group serial p l
    then (if is_over (with_part p false l) then ls else with_part p false l ∷ ls)
    else l ∷ given_up group serial p ls

-- the first lease that holds the ticket has its fallback too
abbrev pub told_to_fall_back : GroupId → ℕ → List Lease → List Lease
told_to_fall_back group serial [] = []
told_to_fall_back group serial (l ∷ ls) =
    if has_at group serial part.Holder l then with_part part.Fallback true l ∷ ls else l ∷ told_to_fall_back group serial ls

-- a submit begins a lease where it got a ticket: that of a holder, who runs it too where it is to be run by the caller
abbrev pub after_submit : GroupId → Reply → List Lease → List Lease
after_submit group (reply.Queued serial) ls = ls ++ begun group serial true false ∷ []
after_submit group (reply.Joined serial) ls = ls ++ begun group serial true false ∷ []
after_submit group (reply.FallbackDue serial cause) ls = ls ++ begun group serial true false ∷ []
after_submit group (reply.Inline serial) ls = ls ++ begun group serial true true ∷ []
after_submit group _ ls = ls

-- a start begins a lease where it was assigned a run
abbrev pub after_start : GroupId → Reply → List Lease → List Lease
after_start group (reply.Assigned serial command arg) ls = ls ++ begun group serial false true ∷ []
after_start group _ ls = ls

-- the end of a run or of a fallback is told, unless the step was refused
abbrev pub after_end : GroupId → ℕ → Part → Reply → List Lease → List Lease
after_end group serial p r ls = if is_refusal r then ls else given_up group serial p ls

-- who collects the answer holds no more, and who is told to run the fallback has that too
abbrev pub after_collect : GroupId → ℕ → Reply → List Lease → List Lease
after_collect group serial (reply.Answered answer) ls = given_up group serial part.Holder ls
after_collect group serial reply.NoTicket ls = given_up group serial part.Holder ls
after_collect group serial (reply.RunFallback cause) ls = told_to_fall_back group serial ls
after_collect group serial _ ls = ls

-- the leases that the connection has after a step of the group with this reply
abbrev pub after : GroupId → Op → Reply → List Lease → List Lease
after group (op.Submit request) r ls = after_submit group r ls
after group op.Start r ls = after_start group r ls
after group (op.Finish serial body) r ls = after_end group serial part.Run r ls
after group (op.Fail serial bad) r ls = after_end group serial part.Run r ls
after group (op.Collect serial) r ls = after_collect group serial r ls
after group (op.FallbackDone serial end) r ls = after_end group serial part.Fallback r ls
after group op.Expire r ls = ls
after group (op.Close context) r ls = ls
after group (op.Read command) r ls = ls
after group (op.Totals command) r ls = ls
after group (op.Tune command tuning) r ls = ls

-- the contexts that it is within, once it entered one: each of them once
abbrev pub entered : GroupId → ℕ → List Within → List Within
entered group context ws =
    if list_any (is_within group context) ws then ws else ws ++ record { group = group; context = context } ∷ []

-- and after a step of the group: a Close that was made is the end of the context for the connection
abbrev pub contexts_after : GroupId → Op → Reply → List Within → List Within
contexts_after group (op.Close context) r ws = if is_refusal r then ws else filter (λ w. not (is_within group context w)) ws
contexts_after group _ r ws = ws

-- all that it has after a step of the group
abbrev pub leases_after : GroupId → Op → Reply → LeasesView → LeasesView
leases_after group o r l = record l { listed = after group o r l.listed; contexts = contexts_after group o r l.contexts }
