-- Texts that wait to be written to standard error.
use Rattle.std.specs.Prelude.{ℕ, ◌+◌, ◌^◌, ◌-◌, List, [], ◌∷◌, ◌++◌, length, sum_by, Option, Some, None, nat_lt, if◌then◌else◌}
use Rattle.bh_serve.specs.declared.report.Report.{Report}
use Rattle.bh_serve.specs.declared.report.Report.TheVariants.{More}

-- the texts that wait, and how many found no room since one did
pub record QueueView : Type 0 where
  pub waiting : List Report
  pub more : ℕ

-- one more, up to the greatest count
abbrev pub counted : ℕ → ℕ
counted n = if nat_lt n (2 ^ 64 - 1) then n + 1 else n

-- a text waits behind the others, or is counted
abbrev pub put : Report → QueueView → QueueView
put report q =
    if nat_lt (length q.waiting) 64 then record q { waiting = q.waiting ++ report ∷ [] } else record q { more = counted q.more }

abbrev pub taken_of : List Report → Option Report
taken_of [] = None
taken_of (report ∷ others) = Some report

abbrev pub taken : QueueView → Option Report
taken q = taken_of q.waiting

-- the count of what found no room waits where there is room now
abbrev pub with_more : List Report → ℕ → QueueView
with_more waiting more =
    if nat_lt 0 more then record { waiting = waiting ++ More more ∷ []; more = 0 } else record { waiting = waiting; more = more }

abbrev pub rest_of : List Report → ℕ → QueueView
rest_of [] more = record { waiting = []; more = more }
rest_of (report ∷ others) more = with_more others more

-- the texts behind the first
abbrev pub rest_after : QueueView → QueueView
rest_after q = rest_of q.waiting q.more

-- how many texts one tells of
abbrev pub said : Report → ℕ
said (More n) = n
said _ = 1

-- how many texts the queue has or has counted
abbrev pub in_all : QueueView → ℕ
in_all q = sum_by said q.waiting + q.more
