-- How many events the tables and the totals of a group have: the number by which it is shown that no count wraps.
use Rattle.std.specs.Prelude.{ℕ, ◌+◌, List, sum_by}
use Rattle.bh_base.specs.declared.event.Counts.{Counts}
use Rattle.bh_base.specs.declared.event.Window.{Window}
use Rattle.bh_base.specs.History.{PastView, counts_by}
use Rattle.bh_base.specs.Tables.{sum_in}
use Rattle.bh_base.specs.Runs.{View}

-- the sum over all kinds
abbrev pub total : Counts → ℕ
total c = c.bad_request + c.exception_thrown + c.failure + c.fallback_failure + c.fallback_missing + c.fallback_rejection + c.fallback_success + c.response_from_cache + c.semaphore_rejected + c.short_circuited + c.success + c.thread_pool_rejected + c.timeout

-- the events in the window at the moment, by a table at that moment
abbrev pub counted_in : Window → ℕ → List Counts → ℕ
counted_in w moment table = total (counts_by (sum_in w moment table moment))

-- those that both tables of a command have together with all that there were
unfoldable pub counted_past : ℕ → PastView → ℕ
counted_past moment p = counted_in p.window moment p.table + counted_in p.window moment p.health + total p.totals

-- and those of all commands
abbrev pub counted_pasts : ℕ → List PastView → ℕ
counted_pasts moment ps = sum_by (counted_past moment) ps

abbrev pub counted : View → ℕ
counted v = counted_pasts v.present.latest v.pasts
