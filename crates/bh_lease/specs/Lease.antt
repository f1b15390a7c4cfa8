-- What a connection has of one ticket, or of one request context.
use Rattle.std.specs.Prelude.{ℕ, Bool, false, ◌&&◌, ◌==◌, not}
use Rattle.bh_base.specs.declared.step.GroupId.{GroupId}
use Rattle.bh_lease.specs.declared.lease.Lease.{Lease}
use Rattle.bh_lease.specs.declared.lease.Part.{Part}
use Rattle.bh_lease.specs.declared.lease.Part.TheVariants as part
use Rattle.bh_lease.specs.declared.lease.Within.{Within}

-- whether the connection has this part of it
abbrev pub has : Part → Lease → Bool
has part.Holder l = l.holds
has part.Run l = l.runs
has part.Fallback l = l.falls_back

-- with this part, or without it
abbrev pub with_part : Part → Bool → Lease → Lease
with_part part.Holder is l = record l { holds = is }
with_part part.Run is l = record l { runs = is }
with_part part.Fallback is l = record l { falls_back = is }

-- whether it is of the ticket, and the connection has this part
abbrev pub has_at : GroupId → ℕ → Part → Lease → Bool
has_at group serial p l = ((l.group.0 == group.0) && (l.serial == serial)) && has p l

-- whether all of it was given back
abbrev pub is_over : Lease → Bool
is_over l = (not l.holds && not l.runs) && not l.falls_back

-- a lease of a ticket of the group, as it begins
abbrev pub begun : GroupId → ℕ → Bool → Bool → Lease
begun group serial holds runs = record { group = group; serial = serial; holds = holds; runs = runs; falls_back = false }

-- whether it is this context of the group
abbrev pub is_within : GroupId → ℕ → Within → Bool
is_within group context w = (w.group.0 == group.0) && (w.context == context)
