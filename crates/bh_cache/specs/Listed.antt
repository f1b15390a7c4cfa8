-- Tickets that lie at numbered places, as one list by rising serial.
use Rattle.std.specs.Prelude.{ℕ, zero, suc, nat_lt, ◌==◌, List, [], ◌∷◌, Option, Some, None, if◌then◌else◌}
use Rattle.bh_base.specs.declared.ticket.Ticket.{Ticket}

-- a ticket put in among those of greater serials
abbrev pub insert : Ticket → List Ticket → List Ticket
insert t [] = t ∷ []
insert t (u ∷ us) = if nat_lt t.serial u.serial then t ∷ u ∷ us else u ∷ insert t us

abbrev pub put_in : Option Ticket → List Ticket → List Ticket
put_in None ts = ts
put_in (Some t) ts = insert t ts

-- the tickets at the places below n, by rising serial
abbrev pub listed : (ℕ → Option Ticket) → ℕ → List Ticket
listed at zero = []
listed at (suc n) = put_in (at n) (listed at n)

-- the ticket of the serial is now t
abbrev pub now_is : Ticket → Ticket → Ticket
now_is t u = if u.serial == t.serial then t else u
