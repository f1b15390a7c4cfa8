-- Since when tickets of a command wait or run.
use Rattle.std.proofs.Common.{◌≡◌, ℕ, ◌<◌, ◌≤◌, inl, inr, Bool, true, false, List, length, ◌∙◌, sym, ap, subst, arith}
use Rattle.std.specs.Prelude.{min, if◌then◌else◌}
use Rattle.std.proofs.lemmas.Bool.{cases_eq}
use Rattle.std.proofs.lemmas.List.{get_or-set_same, get_or-set_other}
use Rattle.bh_base.specs.declared.ticket.Ticket.{Ticket}
use Rattle.bh_tickets.specs.declared.counts.CommandCounts.{CommandCounts}
use Rattle.bh_tickets.specs.Counts.{all_less, all_more, counts_of, is_open, zero_counts, one_less, one_more, open_since, since_with}

-- with a ticket more it is not later
with_earlier : (t : Ticket) (since : ℕ) → since_with t since ≤ since
with_earlier t since = by (is_open t)
  where
    by : (b : Bool) → (if b then min since t.submitted else since) ≤ since
    by true = omega arith
    by false = omega arith

-- and not after the submit of that ticket, where it waits or runs
with_own : (t : Ticket) (since : ℕ) → is_open t ≡ true → since_with t since ≤ t.submitted
with_own t since opens = subst (λ b. (if b then min since t.submitted else since) ≤ t.submitted) (sym opens) (omega arith)

module _ (cs : List CommandCounts) (t : Ticket) (known : t.command < length cs) where
  -- the ticket that leaves changes nothing
  pub since_less : (command : ℕ) → open_since (all_less t cs) command ≡ open_since cs command
  since_less command = elim (cases_eq command t.command) [
    | inl e ↦
        ap (λ c. open_since (all_less t cs) c) e ∙ ap (λ (n : CommandCounts). n.open_since) (get_or-set_same cs t.command (one_less t (counts_of cs t.command)) zero_counts known)
        ∙ ap (λ c. open_since cs c) (sym e)
    | inr ne ↦ ap (λ (n : CommandCounts). n.open_since) (get_or-set_other cs t.command command (one_less t (counts_of cs t.command)) zero_counts ne)
  ]

  more_own : open_since (all_more t cs) t.command ≡ since_with t (open_since cs t.command)
  more_own = ap (λ (n : CommandCounts). n.open_since) (get_or-set_same cs t.command (one_more t (counts_of cs t.command)) zero_counts known)

  -- with the ticket more, it is later for no command
  pub since_more : (command : ℕ) → open_since (all_more t cs) command ≤ open_since cs command
  since_more command = elim (cases_eq command t.command) [
    | inl e ↦ subst (λ c. open_since (all_more t cs) c ≤ open_since cs c) (sym e) (omega (arith, more_own, with_earlier t (open_since cs t.command)))
    | inr ne ↦
        let same : open_since (all_more t cs) command ≡ open_since cs command = ap (λ (n : CommandCounts). n.open_since) (get_or-set_other cs t.command command (one_more t (counts_of cs t.command)) zero_counts ne) in
        omega (arith, same)
  ]

  -- and not after the ticket's submit, where that waits or runs
  pub since_own : is_open t ≡ true → open_since (all_more t cs) t.command ≤ t.submitted
  since_own opens = omega (arith, more_own, with_own t (open_since cs t.command) opens)
