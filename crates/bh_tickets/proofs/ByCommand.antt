-- The counts of a group's tickets by command.
use Rattle.std.proofs.Common.{◌≡◌, ℕ, ◌+◌, ◌<◌, ◌≤◌, ◌^◌, inl, inr, Bool, true, false, List, length, refl, ◌∙◌, sym, ap, subst, arith}
use Rattle.std.specs.Prelude.{◌&&◌, slice_set}
use Rattle.std.proofs.lemmas.Bool.{cases_eq, eq-eqb, ne_eqb}
use Rattle.std.proofs.lemmas.List.{get_or-set_same, get_or-set_other}
use Rattle.bh_base.specs.declared.ticket.Ticket.{Ticket}
use Rattle.bh_base.specs.Tickets.{is_of, is_queued, is_in_fallback}
use Rattle.bh_cache.specs.Slots.{one}
use Rattle.bh_tickets.specs.declared.counts.CommandCounts.{CommandCounts}
use Rattle.bh_tickets.specs.Counts.{AreCounts, HasRoomFor, IsCounted, all_less, all_more, busy_of, counts_of, in_fallback_of, zero_counts, one_less, one_more, queued_of}

-- a test counts for one at most
pub one_few : (b : Bool) → one b ≤ 1
one_few true = omega arith
one_few false = omega arith

-- where as many tickets pass each test, the counts are the same
pub counts_alike : (f h : (Ticket → Bool) → ℕ) (command : ℕ) (n : CommandCounts) → ((q : Ticket → Bool) → h q ≡ f q) → AreCounts f command n → AreCounts h command n
counts_alike f h command n same are = record {
  busy = are.busy ∙ sym (same (busy_of command));
  queued = are.queued ∙ sym (same (queued_of command));
  in_fallback = are.in_fallback ∙ sym (same (in_fallback_of command));
}

-- a test that also asks for the ticket's own command
own : (t : Ticket) (b : Bool) → one (is_of t.command t && b) ≡ one b
own t b = ap (λ c. one (c && b)) (eq-eqb t.command t.command refl)

-- and one that asks for another
other : (t : Ticket) (command : ℕ) (b : Bool) → (command ≡ t.command → ⊥) → one (is_of command t && b) ≡ 0
other t command b ne = ap (λ c. one (c && b)) (ne_eqb t.command command (λ e. ne (sym e)))

module _ (f : (Ticket → Bool) → ℕ) (t : Ticket) (n : CommandCounts) (are : AreCounts f t.command n) where
  -- where each test counts the ticket, it is in the counts of its command
  pub is_counted : ((q : Ticket → Bool) → one (q t) ≤ f q) → IsCounted t n
  is_counted has = record {
    busy = omega (arith, are.busy, own t t.busy, has (busy_of t.command));
    queued = omega (arith, are.queued, own t (is_queued t), has (queued_of t.command));
    in_fallback = omega (arith, are.in_fallback, own t (is_in_fallback t), has (in_fallback_of t.command));
  }

  -- where each test counts few, there is room for the ticket in the counts of its command
  pub has_room : ((q : Ticket → Bool) → f q + 1 < 2 ^ 64) → HasRoomFor t n
  has_room few = record {
    busy = omega (arith, are.busy, one_few t.busy, few (busy_of t.command));
    queued = omega (arith, are.queued, one_few (is_queued t), few (queued_of t.command));
    in_fallback = omega (arith, are.in_fallback, one_few (is_in_fallback t), few (in_fallback_of t.command));
  }

  -- where each test counts the ticket no more, the counts of its command are those without it
  less_own : (h : (Ticket → Bool) → ℕ) → ((q : Ticket → Bool) → h q + one (q t) ≡ f q) → AreCounts h t.command (one_less t n)
  less_own h less = record {
    busy = omega (arith, are.busy, own t t.busy, less (busy_of t.command));
    queued = omega (arith, are.queued, own t (is_queued t), less (queued_of t.command));
    in_fallback = omega (arith, are.in_fallback, own t (is_in_fallback t), less (in_fallback_of t.command));
  }

  -- where each test counts the ticket too, the counts of its command are those with it
  more_own : (h : (Ticket → Bool) → ℕ) → ((q : Ticket → Bool) → h q ≡ f q + one (q t)) → AreCounts h t.command (one_more t n)
  more_own h more = record {
    busy = omega (arith, are.busy, own t t.busy, more (busy_of t.command));
    queued = omega (arith, are.queued, own t (is_queued t), more (queued_of t.command));
    in_fallback = omega (arith, are.in_fallback, own t (is_in_fallback t), more (in_fallback_of t.command));
  }

-- where each test that the ticket does not pass counts as before, the counts of another command are the same
others_same : (f h : (Ticket → Bool) → ℕ) (t : Ticket) (command : ℕ) (n : CommandCounts) → (command ≡ t.command → ⊥) → ((q : Ticket → Bool) → one (q t) ≡ 0 → h q ≡ f q) → AreCounts f command n → AreCounts h command n
others_same f h t command n ne same are = record {
  busy = are.busy ∙ sym (same (busy_of command) (other t command t.busy ne));
  queued = are.queued ∙ sym (same (queued_of command) (other t command (is_queued t) ne));
  in_fallback = are.in_fallback ∙ sym (same (in_fallback_of command) (other t command (is_in_fallback t) ne));
}

module _ (f h : (Ticket → Bool) → ℕ) (t : Ticket) (cs : List CommandCounts) (size : length cs ≡ 16) (known : t.command < 16) (are : (command : ℕ) → command < 16 → AreCounts f command (counts_of cs command)) where
  -- the entry of the ticket's command is written
  written : (n : CommandCounts) → AreCounts h t.command n → ((q : Ticket → Bool) → one (q t) ≡ 0 → h q ≡ f q) → (command : ℕ) → command < 16 → AreCounts h command (counts_of (slice_set cs t.command n) command)
  written n now same command lt = elim (cases_eq command t.command) [
    | inl e ↦ subst (λ c. AreCounts h c (counts_of (slice_set cs t.command n) c)) (sym e) (subst (AreCounts h t.command) (sym (get_or-set_same cs t.command n zero_counts (omega (arith, size, known)))) now)
    | inr ne ↦ subst (AreCounts h command) (sym (get_or-set_other cs t.command command n zero_counts ne)) (others_same f h t command (counts_of cs command) ne same (are command lt))
  ]

  -- the counts of all commands, where each test counts the ticket no more
  pub counts_less : ((q : Ticket → Bool) → h q + one (q t) ≡ f q) → (command : ℕ) → command < 16 → AreCounts h command (counts_of (all_less t cs) command)
  counts_less less = written (one_less t (counts_of cs t.command)) (less_own f t (counts_of cs t.command) (are t.command known) h less) (λ q none. omega (arith, none, less q))

  -- the counts of all commands, where each test counts the ticket too
  pub counts_more : ((q : Ticket → Bool) → h q ≡ f q + one (q t)) → (command : ℕ) → command < 16 → AreCounts h command (counts_of (all_more t cs) command)
  counts_more more = written (one_more t (counts_of cs t.command)) (more_own f t (counts_of cs t.command) (are t.command known) h more) (λ q none. omega (arith, none, more q))
