-- The due tickets of the first commands of a group, and of one command more.
use Rattle.std.proofs.Common.{◌≡◌, ℕ, ◌+◌, ◌-◌, ◌<◌, ◌≤◌, Bool, true, false, cond, List, [], ◌∷◌, length, map, get_or, set, filter, refl, ◌∙◌, sym, ap, arith, zero, suc}
use Rattle.std.specs.Prelude.{◌≢◌, ◌==◌, ◌&&◌, ◌||◌, nat_lt, nat_le, replicate, if◌then◌else◌}
use Rattle.std.specs.List.{list_any}
use Rattle.std.proofs.lemmas.Bool.Decides.{nat_tests}
use Rattle.bh_base.specs.declared.event.EventKind.TheVariants as kind
use Rattle.bh_base.specs.declared.reply.Cause.TheVariants as cause
use Rattle.bh_base.specs.declared.ticket.Ticket.{Ticket}
use Rattle.bh_base.specs.declared.ticket.TicketState.TheVariants as ticket
use Rattle.bh_base.specs.Commands.{command_count, props_of}
use Rattle.bh_base.specs.History.{PastView}
use Rattle.bh_base.specs.Machine.{CommandEvent, Present, is_due}
use Rattle.bh_base.specs.Order.{AreKnown}
use Rattle.bh_base.specs.Runs.{View}
use Rattle.bh_base.specs.Seen.{no_past_view, past_view_with}
use Rattle.bh_base.specs.Tickets.{in_state, is_of, is_queued, is_running}
use Rattle.bh_tickets.specs.Changes.{is_due_by, timed_out_by}
use Rattle.bh_core.specs.Stepping.{due_of, due_rule_of, pasts_with_event, pasts_with_events, view_timed_out}

-- a ticket of one of the first n commands is due
abbrev pub is_due_below : ℕ → Present → Ticket → Bool
is_due_below n g t = nat_lt t.command n && is_due g t

-- as it is once it timed out, where it has
abbrev pub timed_out_if : Bool → Ticket → Ticket
timed_out_if b t = if b then in_state (ticket.NeedsFallback cause.Timeout) t else t

-- the events of tickets that timed out
abbrev pub timeouts_of : List Ticket → List CommandEvent
timeouts_of ts = map (λ t. record { command = t.command; kind = kind.Timeout }) ts

-- a timeout of the command
abbrev pub timeout_of : ℕ → CommandEvent
timeout_of n = record { command = n; kind = kind.Timeout }

-- the view once the due tickets of the first n commands timed out
abbrev pub view_timed_below : ℕ → View → View
view_timed_below n v = record {
  present = record v.present { tickets = map (λ t. timed_out_if (is_due_below n v.present t) t) v.present.tickets };
  pasts = pasts_with_events v.present.latest (timeouts_of (filter (is_due_below n v.present) v.present.tickets)) v.pasts;
}

not_both : (k n : ℕ) → nat_lt k n ≡ true → (k == n) ≡ true → ⊥
not_both k n p r =
    let less : k < n = grind (arith, nat_tests) in
    let same : k ≡ n = grind (arith, nat_tests) in
    omega (arith, less, same)

next_lt : (k n : ℕ) (b e : Bool) → nat_lt k n ≡ b → (k == n) ≡ e → nat_lt k (n + 1) ≡ (b || e)
next_lt k n true e p r = (let less : k < n = grind (arith, nat_tests) in grind (arith, nat_tests))
next_lt k n false true p r = (let same : k ≡ n = grind (arith, nat_tests) in grind (arith, nat_tests))
next_lt k n false false p r =
    let least : n ≤ k = grind (arith, nat_tests) in
    let differ : k ≢ n = grind (arith, nat_tests) in
    let more : n + 1 ≤ k = omega (arith, least, differ) in
    grind (arith, nat_tests)

-- by its command's rule a ticket is due where it is of the command and due
pub rule_is : (n : ℕ) (g : Present) (t : Ticket) → is_due_by (due_rule_of n g) t ≡ (is_of n t && is_due g t)
rule_is n g t = at (t.command == n) refl
  where
    by : ℕ → Bool
    by c = (props_of c g.props).timeout_on && (is_queued t || is_running t) && nat_le (props_of c g.props).timeout_ms (g.latest - t.submitted)

    at : (e : Bool) → (t.command == n) ≡ e → (e && (props_of n g.props).timeout_on && (is_queued t || is_running t) && nat_le (props_of n g.props).timeout_ms (g.latest - t.submitted)) ≡ (e && by t.command)
    at true r = (let same : n ≡ t.command = grind (arith, nat_tests) in ap by same)
    at false r = refl

-- with one command more, those of that command are due too
below_next : (n : ℕ) (g : Present) (t : Ticket) → is_due_below (n + 1) g t ≡ (is_due_below n g t || is_due_by (due_rule_of n g) t)
below_next n g t = at (nat_lt t.command n) (t.command == n) refl refl ∙ ap (λ b. is_due_below n g t || b) (sym (rule_is n g t))
  where
    joined : (b e d : Bool) → ((b || e) && d) ≡ ((b && d) || (e && d))
    joined true true true = refl
    joined true true false = refl
    joined true false true = refl
    joined true false false = refl
    joined false e d = refl

    at : (b e : Bool) → nat_lt t.command n ≡ b → (t.command == n) ≡ e → (nat_lt t.command (n + 1) && is_due g t) ≡ ((nat_lt t.command n && is_due g t) || ((t.command == n) && is_due g t))
    at b e p r =
        ap (λ c. c && is_due g t) (next_lt t.command n b e p r) ∙ joined b e (is_due g t)
        ∙ (λ i. (sym p i && is_due g t) || (sym r i && is_due g t))

-- no ticket is due both among the first commands and by the rule of the next
apart : (n : ℕ) (g : Present) (t : Ticket) → is_due_below n g t ≡ true → is_due_by (due_rule_of n g) t ≡ false
apart n g t below = rule_is n g t ∙ at (nat_lt t.command n) (t.command == n) refl refl below
  where
    at : (b e : Bool) → nat_lt t.command n ≡ b → (t.command == n) ≡ e → (b && is_due g t) ≡ true → ((t.command == n) && is_due g t) ≡ false
    at true true p r h = absurd (not_both t.command n p r)
    at true false p r h = ap (λ e. e && is_due g t) r
    at false e p r h = absurd cc

-- a ticket that timed out is not due
no_more : (n : ℕ) (g : Present) (t : Ticket) → is_due_by (due_rule_of n g) (timed_out_if true t) ≡ false
no_more n g t = at (t.command == n) (props_of n g.props).timeout_on
  where
    at : (e on : Bool) → (e && on && false && nat_le (props_of n g.props).timeout_ms (g.latest - t.submitted)) ≡ false
    at true true = refl
    at true false = refl
    at false on = refl

-- after those of the first commands timed out, a ticket is due by the rule of the next where it was before
still : (n : ℕ) (g : Present) (t : Ticket) (b : Bool) → is_due_below n g t ≡ b → is_due_by (due_rule_of n g) (timed_out_if b t) ≡ is_due_by (due_rule_of n g) t
still n g t true below = no_more n g t ∙ sym (apart n g t below)
still n g t false below = refl

still_due : (n : ℕ) (g : Present) (t : Ticket) → is_due_by (due_rule_of n g) (timed_out_if (is_due_below n g t) t) ≡ is_due_by (due_rule_of n g) t
still_due n g t = still n g t (is_due_below n g t) refl

-- and is then as with one command more
timed_next : (n : ℕ) (g : Present) (t : Ticket) → timed_out_by (due_rule_of n g) (timed_out_if (is_due_below n g t) t) ≡ timed_out_if (is_due_below (n + 1) g t) t
timed_next n g t = at (is_due_below n g t) (is_due_by (due_rule_of n g) t) refl refl
  where
    at : (b e : Bool) → is_due_below n g t ≡ b → is_due_by (due_rule_of n g) t ≡ e → timed_out_by (due_rule_of n g) (timed_out_if (is_due_below n g t) t) ≡ timed_out_if (is_due_below (n + 1) g t) t
    at true e p r =
        ap (λ b. timed_out_by (due_rule_of n g) (timed_out_if b t)) p ∙ ap (λ b. timed_out_if b (timed_out_if true t)) (no_more n g t)
        ∙ ap (λ b. timed_out_if b t) (sym (below_next n g t ∙ ap (λ b. b || is_due_by (due_rule_of n g) t) p))
    at false e p r =
        ap (λ b. timed_out_by (due_rule_of n g) (timed_out_if b t)) p
        ∙ ap (λ b. timed_out_if b t) (sym (below_next n g t ∙ ap (λ b. b || is_due_by (due_rule_of n g) t) p))

-- the tickets after one command more
tickets_next : (n : ℕ) (g : Present) (ts : List Ticket) → map (timed_out_by (due_rule_of n g)) (map (λ t. timed_out_if (is_due_below n g t) t) ts) ≡ map (λ t. timed_out_if (is_due_below (n + 1) g t) t) ts
tickets_next n g [] = refl
tickets_next n g (t ∷ ts) = λ i. timed_next n g t i ∷ tickets_next n g ts i

-- the tickets that are due by the rule of the next command are those that were before
due_kept : (n : ℕ) (g : Present) (ts : List Ticket) → length (filter (is_due_by (due_rule_of n g)) (map (λ t. timed_out_if (is_due_below n g t) t) ts)) ≡ length (filter (is_due_by (due_rule_of n g)) ts)
due_kept n g [] = refl
due_kept n g (t ∷ ts) =
    ap (λ b. length (cond b (timed_out_if (is_due_below n g t) t ∷ filter (is_due_by (due_rule_of n g)) rest) (filter (is_due_by (due_rule_of n g)) rest))) (still_due n g t)
    ∙ at (is_due_by (due_rule_of n g) t) (due_kept n g ts)
  where
    rest : List Ticket
    rest = map (λ u. timed_out_if (is_due_below n g u) u) ts

    at : (b : Bool) → length (filter (is_due_by (due_rule_of n g)) rest) ≡ length (filter (is_due_by (due_rule_of n g)) ts) → length (cond b (timed_out_if (is_due_below n g t) t ∷ filter (is_due_by (due_rule_of n g)) rest) (filter (is_due_by (due_rule_of n g)) rest)) ≡ length (cond b (t ∷ filter (is_due_by (due_rule_of n g)) ts) (filter (is_due_by (due_rule_of n g)) ts))
    at true kept = omega (arith, kept)
    at false kept = kept

-- how many are due with one command more
pub count_next : (n : ℕ) (g : Present) (ts : List Ticket) → length (filter (is_due_below n g) ts) + length (filter (is_due_by (due_rule_of n g)) ts) ≡ length (filter (is_due_below (n + 1) g) ts)
count_next n g [] = refl
count_next n g (t ∷ ts) = at (is_due_below n g t) (is_due_by (due_rule_of n g) t) refl refl (count_next n g ts) ∙ sym (ap (λ b. length (cond b (t ∷ filter (is_due_below (n + 1) g) ts) (filter (is_due_below (n + 1) g) ts))) (below_next n g t))
  where
    at : (b e : Bool) → is_due_below n g t ≡ b → is_due_by (due_rule_of n g) t ≡ e → length (filter (is_due_below n g) ts) + length (filter (is_due_by (due_rule_of n g)) ts) ≡ length (filter (is_due_below (n + 1) g) ts) → length (cond b (t ∷ filter (is_due_below n g) ts) (filter (is_due_below n g) ts)) + length (cond e (t ∷ filter (is_due_by (due_rule_of n g)) ts) (filter (is_due_by (due_rule_of n g)) ts)) ≡ length (cond (b || e) (t ∷ filter (is_due_below (n + 1) g) ts) (filter (is_due_below (n + 1) g) ts))
    at true true p r more = absurd (let no : true ≡ false = sym r ∙ apart n g t p in cc)
    at true false p r more = omega (arith, more)
    at false true p r more = omega (arith, more)
    at false false p r more = more

-- events of two commands, in either order
swapped : {X : Type 0} (f h : X → X) (d : X) (xs : List X) (i j : ℕ) → i ≢ j → set (set xs j (h (get_or xs j d))) i (f (get_or (set xs j (h (get_or xs j d))) i d)) ≡ set (set xs i (f (get_or xs i d))) j (h (get_or (set xs i (f (get_or xs i d))) j d))
swapped f h d [] i j differ = refl
swapped f h d (x ∷ xs) zero zero differ = absurd (differ refl)
swapped f h d (x ∷ xs) zero (suc j) differ = refl
swapped f h d (x ∷ xs) (suc i) zero differ = refl
swapped f h d (x ∷ xs) (suc i) (suc j) differ = ap (λ ys. x ∷ ys) (swapped f h d xs i j (λ e. differ (ap suc e)))

-- an event of the next command before or after those of the first
moved : (m n : ℕ) (g : Present) (ts : List Ticket) (ps : List PastView) → pasts_with_event m (timeout_of n) (pasts_with_events m (timeouts_of (filter (is_due_below n g) ts)) ps) ≡ pasts_with_events m (timeouts_of (filter (is_due_below n g) ts)) (pasts_with_event m (timeout_of n) ps)
moved m n g [] ps = refl
moved m n g (t ∷ ts) ps = at (nat_lt t.command n) (is_due g t) refl (λ qs. moved m n g ts qs)
  where
    rest : List Ticket
    rest = filter (is_due_below n g) ts

    at : (b d : Bool) → nat_lt t.command n ≡ b → ((qs : List PastView) → pasts_with_event m (timeout_of n) (pasts_with_events m (timeouts_of rest) qs) ≡ pasts_with_events m (timeouts_of rest) (pasts_with_event m (timeout_of n) qs))
        → pasts_with_event m (timeout_of n) (pasts_with_events m (timeouts_of (cond (b && d) (t ∷ rest) rest)) ps) ≡ pasts_with_events m (timeouts_of (cond (b && d) (t ∷ rest) rest)) (pasts_with_event m (timeout_of n) ps)
    at true true p later =
        let less : t.command < n = grind (arith, nat_tests) in
        let differ : n ≢ t.command = (λ e. omega (arith, less, e)) in
        later (pasts_with_event m (timeout_of t.command) ps)
        ∙ ap (pasts_with_events m (timeouts_of rest)) (swapped (past_view_with m m (kind.Timeout ∷ []) false) (past_view_with m m (kind.Timeout ∷ []) false) no_past_view ps n t.command differ)
    at true false p later = later ps
    at false d p later = later ps

-- the events of one command more, behind those of the first or in the order of the tickets
events_next : (m n : ℕ) (g : Present) (ts : List Ticket) (ps : List PastView) → pasts_with_events m (replicate (length (filter (is_due_by (due_rule_of n g)) ts)) (timeout_of n)) (pasts_with_events m (timeouts_of (filter (is_due_below n g) ts)) ps) ≡ pasts_with_events m (timeouts_of (filter (is_due_below (n + 1) g) ts)) ps
events_next m n g [] ps = refl
events_next m n g (t ∷ ts) ps =
    at (is_due_below n g t) (is_due_by (due_rule_of n g) t) refl refl (λ qs. events_next m n g ts qs)
    ∙ sym (ap (λ b. pasts_with_events m (timeouts_of (cond b (t ∷ filter (is_due_below (n + 1) g) ts) (filter (is_due_below (n + 1) g) ts))) ps) (below_next n g t))
  where
    first : List Ticket
    first = filter (is_due_below n g) ts

    second : List Ticket
    second = filter (is_due_by (due_rule_of n g)) ts

    both : List Ticket
    both = filter (is_due_below (n + 1) g) ts

    own : is_due_by (due_rule_of n g) t ≡ true → t.command ≡ n
    own r = of (t.command == n) refl (sym (rule_is n g t) ∙ r)
      where
        of : (e : Bool) → (t.command == n) ≡ e → (e && is_due g t) ≡ true → t.command ≡ n
        of true s h = grind (arith, nat_tests)
        of false s h = absurd cc

    at : (b e : Bool) → is_due_below n g t ≡ b → is_due_by (due_rule_of n g) t ≡ e
        → ((qs : List PastView) → pasts_with_events m (replicate (length second) (timeout_of n)) (pasts_with_events m (timeouts_of first) qs) ≡ pasts_with_events m (timeouts_of both) qs)
        → pasts_with_events m (replicate (length (cond e (t ∷ second) second)) (timeout_of n)) (pasts_with_events m (timeouts_of (cond b (t ∷ first) first)) ps) ≡ pasts_with_events m (timeouts_of (cond (b || e) (t ∷ both) both)) ps
    at true true p r later = absurd (let no : true ≡ false = sym r ∙ apart n g t p in cc)
    at true false p r later = later (pasts_with_event m (timeout_of t.command) ps)
    at false true p r later =
        ap (pasts_with_events m (replicate (length second) (timeout_of n))) (moved m n g ts ps)
        ∙ later (pasts_with_event m (timeout_of n) ps)
        ∙ ap (λ c. pasts_with_events m (timeouts_of both) (pasts_with_event m (timeout_of c) ps)) (sym (own r))
    at false false p r later = later ps

-- the view after one command more
pub view_next : (n : ℕ) (v : View) → view_timed_out n (view_timed_below n v) ≡ view_timed_below (n + 1) v
view_next n v =
    let g : Present = v.present in
    let so_far : List PastView = pasts_with_events g.latest (timeouts_of (filter (is_due_below n g) g.tickets)) v.pasts in
    λ i. record {
      present = record g { tickets = tickets_next n g g.tickets i };
      pasts = (ap (λ k. pasts_with_events g.latest (replicate k (timeout_of n)) so_far) (due_kept n g g.tickets) ∙ events_next g.latest n g g.tickets v.pasts) i;
    }

-- how many of the next command are due then
pub due_next : (n : ℕ) (v : View) → length (due_of n (view_timed_below n v).present) ≡ length (filter (is_due_by (due_rule_of n v.present)) v.present.tickets)
due_next n v = due_kept n v.present v.present.tickets

-- before the first command

not_below : (k : ℕ) → nat_lt k 0 ≡ false
not_below k = grind (arith, nat_tests)

none_below : (g : Present) (ts : List Ticket) → filter (is_due_below 0 g) ts ≡ []
none_below g [] = refl
none_below g (t ∷ ts) = ap (λ b. cond (b && is_due g t) (t ∷ filter (is_due_below 0 g) ts) (filter (is_due_below 0 g) ts)) (not_below t.command) ∙ none_below g ts

none_timed : (g : Present) (ts : List Ticket) → map (λ t. timed_out_if (is_due_below 0 g t) t) ts ≡ ts
none_timed g [] = refl
none_timed g (t ∷ ts) = λ i. ap (λ b. timed_out_if (b && is_due g t) t) (not_below t.command) i ∷ none_timed g ts i

-- none is due among no commands
pub count_first : (g : Present) → 0 ≡ length (filter (is_due_below 0 g) g.tickets)
count_first g = sym (ap length (none_below g g.tickets))

-- and none has timed out
pub view_first : (v : View) → v ≡ view_timed_below 0 v
view_first v = λ i. record {
  present = record v.present { tickets = sym (none_timed v.present v.present.tickets) i };
  pasts = ap (λ ts. pasts_with_events v.present.latest (timeouts_of ts) v.pasts) (sym (none_below v.present v.present.tickets)) i;
}

is_below : (k n : ℕ) → k < n → nat_lt k n ≡ true
is_below k n h = grind (arith, nat_tests)

-- among all commands, the tickets that are due are those of the group
pub all_below : (g : Present) (ts : List Ticket) → AreKnown g.props ts → filter (is_due_below (command_count g.props) g) ts ≡ filter (is_due g) ts
all_below g [] known = refl
all_below g (t ∷ ts) known =
    let below : nat_lt t.command (command_count g.props) ≡ true = is_below t.command (command_count g.props) known.0 in
    ap (λ b. cond (b && is_due g t) (t ∷ filter (is_due_below (command_count g.props) g) ts) (filter (is_due_below (command_count g.props) g) ts)) below
    ∙ ap (λ us. cond (is_due g t) (t ∷ us) us) (all_below g ts known.1)

-- with all commands, the tickets that time out are those that are due
pub all_timed : (g : Present) (ts : List Ticket) → AreKnown g.props ts → map (λ t. timed_out_if (is_due_below (command_count g.props) g t) t) ts ≡ map (λ t. timed_out_if (is_due g t) t) ts
all_timed g [] known = refl
all_timed g (t ∷ ts) known =
    let below : nat_lt t.command (command_count g.props) ≡ true = is_below t.command (command_count g.props) known.0 in
    λ i. timed_out_if (below i && is_due g t) t ∷ all_timed g ts known.1 i

-- a look for due tickets, command by command

or_left : (a b : Bool) → (a || b) ≡ false → a ≡ false
or_left true b h = absurd cc
or_left false b h = refl

or_right : (a b : Bool) → (a || b) ≡ false → b ≡ false
or_right true b h = absurd cc
or_right false b h = h

-- none is found among one command more
pub any_more : (q : Ticket → Bool) (n : ℕ) (g : Present) (ts : List Ticket) → list_any q (filter (is_due_below n g) ts) ≡ false → list_any q (filter (is_due_by (due_rule_of n g)) ts) ≡ false → list_any q (filter (is_due_below (n + 1) g) ts) ≡ false
any_more q n g [] none next = refl
any_more q n g (t ∷ ts) none next =
    ap (λ b. list_any q (cond b (t ∷ filter (is_due_below (n + 1) g) ts) (filter (is_due_below (n + 1) g) ts))) (below_next n g t)
    ∙ at (is_due_below n g t) (is_due_by (due_rule_of n g) t) none next (λ h k. any_more q n g ts h k)
  where
    first : List Ticket
    first = filter (is_due_below n g) ts

    second : List Ticket
    second = filter (is_due_by (due_rule_of n g)) ts

    both : List Ticket
    both = filter (is_due_below (n + 1) g) ts

    with_head : q t ≡ false → list_any q both ≡ false → (q t || list_any q both) ≡ false
    with_head h k = ap (λ b. b || list_any q both) h ∙ k

    at : (b e : Bool) → list_any q (cond b (t ∷ first) first) ≡ false → list_any q (cond e (t ∷ second) second) ≡ false → (list_any q first ≡ false → list_any q second ≡ false → list_any q both ≡ false) → list_any q (cond (b || e) (t ∷ both) both) ≡ false
    at true true h k later = with_head (or_left (q t) (list_any q first) h) (later (or_right (q t) (list_any q first) h) (or_right (q t) (list_any q second) k))
    at true false h k later = with_head (or_left (q t) (list_any q first) h) (later (or_right (q t) (list_any q first) h) k)
    at false true h k later = with_head (or_left (q t) (list_any q second) k) (later h (or_right (q t) (list_any q second) k))
    at false false h k later = later h k

-- one that is found by the rule of a command is due
pub any_one : (q : Ticket → Bool) (n : ℕ) (g : Present) (ts : List Ticket) → list_any q (filter (is_due_by (due_rule_of n g)) ts) ≡ true → list_any q (filter (is_due g) ts) ≡ true
any_one q n g [] found = found
any_one q n g (t ∷ ts) found = at (is_due_by (due_rule_of n g) t) (is_due g t) refl refl (λ h. any_one q n g ts h) found
  where
    second : List Ticket
    second = filter (is_due_by (due_rule_of n g)) ts

    due : List Ticket
    due = filter (is_due g) ts

    either : (a : Bool) → (list_any q second ≡ true → list_any q due ≡ true) → (a || list_any q second) ≡ true → (a || list_any q due) ≡ true
    either true later h = refl
    either false later h = later h

    behind : (a : Bool) → list_any q due ≡ true → (a || list_any q due) ≡ true
    behind true h = refl
    behind false h = h

    is : (d : Bool) → is_due g t ≡ d → is_due_by (due_rule_of n g) t ≡ true → d ≡ true
    is true s r = refl
    is false s r = absurd (let no : true ≡ false = sym r ∙ rule_is n g t ∙ ap (λ d. is_of n t && d) s ∙ never (is_of n t) in cc)
      where
        never : (a : Bool) → (a && false) ≡ false
        never true = refl
        never false = refl

    at : (e d : Bool) → is_due_by (due_rule_of n g) t ≡ e → is_due g t ≡ d → (list_any q second ≡ true → list_any q due ≡ true) → list_any q (cond e (t ∷ second) second) ≡ true → list_any q (cond d (t ∷ due) due) ≡ true
    at true true r s later h = either (q t) later h
    at true false r s later h = absurd (let no : false ≡ true = is false s r in cc)
    at false true r s later h = behind (q t) (later h)
    at false false r s later h = later h

-- none is found among no commands
pub any_first : (q : Ticket → Bool) (g : Present) (ts : List Ticket) → list_any q (filter (is_due_below 0 g) ts) ≡ false
any_first q g ts = ap (list_any q) (none_below g ts)

-- any that passes a test is any among those that pass it
pub any_passing : (p : Ticket → Bool) (ts : List Ticket) → list_any (λ t. true) (filter p ts) ≡ list_any p ts
any_passing p [] = refl
any_passing p (t ∷ ts) = at (p t) (any_passing p ts)
  where
    at : (b : Bool) → list_any (λ t. true) (filter p ts) ≡ list_any p ts → list_any (λ t. true) (cond b (t ∷ filter p ts) (filter p ts)) ≡ (b || list_any p ts)
    at true rest = refl
    at false rest = rest
