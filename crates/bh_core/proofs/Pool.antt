-- How many runs of a group's tickets its thread pool has.
use Rattle.std.proofs.Common.{◌≡◌, ℕ, ◌+◌, ◌<◌, ◌≤◌, Bool, true, false, cond, List, [], ◌∷◌, length, refl, ◌∙◌, sym, ap, arith}
use Rattle.std.specs.Prelude.{◌≢◌, ◌&&◌, ◌==◌, nat_lt, count_by}
use Rattle.std.proofs.lemmas.Bool.Decides.{nat_tests}
use Rattle.std.proofs.lemmas.List.Sums.{sum_by-cons}
use Rattle.bh_base.specs.Props.{GroupProps}
use Rattle.bh_base.specs.declared.props.Strategy.{Strategy}
use Rattle.bh_base.specs.declared.props.Strategy.TheVariants as strategy
use Rattle.bh_base.specs.declared.ticket.Ticket.{Ticket}
use Rattle.bh_base.specs.Commands.{command_count, props_of}
use Rattle.bh_base.specs.Machine.{is_pooled, runs_in_pool}
use Rattle.bh_base.specs.Order.{AreKnown}
use Rattle.bh_base.specs.Tickets.{is_of}

-- what a ticket adds to a count
abbrev one_if : Bool → ℕ
one_if b = cond b 1 0

-- tests that agree on each ticket of the group's commands count alike
count_alike : (p q : Ticket → Bool) (props : GroupProps) (ts : List Ticket) → ((t : Ticket) → t.command < command_count props → p t ≡ q t) → AreKnown props ts → count_by p ts ≡ count_by q ts
count_alike p q props [] same known = refl
count_alike p q props (t ∷ ts) same known =
    let here : one_if (p t) ≡ one_if (q t) = ap one_if (same t known.0) in
    omega (arith, here, count_alike p q props ts same known.1, sum_by-cons (λ u. one_if (p u)) t ts, sum_by-cons (λ u. one_if (q u)) t ts)

-- the tickets of the first n commands
abbrev pub below : ℕ → (Ticket → Bool) → Ticket → Bool
below n q t = nat_lt t.command n && q t

next_one : (k n : ℕ) (q : Bool) → one_if (nat_lt k (n + 1) && q) ≡ one_if (nat_lt k n && q) + one_if ((k == n) && q)
next_one k n q = at (nat_lt k n) (k == n) refl refl
  where
    -- whether the number is one of the first n + 1, where it is or is not one of the first n or n
    at : (b e : Bool) → nat_lt k n ≡ b → (k == n) ≡ e → one_if (nat_lt k (n + 1) && q) ≡ one_if (nat_lt k n && q) + one_if ((k == n) && q)
    at true true p r =
        let less : k < n = grind (arith, nat_tests) in
        let same : k ≡ n = grind (arith, nat_tests) in
        absurd (omega (arith, less, same))
    at true false p r =
        let less : k < n = grind (arith, nat_tests) in
        let next : nat_lt k (n + 1) ≡ true = grind (arith, nat_tests) in
        omega (arith, ap (λ b. one_if (b && q)) next, ap (λ b. one_if (b && q)) p, ap (λ b. one_if (b && q)) r)
    at false true p r =
        let same : k ≡ n = grind (arith, nat_tests) in
        let next : nat_lt k (n + 1) ≡ true = grind (arith, nat_tests) in
        omega (arith, ap (λ b. one_if (b && q)) next, ap (λ b. one_if (b && q)) p, ap (λ b. one_if (b && q)) r)
    at false false p r =
        let least : n ≤ k = grind (arith, nat_tests) in
        let differ : k ≢ n = grind (arith, nat_tests) in
        let more : n + 1 ≤ k = omega (arith, least, differ) in
        let next : nat_lt k (n + 1) ≡ false = grind (arith, nat_tests) in
        omega (arith, ap (λ b. one_if (b && q)) next, ap (λ b. one_if (b && q)) p, ap (λ b. one_if (b && q)) r)

-- how many tickets of the first commands, and of one command more, pass a test
pub count_below_next : (n : ℕ) (q : Ticket → Bool) (ts : List Ticket) → count_by (below (n + 1) q) ts ≡ count_by (below n q) ts + count_by (λ t. is_of n t && q t) ts
count_below_next n q [] = refl
count_below_next n q (t ∷ ts) =
    omega (
      arith,
      next_one t.command n (q t),
      count_below_next n q ts,
      sum_by-cons (λ u. one_if (below (n + 1) q u)) t ts,
      sum_by-cons (λ u. one_if (below n q u)) t ts,
      sum_by-cons (λ u. one_if (is_of n u && q u)) t ts,
    )

-- no ticket is of one of no commands
pub count_below_none : (q : Ticket → Bool) (ts : List Ticket) → 0 ≡ count_by (below 0 q) ts
count_below_none q [] = refl
count_below_none q (t ∷ ts) =
    let not : nat_lt t.command 0 ≡ false = grind (arith, nat_tests) in
    omega (arith, ap (λ b. one_if (b && q t)) not, count_below_none q ts, sum_by-cons (λ u. one_if (below 0 q u)) t ts)

-- and each is of one of all
pub count_below_all : (q : Ticket → Bool) (props : GroupProps) (ts : List Ticket) → AreKnown props ts → count_by (below (command_count props) q) ts ≡ count_by q ts
count_below_all q props ts known = count_alike (below (command_count props) q) q props ts (λ t inside. ap (λ b. b && q t) (is_below t.command (command_count props) inside)) known
  where
    is_below : (k n : ℕ) → k < n → nat_lt k n ≡ true
    is_below k n h = grind (arith, nat_tests)

-- there are no more than there are tickets
pub count_few : (q : Ticket → Bool) (ts : List Ticket) → count_by q ts ≤ length ts
count_few q [] = omega arith
count_few q (t ∷ ts) = omega (arith, one (q t), count_few q ts, sum_by-cons (λ u. one_if (q u)) t ts)
  where
    one : (b : Bool) → one_if b ≤ 1
    one true = omega arith
    one false = omega arith

count_none : (ts : List Ticket) → count_by (λ t. false) ts ≡ 0
count_none [] = refl
count_none (t ∷ ts) = omega (arith, count_none ts, sum_by-cons (λ (u : Ticket). one_if false) t ts)

count_same : (p q : Ticket → Bool) (ts : List Ticket) → ((t : Ticket) → p t ≡ q t) → count_by p ts ≡ count_by q ts
count_same p q [] same = refl
count_same p q (t ∷ ts) same =
    omega (arith, ap one_if (same t), count_same p q ts same, sum_by-cons (λ u. one_if (p u)) t ts, sum_by-cons (λ u. one_if (q u)) t ts)

-- the runs of a command that runs in the pool
pub pool_has : (n : ℕ) (props : GroupProps) (ts : List Ticket) → (props_of n props).strategy ≡ strategy.Thread → count_by (λ t. is_of n t && t.busy) ts ≡ count_by (λ t. is_of n t && (t.busy && runs_in_pool props t)) ts
pool_has n props ts pooled = count_same (λ t. is_of n t && t.busy) (λ t. is_of n t && (t.busy && runs_in_pool props t)) ts same
  where
    and_true : (b : Bool) → b ≡ (b && true)
    and_true true = refl
    and_true false = refl

    at : (t : Ticket) (e : Bool) → (t.command == n) ≡ e → (e && t.busy) ≡ (e && (t.busy && runs_in_pool props t))
    at t true r =
        let own : n ≡ t.command = grind (arith, nat_tests) in
        and_true t.busy ∙ ap (λ (s : Strategy). t.busy && is_pooled s) (sym pooled ∙ ap (λ c. (props_of c props).strategy) own)
    at t false r = refl

    same : (t : Ticket) → (is_of n t && t.busy) ≡ (is_of n t && (t.busy && runs_in_pool props t))
    same t = at t (t.command == n) refl

-- and of one that does not
pub pool_lacks : (n : ℕ) (props : GroupProps) (ts : List Ticket) → (props_of n props).strategy ≡ strategy.Semaphore → 0 ≡ count_by (λ t. is_of n t && (t.busy && runs_in_pool props t)) ts
pool_lacks n props ts alone = sym (count_none ts) ∙ count_same (λ t. false) (λ t. is_of n t && (t.busy && runs_in_pool props t)) ts same
  where
    and_false : (b : Bool) → false ≡ (b && false)
    and_false true = refl
    and_false false = refl

    at : (t : Ticket) (e : Bool) → (t.command == n) ≡ e → false ≡ (e && (t.busy && runs_in_pool props t))
    at t true r =
        let own : n ≡ t.command = grind (arith, nat_tests) in
        and_false t.busy ∙ ap (λ (s : Strategy). t.busy && is_pooled s) (sym alone ∙ ap (λ c. (props_of c props).strategy) own)
    at t false r = refl

    same : (t : Ticket) → false ≡ (is_of n t && (t.busy && runs_in_pool props t))
    same t = at t (t.command == n) refl
