-- How many tickets time out in a step, by what is counted before and behind it.
use Rattle.std.proofs.Common.{◌≡◌, ℕ, ◌+◌, ◌-◌, ◌<◌, Bool, true, false, cond, List, [], ◌∷◌, filter, map, get_or, length, max, zero, suc, refl, sym, ap, ◌∙◌, arith}
use Rattle.std.specs.Prelude.{◌==◌, ◌&&◌, count_by, nat_lt, if◌then◌else◌}
use Rattle.std.proofs.lemmas.Bool.Decides.{nat_tests}
use Rattle.std.proofs.lemmas.List.Sums.{sum_by-cons}
use Rattle.bh_base.specs.declared.event.EventKind.{EventKind}
use Rattle.bh_base.specs.declared.event.EventKind.TheVariants as kind
use Rattle.bh_base.specs.declared.reply.Reply.TheVariants as reply
use Rattle.bh_base.specs.declared.step.Op.TheVariants as op
use Rattle.bh_base.specs.declared.ticket.Ticket.{Ticket}
use Rattle.bh_base.specs.Commands.{each_from}
use Rattle.bh_base.specs.History.{PastView, is_kind}
use Rattle.bh_base.specs.Machine.{CommandEvent, Outcome, Present, is_due}
use Rattle.bh_base.specs.Runs.{View, begun, is_worn, kinds_of}
use Rattle.bh_base.specs.Seen.{no_past_view, past_view_after, past_view_of, past_view_rolling, view_after, view_outcome, view_recorded, view_reply}
use Rattle.bh_base.specs.Tables.{later_table, sum_in}
use Rattle.bh_base.specs.Tickets.{is_of}
use Rattle.bh_base.proofs.LaterTables.{sum_in-later}
use Rattle.bh_core.specs.Looks.{expires_some}
use Rattle.bh_base.specs.declared.step.Op.{Op}
use Rattle.bh_look.specs.declared.lane.Shown.{Shown}
use Rattle.bh_look.specs.Looked.{AsksTimeouts, IsShown, timeouts_at}
use Rattle.bh_look.specs.Steps.{timed_out}

-- an item of a list of which each is changed
each_or : {X Y : Type 0} (from k : ℕ) (f : ℕ → X → Y) (d : Y) (e : X) (xs : List X) → k < length xs → get_or (each_from from f xs) k d ≡ f (from + k) (get_or xs k e)
each_or from k f d e [] inside = absurd (omega (arith, inside))
each_or from zero f d e (x ∷ xs) inside = ap (λ n. f n x) (omega arith)
each_or from (suc k) f d e (x ∷ xs) inside = each_or (from + 1) k f d e xs (omega (arith, inside)) ∙ ap (λ n. f n (get_or xs k e)) (omega arith)

-- the event of a ticket that times out
abbrev event_of : Ticket → CommandEvent
event_of t = record { command = t.command; kind = kind.Timeout }

abbrev is_timeout : EventKind → Bool
is_timeout k = is_kind k kind.Timeout

one_event : (k : ℕ) (t : Ticket) (es : List CommandEvent) → count_by is_timeout (kinds_of k (event_of t ∷ es)) ≡ cond (is_of k t) 1 0 + count_by is_timeout (kinds_of k es)
one_event k t es = at (is_of k t)
  where
    at : (own : Bool) → count_by is_timeout (map (λ (e : CommandEvent). e.kind) (cond own (event_of t ∷ filter (λ e. e.command == k) es) (filter (λ e. e.command == k) es))) ≡ cond own 1 0 + count_by is_timeout (kinds_of k es)
    at true = sum_by-cons (λ l. cond (is_timeout l) 1 0) kind.Timeout (kinds_of k es)
    at false = omega arith

-- the timeouts of a command among the events of all that are due
pub of_command : (g : Present) (k : ℕ) (ts : List Ticket) → count_by is_timeout (kinds_of k (map event_of (filter (is_due g) ts))) ≡ count_by (λ t. is_of k t && is_due g t) ts
of_command g k [] = refl
of_command g k (t ∷ ts) = by (is_due g t) (of_command g k ts) ∙ sym (sum_by-cons (λ u. cond (is_of k u && is_due g u) 1 0) t ts)
  where
    both : (own : Bool) → ◌≡◌ {A = ℕ} (cond own 1 0) (cond (own && true) 1 0)
    both true = refl
    both false = refl

    none : (own : Bool) → ◌≡◌ {A = ℕ} (cond (own && false) 1 0) 0
    none true = refl
    none false = refl

    by : (due : Bool) → count_by is_timeout (kinds_of k (map event_of (filter (is_due g) ts))) ≡ count_by (λ u. is_of k u && is_due g u) ts
        → count_by is_timeout (kinds_of k (map event_of (cond due (t ∷ filter (is_due g) ts) (filter (is_due g) ts)))) ≡ cond (is_of k t && due) 1 0 + count_by (λ u. is_of k u && is_due g u) ts
    by true rest = one_event k t (map event_of (filter (is_due g) ts)) ∙ (λ i. both (is_of k t) i + rest i)
    by false rest = rest ∙ omega (arith, none (is_of k t))

-- behind a step of a group that is not worn so many more are counted as time out in it
pub timeouts_more : (v : View) (now k : ℕ) → is_worn v.present ≡ false → k < length v.pasts → 0 < (past_view_of k v).window.buckets
    → timeouts_at (view_after v op.Expire now) k now ≡ timeouts_at v k now + timed_out v op.Expire now k
timeouts_more v now k fresh inside some =
    ap (λ w. timeouts_at w k now) (ap (λ b. if b then v else after) fresh)
    ∙ ap (λ (q : PastView). (past_view_rolling g.latest q (max g.latest now)).counts.timeout) (each_or 0 k (past_view_after v.present.latest out) no_past_view no_past_view v.pasts inside ∙ ap (λ n. past_view_after v.present.latest out n p) (omega arith))
    ∙ ap (λ m. sum_in p.window g.latest (later_table p.window v.present.latest p.table g.latest (kinds_of k out.events)) m kind.Timeout) (omega arith)
    ∙ sum_in-later p.window v.present.latest g.latest p.table (kinds_of k out.events) kind.Timeout some
    ∙ ap (λ n. timeouts_at v k now + n) (of_command g k v.present.tickets ∙ sym (ap (λ b. if b then 0 else count_by (λ t. is_of k t && is_due g t) v.present.tickets) fresh))
  where
    g : Present
    g = begun now v.present

    out : Outcome
    out = view_outcome v op.Expire now

    after : View
    after = view_recorded v out

    p : PastView
    p = past_view_of k v

-- a group of which an Expire times out tickets is not worn
pub due_fresh : (v : View) (now : ℕ) → expires_some (view_reply v op.Expire now) ≡ true → is_worn v.present ≡ false
due_fresh v now due = at (is_worn v.present) refl due
  where
    at : (b : Bool) → is_worn v.present ≡ b → expires_some (if b then reply.Worn else (view_outcome v op.Expire now).reply) ≡ true → b ≡ false
    at true is some = absurd (let no : false ≡ true = some in cc)
    at false is some = refl

no_length : {X : Type 0} (xs : List X) → nat_lt 0 (length xs) ≡ false → xs ≡ []
no_length [] none = refl
no_length (x ∷ xs) none = absurd (let some : nat_lt 0 (length (x ∷ xs)) ≡ true = grind (arith, nat_tests) in let no : true ≡ false = sym some ∙ none in cc)

-- where an Expire times out none, none of a command does
pub none_due : (v : View) (now k : ℕ) → expires_some (view_reply v op.Expire now) ≡ false → timed_out v op.Expire now k ≡ 0
none_due v now k none = at (is_worn v.present) none
  where
    g : Present
    g = begun now v.present

    at : (b : Bool) → expires_some (if b then reply.Worn else reply.Expired (length (filter (is_due g) v.present.tickets))) ≡ false → (if b then 0 else count_by (λ t. is_of k t && is_due g t) v.present.tickets) ≡ 0
    at true some = refl
    at false some = sym (of_command g k v.present.tickets) ∙ ap (λ ts. count_by is_timeout (kinds_of k (map event_of ts))) (no_length (filter (is_due g) v.present.tickets) some)

no_more : (x y n : ℕ) → x ≡ 0 → y ≡ 0 → n ≡ 0 → y - x ≡ n
no_more x y n is_x is_y is_n = omega (arith, is_x, is_y, is_n)

-- what is shown differently behind a step is what timed out in it
pub timeouts_differ : (v w : View) (o : Op) (now k : ℕ) (asks : Bool) (x y : Shown) → AsksTimeouts v o now asks → w ≡ view_after v o now → k < length v.pasts → 0 < (past_view_of k v).window.buckets
    → IsShown v k now asks x → IsShown w k now asks y → y.timeouts - x.timeouts ≡ timed_out v o now k
timeouts_differ v w op.Expire now k asks x y says is inside some before after = at asks says before after
  where
    at : (b : Bool) → b ≡ expires_some (view_reply v op.Expire now) → IsShown v k now b x → IsShown w k now b y → y.timeouts - x.timeouts ≡ timed_out v op.Expire now k
    at true due shown seen =
        let more = timeouts_more v now k (due_fresh v now (sym due)) inside some in
        omega (arith, shown.timeouts refl, seen.timeouts refl, ap (λ u. timeouts_at u k now) is, more)
    at false due shown seen = no_more x.timeouts y.timeouts _ (shown.none refl) (seen.none refl) (none_due v now k (sym due))
timeouts_differ v w (op.Submit request) now k asks x y says is inside some before after = no_more x.timeouts y.timeouts 0 (before.none says) (after.none says) refl
timeouts_differ v w op.Start now k asks x y says is inside some before after = no_more x.timeouts y.timeouts 0 (before.none says) (after.none says) refl
timeouts_differ v w (op.Finish serial body) now k asks x y says is inside some before after = no_more x.timeouts y.timeouts 0 (before.none says) (after.none says) refl
timeouts_differ v w (op.Fail serial bad) now k asks x y says is inside some before after = no_more x.timeouts y.timeouts 0 (before.none says) (after.none says) refl
timeouts_differ v w (op.Collect serial) now k asks x y says is inside some before after = no_more x.timeouts y.timeouts 0 (before.none says) (after.none says) refl
timeouts_differ v w (op.FallbackDone serial end) now k asks x y says is inside some before after = no_more x.timeouts y.timeouts 0 (before.none says) (after.none says) refl
timeouts_differ v w (op.Close context) now k asks x y says is inside some before after = no_more x.timeouts y.timeouts 0 (before.none says) (after.none says) refl
timeouts_differ v w (op.Read command) now k asks x y says is inside some before after = no_more x.timeouts y.timeouts 0 (before.none says) (after.none says) refl
timeouts_differ v w (op.Totals command) now k asks x y says is inside some before after = no_more x.timeouts y.timeouts 0 (before.none says) (after.none says) refl
timeouts_differ v w (op.Tune command t) now k asks x y says is inside some before after = no_more x.timeouts y.timeouts 0 (before.none says) (after.none says) refl
