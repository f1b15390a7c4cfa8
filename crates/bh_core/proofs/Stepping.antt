-- The events of a step one by one are all of them at once.
use Rattle.std.proofs.Common.{◌≡◌, ◌≢◌, ℕ, ◌+◌, ◌≤◌, Bool, true, false, List, [], ◌∷◌, ◌++◌, map, filter, get_or, set, Option, Some, None, refl, ◌∙◌, sym, ap, subst, arith, zero, suc, cond, append-nil, append_assoc}
use Rattle.std.specs.Prelude.{◌==◌, if◌then◌else◌}
use Rattle.std.proofs.lemmas.Bool.Decides.{nat_tests}
use Rattle.std.proofs.lemmas.List.{map-append}
use Rattle.std.proofs.lemmas.List.Elements.{filter-append}
use Rattle.bh_base.specs.declared.event.EventKind.{EventKind}
use Rattle.bh_base.specs.Commands.{each_from, is_known}
use Rattle.bh_base.specs.History.{PastView, is_of_health}
use Rattle.bh_base.specs.Tables.{later_table}
use Rattle.bh_base.specs.declared.step.Op.{Op}
use Rattle.bh_base.specs.declared.reply.Reply.{Reply}
use Rattle.bh_base.specs.declared.reply.Reply.TheVariants as reply
use Rattle.bh_base.specs.Machine.{CommandEvent, Present, Outcome, outcome}
use Rattle.bh_base.specs.Runs.{View, begun, is_worn, released, kinds_of, is_closed}
use Rattle.bh_base.specs.Seen.{no_past_view, past_view_of, past_view_rolling, past_view_with, past_view_after, view_after, view_outcome, view_recorded, view_reply}
use Rattle.bh_base.proofs.Kept.{Keeps, outcome_keeps}
use Rattle.bh_base.proofs.Tables.{later_table-again, totals_with-again}
use Rattle.bh_core.specs.Stepping.{Begins, done, outcome_now, pasts_begun, pasts_with_event, pasts_with_events, health_restarted, with_closed}

-- functions that are the same from a number on
each-same : {X Y : Type 0} (f g : ℕ → X → Y) (from : ℕ) (xs : List X) → ((n : ℕ) (x : X) → from ≤ n → f n x ≡ g n x) → each_from from f xs ≡ each_from from g xs
each-same f g from [] same = refl
each-same f g from (x ∷ xs) same = λ i. same from x (omega arith) i ∷ each-same f g (from + 1) xs (λ n y le. same n y (omega (arith, le))) i

-- the item of one command is changed, where there is one
set-each : {X Y : Type 0} (f g : ℕ → X → Y) (change : Y → Y) (from command : ℕ) (d : Y) (xs : List X) → ((n : ℕ) (x : X) → n ≢ from + command → f n x ≡ g n x) → ((x : X) → change (f (from + command) x) ≡ g (from + command) x) → set (each_from from f xs) command (change (get_or (each_from from f xs) command d)) ≡ each_from from g xs
set-each f g change from command d [] others here = refl
set-each f g change from zero d (x ∷ xs) others here =
    let first : from + 0 ≡ from = omega arith in
    λ i. subst (λ n. change (f n x) ≡ g n x) first (here x) i ∷ each-same f g (from + 1) xs (λ n y le. others n y (λ is. omega (arith, le, is))) i
set-each f g change from (suc command) d (x ∷ xs) others here =
    let next : from + suc command ≡ from + 1 + command = omega arith in
    λ i. others from x (λ is. omega (arith, is)) i ∷ set-each f g change (from + 1) command d xs (λ n y differ. others n y (λ is. differ (is ∙ next))) (λ y. subst (λ n. change (f n y) ≡ g n y) next (here y)) i

-- the kinds of a command, with one event more
kinds-more : (command : ℕ) (events : List CommandEvent) (e : CommandEvent) (b : Bool) → (e.command == command) ≡ b → kinds_of command (events ++ e ∷ []) ≡ kinds_of command events ++ (if b then e.kind ∷ [] else [])
kinds-more command events e b is =
    ap (λ es. map (λ x. x.kind) es) (filter-append (λ x. x.command == command) events (e ∷ []))
    ∙ map-append (λ x. x.kind) (filter (λ x. x.command == command) events) (filter (λ x. x.command == command) (e ∷ []))
    ∙ ap (λ ks. kinds_of command events ++ ks) (at b is)
  where
    at : (b : Bool) → (e.command == command) ≡ b → map (λ x. x.kind) (filter (λ x. x.command == command) (e ∷ [])) ≡ (if b then e.kind ∷ [] else [])
    at true is = ap (λ b. map (λ x. x.kind) (cond b (e ∷ []) [])) is
    at false is = ap (λ b. map (λ x. x.kind) (cond b (e ∷ []) [])) is

-- a past with further events of the same moment
past-again : (latest moment : ℕ) (kinds more : List EventKind) (p : PastView) → past_view_with moment moment more false (past_view_with latest moment kinds false p) ≡ past_view_with latest moment (kinds ++ more) false p
past-again latest moment kinds more p = λ i. record {
  window = p.window;
  table = later_table-again p.window latest moment p.table kinds more i;
  health = (later_table-again p.window latest moment p.health (filter is_of_health kinds) (filter is_of_health more) ∙ ap (later_table p.window latest p.health moment) (sym (filter-append is_of_health kinds more))) i;
  totals = totals_with-again kinds more p.totals i;
}

-- each past with its events so far
abbrev so_far : ℕ → ℕ → List CommandEvent → ℕ → PastView → PastView
so_far latest moment events command p = past_view_with latest moment (kinds_of command events) false p

one-more : (latest moment : ℕ) (events : List CommandEvent) (e : CommandEvent) (ps : List PastView) → pasts_with_event moment e (each_from 0 (so_far latest moment events) ps) ≡ each_from 0 (so_far latest moment (events ++ e ∷ [])) ps
one-more latest moment events e ps =
    set-each (so_far latest moment events) (so_far latest moment (events ++ e ∷ [])) (past_view_with moment moment (e.kind ∷ []) false) 0 e.command no_past_view ps
    (λ n p differ.
    let other : (e.command == n) ≡ false = grind (arith, nat_tests) in
    ap (λ ks. past_view_with latest moment ks false p) (sym (kinds-more n events e false other ∙ append-nil (kinds_of n events))))
    (λ p.
    let own : (e.command == 0 + e.command) ≡ true = grind (arith, nat_tests) in
    past-again latest moment (kinds_of (0 + e.command) events) (e.kind ∷ []) p ∙ ap (λ ks. past_view_with latest moment ks false p) (sym (kinds-more (0 + e.command) events e true own)))

all-more : (latest moment : ℕ) (events more : List CommandEvent) (ps : List PastView) → pasts_with_events moment more (each_from 0 (so_far latest moment events) ps) ≡ each_from 0 (so_far latest moment (events ++ more)) ps
all-more latest moment events [] ps = ap (λ es. each_from 0 (so_far latest moment es) ps) (sym (append-nil events))
all-more latest moment events (e ∷ more) ps =
    ap (pasts_with_events moment more) (one-more latest moment events e ps)
    ∙ all-more latest moment (events ++ e ∷ []) more ps
    ∙ ap (λ es. each_from 0 (so_far latest moment es) ps) (append_assoc events (e ∷ []) more)

-- and where a circuit closed
closed-then : (latest moment : ℕ) (events : List CommandEvent) (closed : Option ℕ) (ps : List PastView) → with_closed closed (each_from 0 (so_far latest moment events) ps) ≡ each_from 0 (λ command p. past_view_with latest moment (kinds_of command events) (is_closed closed command) p) ps
closed-then latest moment events None ps = refl
closed-then latest moment events (Some c) ps =
    set-each (so_far latest moment events) (λ command p. past_view_with latest moment (kinds_of command events) (c == command) p) health_restarted 0 c no_past_view ps
    (λ n p differ.
    let other : (c == n) ≡ false = grind (arith, nat_tests) in
    ap (λ b. past_view_with latest moment (kinds_of n events) b p) (sym other))
    (λ p.
    let own : (c == 0 + c) ≡ true = grind (arith, nat_tests) in
    ap (λ b. past_view_with latest moment (kinds_of (0 + c) events) b p) (sym own))

-- begun, recorded one by one, and closed, is what the step by the view says
pub one_by_one : (latest : ℕ) (out : Outcome) (ps : List PastView) → with_closed out.closed (pasts_with_events out.present.latest out.events (pasts_begun latest out.present.latest ps)) ≡ each_from 0 (past_view_after latest out) ps
one_by_one latest out ps =
    ap (with_closed out.closed) (all-more latest out.present.latest [] out.events ps) ∙ closed-then latest out.present.latest out.events out.closed ps

-- what the operation does after the begin is what it does in the step
outcome_same : (v w : View) (o : Op) (now : ℕ) → Begins v now w → outcome_now w o ≡ view_outcome v o now
outcome_same v w o now b =
    (λ i. outcome o (λ command. b.rolling command i) (b.present i))
    ∙ ap (λ (g : Present). outcome o (λ command. past_view_rolling v.present.latest (past_view_of command v) g.latest) (begun now v.present)) b.present

-- a step that was begun, done and ended is the whole step
pub stepped : (v w x y : View) (o : Op) (now : ℕ) → is_known o v.present.props ≡ true → (v.present.steps ≡ v.present.limit → ⊥) → Begins v now w → x ≡ done w (outcome_now w o) → y ≡ record x { present = released x.present } → y ≡ view_after v o now
stepped v w x y o now known differ b did ended =
    let fresh : is_worn v.present ≡ false = grind (arith, nat_tests) in
    let out : Outcome = view_outcome v o now in
    let keeps : Keeps (begun now v.present) out.present = outcome_keeps o _ (begun now v.present) in
    let moment : w.present.latest ≡ out.present.latest = ap (λ (g : Present). g.latest) b.present ∙ sym keeps.latest in
    let same : x ≡ done w out = did ∙ ap (done w) (outcome_same v w o now b) in
    let pasts : (done w out).pasts ≡ (view_recorded v out).pasts =
    ap (λ ps. with_closed out.closed (pasts_with_events w.present.latest out.events ps)) b.pasts
    ∙ ap (λ m. with_closed out.closed (pasts_with_events m out.events (pasts_begun v.present.latest m v.pasts))) moment
    ∙ one_by_one v.present.latest out v.pasts in
    ended
    ∙ ap (λ (u : View). record u { present = released u.present }) same
    ∙ (λ i. record { present = released out.present; pasts = pasts i })
    ∙ sym (ap (λ (k : Bool). if k then (if is_worn v.present then v else view_recorded v out) else v) known ∙ ap (λ (k : Bool). if k then v else view_recorded v out) fresh)

-- and so is its reply
pub replied : (v w : View) (op : Op) (now : ℕ) (r : Reply) → is_known op v.present.props ≡ true → (v.present.steps ≡ v.present.limit → ⊥) → Begins v now w → r ≡ (outcome_now w op).reply → r ≡ view_reply v op now
replied v w op now r known differ b said =
    let fresh : is_worn v.present ≡ false = grind (arith, nat_tests) in
    said ∙ ap (λ (o : Outcome). o.reply) (outcome_same v w op now b) ∙ sym (ap (λ b. if b then (if is_worn v.present then reply.Worn else (view_outcome v op now).reply) else reply.NoCommand) known ∙ ap (λ b. if b then reply.Worn else (view_outcome v op now).reply) fresh)
