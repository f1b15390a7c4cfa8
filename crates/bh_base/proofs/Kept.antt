-- No op changes the shape of the properties, the latest moment, or how many circuits there are.
use Rattle.std.proofs.Common.{◌≡◌, ℕ, ◌+◌, Bool, true, false, not, List, [], ◌∷◌, length, Option, Some, None, refl, ◌∙◌, arith}
use Rattle.std.proofs.lemmas.List.{length-map, length-set}
use Rattle.std.specs.Prelude.{◌==◌, nat_le, if◌then◌else◌}
use Rattle.bh_base.specs.declared.props.Strategy.{Strategy}
use Rattle.bh_base.specs.declared.props.Strategy.TheVariants as strategy
use Rattle.bh_base.specs.declared.ticket.Ticket.{Ticket}
use Rattle.bh_base.specs.declared.ticket.TicketState.{TicketState}
use Rattle.bh_base.specs.declared.ticket.TicketState.TheVariants as ticket
use Rattle.bh_base.specs.declared.step.Request.{Request}
use Rattle.bh_base.specs.declared.step.Op.{Op}
use Rattle.bh_base.specs.declared.step.Op.TheVariants as op
use Rattle.bh_base.specs.declared.circuit.Admit.{Admit}
use Rattle.bh_base.specs.declared.circuit.Admit.TheVariants as admit
use Rattle.bh_base.specs.declared.circuit.End.{End}
use Rattle.bh_base.specs.declared.event.EventKind.{EventKind}
use Rattle.bh_base.specs.declared.step.FallbackEnd.{FallbackEnd}
use Rattle.bh_base.specs.declared.event.Rolling.{Rolling}
use Rattle.bh_base.specs.declared.props.Tuning.{Tuning}
use Rattle.bh_base.specs.declared.reply.Reply.TheVariants as reply
use Rattle.bh_base.specs.Ranges.{IsInRange}
use Rattle.bh_base.specs.Tunings.{AreOfOneShape, group_tuned, is_within}
use Rattle.bh_base.specs.Commands.{each_from, props_of}
use Rattle.bh_base.specs.Circuit.{Asked}
use Rattle.bh_base.specs.Tickets.{is_running}
use Rattle.bh_base.specs.Machine.{Present, Outcome, outcome, placed, admitted, rejected, is_admitted, circuit_said, submitted, started, run_ended, collected, collected_in, fallback_done, fallback_done_in, cached_as, free_count, in_fallback_count, with_circuit, tuned, answers}
use Rattle.bh_base.proofs.Tuned.{same_shape, tuned_ranges, tuned_shape}

-- the properties are of the shape that they had, and in their ranges where they were; step limit, step number, latest moment
-- and the number of circuits are as they were
pub record Keeps (old new : Present) : Type 0 where
  pub props : AreOfOneShape old.props new.props
  pub ranges : IsInRange old.props → IsInRange new.props
  pub limit : new.limit ≡ old.limit
  pub steps : new.steps ≡ old.steps
  pub latest : new.latest ≡ old.latest
  pub circuits : length new.circuits ≡ length old.circuits

-- as many items as before
pub length-each_from : {X Y : Type 0} (from : ℕ) (f : ℕ → X → Y) (xs : List X) → length (each_from from f xs) ≡ length xs
length-each_from from f [] = refl
length-each_from from f (x ∷ xs) = omega (arith, length-each_from (from + 1) f xs)

either : (b : Bool) (g : Present) (x y : Outcome) → Keeps g x.present → Keeps g y.present → Keeps g (if b then x else y).present
either true g x y p q = p
either false g x y p q = q

admitted_keeps : (s : Strategy) (request : Request) (test : Bool) (g : Present) → Keeps g (admitted s request test g).present
admitted_keeps strategy.Semaphore request test g = record { props = same_shape _; ranges = λ h. h; limit = refl; steps = refl; latest = refl; circuits = refl }
admitted_keeps strategy.Thread request test g = record { props = same_shape _; ranges = λ h. h; limit = refl; steps = refl; latest = refl; circuits = refl }

rejected_keeps : (s : Strategy) (request : Request) (test : Bool) (g : Present) → Keeps g (rejected s request test g).present
rejected_keeps strategy.Semaphore request test g = record { props = same_shape _; ranges = λ h. h; limit = refl; steps = refl; latest = refl; circuits = length-set g.circuits request.command _ }
rejected_keeps strategy.Thread request test g = record { props = same_shape _; ranges = λ h. h; limit = refl; steps = refl; latest = refl; circuits = length-set g.circuits request.command _ }

placed_keeps : (request : Request) (test : Bool) (g : Present) → Keeps g (placed request test g).present
placed_keeps request test g = either (is_admitted g request.command (props_of request.command g.props).strategy) g _ _ (admitted_keeps (props_of request.command g.props).strategy request test g) (rejected_keeps (props_of request.command g.props).strategy request test g)

said_keeps : (a : Admit) (request : Request) (g : Present) → Keeps g (circuit_said a request g).present
said_keeps admit.Short request g = record { props = same_shape _; ranges = λ h. h; limit = refl; steps = refl; latest = refl; circuits = refl }
said_keeps admit.Test request g = placed_keeps request true g
said_keeps admit.Pass request g = placed_keeps request false g

asked_keeps : (a : Asked) (request : Request) (g : Present) → Keeps g (circuit_said a.says request (with_circuit request.command a.circuit g)).present
asked_keeps a request g =
    let kept = said_keeps a.says request (with_circuit request.command a.circuit g) in
    record { props = kept.props; ranges = kept.ranges; limit = kept.limit; steps = kept.steps; latest = kept.latest; circuits = kept.circuits ∙ length-set g.circuits request.command a.circuit }

submitted_keeps : (t : Option Ticket) (request : Request) (rolling : Rolling) (g : Present) → Keeps g (submitted t request rolling g).present
submitted_keeps (Some t) request rolling g = record { props = same_shape _; ranges = λ h. h; limit = refl; steps = refl; latest = refl; circuits = refl }
submitted_keeps None request rolling g =
    either (free_count g == 0) g _ _ (record { props = same_shape _; ranges = λ h. h; limit = refl; steps = refl; latest = refl; circuits = refl }) (asked_keeps _ request g)

started_keeps : (t : Option Ticket) (g : Present) → Keeps g (started t g).present
started_keeps None g = record { props = same_shape _; ranges = λ h. h; limit = refl; steps = refl; latest = refl; circuits = refl }
started_keeps (Some t) g = record { props = same_shape _; ranges = λ h. h; limit = refl; steps = refl; latest = refl; circuits = refl }

run_keeps : (t : Option Ticket) (n : ℕ) (s : TicketState) (e : End) (k : EventKind) (g : Present) → Keeps g (run_ended t n s e k g).present
run_keeps None n s e k g = record { props = same_shape _; ranges = λ h. h; limit = refl; steps = refl; latest = refl; circuits = refl }
run_keeps (Some t) n s e k g = either (is_running t) g _ _ (record { props = same_shape _; ranges = λ h. h; limit = refl; steps = refl; latest = refl; circuits = length-set g.circuits t.command _ }) (record { props = same_shape _; ranges = λ h. h; limit = refl; steps = refl; latest = refl; circuits = refl })

collected_in_keeps : (s : TicketState) (command t : ℕ) (g : Present) → Keeps g (collected_in s command t g).present
collected_in_keeps (ticket.Answered a) command t g = record { props = same_shape _; ranges = λ h. h; limit = refl; steps = refl; latest = refl; circuits = refl }
collected_in_keeps (ticket.NeedsFallback c) command t g =
    either (not (props_of command g.props).fallback_on) g _ _ (record { props = same_shape _; ranges = λ h. h; limit = refl; steps = refl; latest = refl; circuits = refl })
    (either (nat_le (props_of command g.props).fallback_permits (in_fallback_count command g)) g _ _ (record { props = same_shape _; ranges = λ h. h; limit = refl; steps = refl; latest = refl; circuits = refl }) (record { props = same_shape _; ranges = λ h. h; limit = refl; steps = refl; latest = refl; circuits = refl }))
collected_in_keeps ticket.Queued command t g = record { props = same_shape _; ranges = λ h. h; limit = refl; steps = refl; latest = refl; circuits = refl }
collected_in_keeps ticket.Running command t g = record { props = same_shape _; ranges = λ h. h; limit = refl; steps = refl; latest = refl; circuits = refl }
collected_in_keeps (ticket.InFallback c) command t g = record { props = same_shape _; ranges = λ h. h; limit = refl; steps = refl; latest = refl; circuits = refl }

collected_keeps : (t : Option Ticket) (n : ℕ) (g : Present) → Keeps g (collected t n g).present
collected_keeps None n g = record { props = same_shape _; ranges = λ h. h; limit = refl; steps = refl; latest = refl; circuits = refl }
collected_keeps (Some t) n g = collected_in_keeps t.state t.command n g

fallback_in_keeps : (s : TicketState) (command t : ℕ) (e : FallbackEnd) (g : Present) → Keeps g (fallback_done_in s command t e g).present
fallback_in_keeps (ticket.InFallback c) command t e g = record { props = same_shape _; ranges = λ h. h; limit = refl; steps = refl; latest = refl; circuits = refl }
fallback_in_keeps (ticket.Answered a) command t e g = record { props = same_shape _; ranges = λ h. h; limit = refl; steps = refl; latest = refl; circuits = refl }
fallback_in_keeps (ticket.NeedsFallback c) command t e g = record { props = same_shape _; ranges = λ h. h; limit = refl; steps = refl; latest = refl; circuits = refl }
fallback_in_keeps ticket.Queued command t e g = record { props = same_shape _; ranges = λ h. h; limit = refl; steps = refl; latest = refl; circuits = refl }
fallback_in_keeps ticket.Running command t e g = record { props = same_shape _; ranges = λ h. h; limit = refl; steps = refl; latest = refl; circuits = refl }

fallback_keeps : (t : Option Ticket) (n : ℕ) (e : FallbackEnd) (g : Present) → Keeps g (fallback_done t n e g).present
fallback_keeps None n e g = record { props = same_shape _; ranges = λ h. h; limit = refl; steps = refl; latest = refl; circuits = refl }
fallback_keeps (Some t) n e g = fallback_in_keeps t.state t.command n e g

tuned_keeps : (t : Tuning) (command : ℕ) (g : Present) → Keeps g (tuned t command g).present
tuned_keeps t command g = at (is_within t) refl
  where
    at : (b : Bool) → is_within t ≡ b → Keeps g (if b then answers reply.Tuned [] (record g { props = group_tuned t command g.props }) else answers reply.OutOfRange [] g).present
    at true is = record { props = tuned_shape t command g.props; ranges = tuned_ranges t command g.props is; limit = refl; steps = refl; latest = refl; circuits = refl }
    at false is = record { props = same_shape _; ranges = λ h. h; limit = refl; steps = refl; latest = refl; circuits = refl }

-- no operation changes any of these
pub outcome_keeps : (o : Op) (rolling : ℕ → Rolling) (g : Present) → Keeps g (outcome o rolling g).present
outcome_keeps (op.Submit request) rolling g = submitted_keeps (cached_as request.command request.cache g) request (rolling request.command) g
outcome_keeps op.Start rolling g = started_keeps _ g
outcome_keeps (op.Finish serial body) rolling g = run_keeps _ _ _ _ _ g
outcome_keeps (op.Fail serial true) rolling g = run_keeps _ _ _ _ _ g
outcome_keeps (op.Fail serial false) rolling g = run_keeps _ _ _ _ _ g
outcome_keeps op.Expire rolling g = record { props = same_shape _; ranges = λ h. h; limit = refl; steps = refl; latest = refl; circuits = length-map g.circuits _ }
outcome_keeps (op.Collect serial) rolling g = collected_keeps _ _ g
outcome_keeps (op.FallbackDone serial e) rolling g = fallback_keeps _ _ e g
outcome_keeps (op.Close context) rolling g = record { props = same_shape _; ranges = λ h. h; limit = refl; steps = refl; latest = refl; circuits = refl }
outcome_keeps (op.Totals command) rolling g = record { props = same_shape _; ranges = λ h. h; limit = refl; steps = refl; latest = refl; circuits = refl }
outcome_keeps (op.Tune command t) rolling g = tuned_keeps t command g
outcome_keeps (op.Read command) rolling g = record { props = same_shape _; ranges = λ h. h; limit = refl; steps = refl; latest = refl; circuits = refl }
