-- What a log has of the steps that were made.
use Rattle.std.proofs.Common.{◌≡◌, ◌≤◌, ◌<◌, ◌+◌, ◌-◌, ◌⊎◌, ℕ, suc, inl, inr, Bool, true, false, List, [], ◌∷◌, ◌++◌, length, take, Option, Some, None, option_map, refl, ap, sym, subst, ◌∙◌, arith, append_assoc, length-append}
use Rattle.std.specs.Prelude.{nat_lt}
use Rattle.std.proofs.Math.Seq.{take-nil}
use Rattle.std.proofs.lemmas.List.{append-nil}
use Rattle.std.proofs.lemmas.Bool.Decides.{nat_tests}
use Rattle.bh_base.specs.declared.reply.Reply.{Reply}
use Rattle.bh_base.specs.declared.step.Step.{Step}
use Rattle.bh_lease.specs.Leases.{LeasesView}
use Rattle.bh_lender.specs.declared.lender.Left.{Left}
use Rattle.bh_lender.specs.Lender.{DoesStep, IsGivenBack, LenderView}
use Rattle.bh_lender.specs.Recorded.{RecordedView}
use Rattle.bh_lender.specs.Settling.{Settles}
use Rattle.bh_lender.specs.StepLog.{IsFrontLogged, StepLogView, logged, logged_each}
use Rattle.bh_lender.specs.Steps.{AreSteps, Made, steps_of}

-- what is put in first, and then the others
each_next : (step : Step) (steps : List Step) (log : Option StepLogView) → option_map (logged_each steps) (option_map (logged step) log) ≡ option_map (logged_each (step ∷ steps)) log
each_next step steps None = refl
each_next step steps (Some l) = refl

each_none : (log : Option StepLogView) → log ≡ option_map (logged_each []) log
each_none None = refl
each_none (Some l) = refl

pub are_logged : (old : RecordedView) (made : List Made) (new : RecordedView) → AreSteps old made new → new.log ≡ option_map (logged_each (steps_of made)) old.log
are_logged old [] new same = ap (λ (r : RecordedView). r.log) same ∙ each_none old.log
are_logged old (m ∷ ms) new (mid, first, others) =
    are_logged mid ms new others ∙ ap (option_map (logged_each (steps_of ms))) first.1 ∙ each_next m.0 (steps_of ms) old.log

-- steps, and then others
pub steps_then : (old : RecordedView) (made : List Made) (mid : RecordedView) (others : List Made) (new : RecordedView) → AreSteps old made mid → AreSteps mid others new → AreSteps old (made ++ others) new
steps_then old [] mid others new same so = let P : RecordedView → Type 0 = λ r. AreSteps r others new in subst P same so
steps_then old (m ∷ ms) mid others new (between, first, rest) so = (between, first, steps_then between ms mid others new rest so)

-- all steps for holders that are left
pub settling_steps : (now : ℕ) (old : RecordedView) (left : List Left) (chunks : List (List Made)) (new : RecordedView) (left' : List Left) → Settles now old left chunks new left' → (made : List Made) × AreSteps old made new
settling_steps now old left [] new left' so = ([], so.0)
settling_steps now old left (c ∷ cs) new left' (p, h, mid, w, i, r, g, s, others) =
    let rest = settling_steps now mid _ cs new left' others in (c ++ rest.0, steps_then old c mid rest.0 new s rest.1)

pub turn_steps : (step : Step) (reply : Reply) (old new : LenderView) → DoesStep step reply old new → (made : List Made) × AreSteps old.recorded ((step, reply) ∷ made) new.recorded
turn_steps step reply old new (mid, chunks, first, settles) =
    let rest = settling_steps step.now mid old.left chunks new.recorded new.left settles in (rest.0, (mid, first, rest.1))

pub return_steps : (now : ℕ) (had : LeasesView) (old new : LenderView) → IsGivenBack now had old new → (made : List Made) × AreSteps old.recorded made new.recorded
return_steps now had old new given =
    let rest = settling_steps now given.after_closes _ given.chunks new.recorded new.left given.settles in
    let ended = steps_then given.after_fallbacks given.closes given.after_closes rest.0 new.recorded given.ends_contexts rest.1 in (
      given.runs ++ (given.fallbacks ++ (given.closes ++ rest.0)),
      steps_then old.recorded given.runs given.after_runs (given.fallbacks ++ (given.closes ++ rest.0)) new.recorded given.ends_runs
          (steps_then given.after_runs given.fallbacks given.after_fallbacks (given.closes ++ rest.0) new.recorded given.ends_fallbacks ended),
    )

-- a log that has lost a step takes no more
pub stays_lost : (steps : List Step) (l : StepLogView) → l.lost ≡ true → logged_each steps l ≡ l
stays_lost [] l lost = refl
stays_lost (step ∷ steps) l lost =
    let same : logged step l ≡ l = rw lost refl in ap (logged_each steps) same ∙ stays_lost steps l lost

-- a test is true or false
pub shown : (b : Bool) → (b ≡ true) ⊎ (b ≡ false)
shown true = inl refl
shown false = inr refl

below_from : (a b : ℕ) → nat_lt a b ≡ true → a < b
below_from a b h = grind (arith, nat_tests)

above_from : (a b : ℕ) → nat_lt a b ≡ false → b ≤ a
above_from a b h = grind (arith, nat_tests)

one_on : (a b : ℕ) → (a + 1) + b ≡ a + suc b
one_on a b = omega arith

both_same : (l : StepLogView) (xs ys : List Step) (a b : Bool) → xs ≡ ys → a ≡ b → record l { steps = xs; lost = a } ≡ record l { steps = ys; lost = b }
both_same l xs ys a b p q = rw (p, q) refl

-- there is room for as many as fit behind those that are there
not_over : (limit n : ℕ) → n ≤ limit → nat_lt limit (n + 0) ≡ false
not_over limit n h = grind (arith, nat_tests)

over : (limit n m : ℕ) → limit ≤ n → nat_lt limit (n + suc m) ≡ true
over limit n m h = grind (arith, nat_tests)

one_less : (limit n : ℕ) (step : Step) (steps : List Step) → n < limit → take (limit - n) (step ∷ steps) ≡ step ∷ take (limit - (n + 1)) steps
one_less limit n step steps h = let e : limit - n ≡ suc (limit - (n + 1)) = omega arith in rw e refl

none_left : (limit n : ℕ) (steps : List Step) → limit ≤ n → take (limit - n) steps ≡ []
none_left limit n steps h = let e : limit - n ≡ 0 = omega arith in rw e refl

pub front_logged : (steps : List Step) (l : StepLogView) → length l.steps ≤ l.limit → l.lost ≡ false → IsFrontLogged steps l
front_logged [] l within kept =
    both_same l l.steps (l.steps ++ take (l.limit - length l.steps) []) l.lost (nat_lt l.limit (length l.steps + 0))
    (sym (ap (λ (xs : List Step). l.steps ++ xs) (take-nil (l.limit - length l.steps)) ∙ append-nil l.steps)) (kept ∙ sym (not_over l.limit (length l.steps) within))
front_logged (step ∷ steps) l within kept =
    elim (shown (nat_lt (length l.steps) l.limit)) [
      | inl has ↦ (let one : logged step l ≡ record l { steps = l.steps ++ step ∷ [] } = rw (kept, has) refl in
          let more : length (l.steps ++ step ∷ []) ≡ length l.steps + 1 = length-append l.steps (step ∷ []) in
          let below : length l.steps < l.limit = below_from _ _ has in
          ap (logged_each steps) one
          ∙ front_logged steps (record l { steps = l.steps ++ step ∷ [] }) (subst (λ (n : ℕ). n ≤ l.limit) (sym more) (omega (arith, below))) kept
          ∙ both_same l _ _ _ _
          (append_assoc l.steps (step ∷ []) _ ∙ ap (λ (n : ℕ). l.steps ++ step ∷ take (l.limit - n) steps) more
          ∙ ap (λ (xs : List Step). l.steps ++ xs) (sym (one_less l.limit (length l.steps) step steps below)))
          (ap (λ (n : ℕ). nat_lt l.limit (n + length steps)) more ∙ ap (nat_lt l.limit) (one_on (length l.steps) (length steps))))
      | inr full ↦ (let none : logged step l ≡ record l { lost = true } = rw (kept, full) refl in
          let above : l.limit ≤ length l.steps = above_from _ _ full in
          ap (logged_each steps) none ∙ stays_lost steps (record l { lost = true }) refl
          ∙ both_same l _ _ _ _
          (sym (ap (λ (xs : List Step). l.steps ++ xs) (none_left l.limit (length l.steps) (step ∷ steps) above) ∙ append-nil l.steps))
          (sym (over l.limit (length l.steps) (length steps) above)))
    ]
