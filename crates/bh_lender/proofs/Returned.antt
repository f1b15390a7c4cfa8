-- One lease more was given back.
use Rattle.std.proofs.Common.{◌≡◌, ◌<◌, ◌+◌, ℕ, Bool, true, false, cond, List, [], ◌∷◌, ◌++◌, filter, length, map, take, slice_index_or, refl, ap, sym, subst, ◌∙◌}
use Rattle.bh_base.specs.declared.reply.Reply.{Reply}
use Rattle.bh_base.specs.declared.step.Step.{Step}
use Rattle.bh_lease.specs.declared.lease.Lease.{Lease}
use Rattle.bh_lease.specs.declared.lease.Part.{Part}
use Rattle.bh_lease.specs.Lease.{has}
use Rattle.bh_lease.specs.declared.lease.Within.{Within}
use Rattle.bh_lender.specs.Lender.{close_step, end_step}
use Rattle.bh_lender.specs.Recorded.{IsMade, RecordedView}
use Rattle.bh_lender.specs.Steps.{AreSteps, Made, steps_of}
use Rattle.std.proofs.lemmas.List.{append-nil, map-append, take_more}
use Rattle.std.proofs.lemmas.List.Elements.{filter_more}

-- one step more behind others
pub step_more : (old : RecordedView) (made : List Made) (mid : RecordedView) (step : Step) (reply : Reply) (new : RecordedView) → AreSteps old made mid → IsMade mid step reply new → AreSteps old (made ++ (step, reply) ∷ []) new
step_more old [] mid step reply new so is = let P : RecordedView → Type 0 = λ groups. IsMade groups step reply new in (new, subst P so is, refl)
step_more old (m ∷ ms) mid step reply new (between, first, others) is = (between, first, step_more between ms mid step reply new others is)

-- the items up to a place that pass a test, where that at the place passes it
pub one_passes : {X Y : Type 0} (p : X → Bool) (f : X → Y) (xs : List X) (i : ℕ) (d : X) → i < length xs → p (slice_index_or xs i d) ≡ true → map f (filter p (take (i + 1) xs)) ≡ map f (filter p (take i xs)) ++ f (slice_index_or xs i d) ∷ []
one_passes p f xs i d within passes =
    ap (map f) (filter_more p xs i d within ∙ ap (λ b. filter p (take i xs) ++ cond b (slice_index_or xs i d ∷ []) []) passes)
    ∙ map-append f (filter p (take i xs)) (slice_index_or xs i d ∷ [])

-- and where it fails it
pub one_fails : {X Y : Type 0} (p : X → Bool) (f : X → Y) (xs : List X) (i : ℕ) (d : X) → i < length xs → p (slice_index_or xs i d) ≡ false → map f (filter p (take (i + 1) xs)) ≡ map f (filter p (take i xs))
one_fails p f xs i d within fails =
    ap (map f) (filter_more p xs i d within ∙ ap (λ b. filter p (take i xs) ++ cond b (slice_index_or xs i d ∷ []) []) fails ∙ append-nil (filter p (take i xs)))

-- the part of one lease more is ended, by the step that was made
pub end_more : (now : ℕ) (p : Part) (leases : List Lease) (i : ℕ) (d : Lease) (old : RecordedView) (made : List Made) (mid : RecordedView) (reply : Reply) (new : RecordedView)
    → AreSteps old made mid → steps_of made ≡ map (end_step now p) (filter (has p) (take i leases)) → i < length leases → has p (slice_index_or leases i d) ≡ true
    → IsMade mid (end_step now p (slice_index_or leases i d)) reply new
    → (all : List Made) × AreSteps old all new × (steps_of all ≡ map (end_step now p) (filter (has p) (take (i + 1) leases)))
end_more now p leases i d old made mid reply new so are within has_it is = (
  made ++ (end_step now p (slice_index_or leases i d), reply) ∷ [],
  step_more old made mid (end_step now p (slice_index_or leases i d)) reply new so is,
  map-append (λ (m : Made). m.0) made ((end_step now p (slice_index_or leases i d), reply) ∷ [])
      ∙ ap (λ (xs : List Step). xs ++ end_step now p (slice_index_or leases i d) ∷ []) are
      ∙ sym (one_passes (has p) (end_step now p) leases i d within has_it),
)

-- one context more is ended, by the step that was made
pub close_more : (now : ℕ) (contexts : List Within) (i : ℕ) (d : Within) (old : RecordedView) (made : List Made) (mid : RecordedView) (reply : Reply) (new : RecordedView)
    → AreSteps old made mid → steps_of made ≡ map (close_step now) (take i contexts) → i < length contexts
    → IsMade mid (close_step now (slice_index_or contexts i d)) reply new
    → (all : List Made) × AreSteps old all new × (steps_of all ≡ map (close_step now) (take (i + 1) contexts))
close_more now contexts i d old made mid reply new so are within is = (
  made ++ (close_step now (slice_index_or contexts i d), reply) ∷ [],
  step_more old made mid (close_step now (slice_index_or contexts i d)) reply new so is,
  map-append (λ (m : Made). m.0) made ((close_step now (slice_index_or contexts i d), reply) ∷ [])
      ∙ ap (λ (xs : List Step). xs ++ close_step now (slice_index_or contexts i d) ∷ []) are
      ∙ sym (map-append (close_step now) (take i contexts) (slice_index_or contexts i d ∷ []))
      ∙ ap (map (close_step now)) (sym (take_more contexts i d within)),
)
