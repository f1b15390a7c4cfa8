-- What a call with a new pass gives.
use Rattle.std.proofs.Common.{◌≡◌, ℕ, List, Ok, Err, Some, MatchResult, subst}
use Rattle.std.specs.Prelude.{Result}
use Rattle.bh_base.specs.declared.step.GroupId.{GroupId}
use Rattle.bh_base.specs.declared.step.Request.{Request}
use Rattle.bh_base.specs.declared.step.RunEnd.{RunEnd}
use Rattle.bh_base.specs.declared.step.FallbackEnd.{FallbackEnd}
use Rattle.bh_base.specs.declared.reply.Answer.{Answer}
use Rattle.bh_base.specs.declared.reply.CallError.{CallError}
use Rattle.bh_base.specs.declared.reply.Cause.{Cause}
use Rattle.bh_base.specs.declared.reply.Reply.{Reply}
use Rattle.bh_base.specs.declared.reply.Reply.TheVariants as replies
use Rattle.bh_journal.specs.Passes.{PassView}
use Rattle.bh_audit.specs.Service.{ServiceView}
use Rattle.bh_workers.specs.Calls.{CallAdds, IsCall}
use Rattle.bh_serve.specs.Served.{IsCalled, MayAnswer, new_pass}

-- a reply tells one answer
pub same_answer : (told : Reply) (x y : Answer) → told ≡ replies.Answered x → told ≡ replies.Answered y → x ≡ y
same_answer told x y a b = cc

module _ (ends : GroupId → ℕ → List ℕ → RunEnd → Type 0) (fallback_ends : GroupId → ℕ → Cause → List ℕ → FallbackEnd → Type 0) (moments : ℕ → Type 0) where
  -- what the pass has of a call is that of a call with a new one
  pub called : (seen service : ServiceView) (p q : PassView) (group : GroupId) (request : Request) (told : Reply) (r : Result (Unit {0}) CallError) → seen ≡ service → p ≡ new_pass seen group 5
      → MatchResult r (λ done. (x : Answer) × (told ≡ replies.Answered x) × CallAdds seen.audited p (Ok x) q (IsCall ends fallback_ends moments p.group request (Ok x))) (λ error. CallAdds seen.audited p (Err error) q (IsCall ends fallback_ends moments p.group request (Err error)))
      → MatchResult r (λ done. (x : Answer) × (told ≡ replies.Answered x) × IsCalled ends fallback_ends moments service group request (Ok x) (Some q)) (λ error. IsCalled ends fallback_ends moments service group request (Err error) (Some q))
  called seen service p q group request told (Ok u) same new h =
      let P : PassView → Type 0 = λ y. CallAdds seen.audited y (Ok h.0) q (IsCall ends fallback_ends moments y.group request (Ok h.0)) in
      let Q : ServiceView → Type 0 = λ s. IsCalled ends fallback_ends moments s group request (Ok h.0) (Some q) in
      (h.0, h.1, subst Q same (subst P new h.2))
  called seen service p q group request told (Err e) same new h =
      let P : PassView → Type 0 = λ y. CallAdds seen.audited y (Err e) q (IsCall ends fallback_ends moments y.group request (Err e)) in
      let Q : ServiceView → Type 0 = λ s. IsCalled ends fallback_ends moments s group request (Err e) (Some q) in
      subst Q same (subst P new h)

  -- so its answer is one that may be
  pub may_answer : (service : ServiceView) (q : PassView) (group : GroupId) (request : Request) (told : Reply) (r : Result (Unit {0}) CallError)
      → MatchResult r (λ done. (x : Answer) × (told ≡ replies.Answered x) × IsCalled ends fallback_ends moments service group request (Ok x) (Some q)) (λ error. IsCalled ends fallback_ends moments service group request (Err error) (Some q))
      → MatchResult r (λ done. (x : Answer) × (told ≡ replies.Answered x) × MayAnswer ends fallback_ends moments group request (Ok x)) (λ error. MayAnswer ends fallback_ends moments group request (Err error))
  may_answer service q group request told (Ok u) h = (h.0, h.1, (h.2.made, h.2.is))
  may_answer service q group request told (Err e) h = (h.made, h.is)
