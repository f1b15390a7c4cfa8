-- Rounds of a timer, one after another.
use Rattle.std.proofs.Common.{◌≡◌, ℕ, Bool, List, [], ◌∷◌, ◌++◌, slice_get, slice_set, Option, Some, None, inl, inr, refl, sym, ap, ◌∙◌, subst, arith}
use Rattle.std.specs.Prelude.{Result, Ok, Err}
use Rattle.std.proofs.lemmas.List.{length-set}
use Rattle.std.proofs.lemmas.Option.{slice_get_within, slice_get_cases}
use Rattle.bh_base.specs.declared.step.GroupId.{GroupId}
use Rattle.bh_base.specs.declared.step.Op.TheVariants as op
use Rattle.bh_base.specs.declared.reply.Reply.TheVariants as reply
use Rattle.bh_journal.specs.declared.pass.Receipt.{Receipt}
use Rattle.bh_journal.specs.Passes.{PassView}
use Rattle.bh_audit.specs.declared.next.StepError.{StepError}
use Rattle.bh_audit.specs.Calls.{AddsExpire}
use Rattle.bh_journal.proofs.Lists.{get_set_other, get_set_same}
use Rattle.bh_audit.proofs.Lists.{one_item, same_or_other}
use Rattle.bh_workers.specs.Timing.{AreExpiries, AreTimed, IsTimed}
use Rattle.bh_workers.proofs.Adding.{Gains-append, added_receipt, none_by_same}

module _ (moments : ℕ → Type 0) (a : Bool) where
  -- the timer added nothing to a pass
  pub untouched : (p q : PassView) → q ≡ p → IsTimed moments a p q
  untouched p q same = record { made = []; gains = none_by_same a p q same; marks = ap (λ (x : PassView). x.marks) same; expiries = tt }

  timed_once : (p q : PassView) (number : Option ℕ) → AddsExpire moments a p number q → IsTimed moments a p q
  timed_once p q (Some number) h =
      let t = added_receipt moments a p q op.Expire h.1.0 (reply.Expired number) h.1.1 h.1.2 in
      record { made = t.receipt ∷ []; gains = t.gains; marks = t.marks; expiries = (record { number = number; some = h.0; expired = t.is }, tt) }
  timed_once p q None h = untouched p q h

  -- one look for tickets that are due, whatever it found
  pub looked : (p q : PassView) (result : Result (Option ℕ) StepError)
      → ((number : Option ℕ) → result ≡ Ok number → AddsExpire moments a p number q) → ((e : StepError) → result ≡ Err e → q ≡ p) → IsTimed moments a p q
  looked p q (Ok number) ok err = timed_once p q number (ok number refl)
  looked p q (Err e) ok err = untouched p q (err e refl)

  expiries_then : (g : GroupId) (xs ys : List Receipt) → AreExpiries moments g xs → AreExpiries moments g ys → AreExpiries moments g (xs ++ ys)
  expiries_then g [] ys h k = k
  expiries_then g (x ∷ xs) ys h k = (h.0, expiries_then g xs ys h.1 k)

  -- it was at a pass twice
  pub timed_then : (p m q : PassView) → IsTimed moments a p m → IsTimed moments a m q → IsTimed moments a p q
  timed_then p m q h k = record {
    made = h.made ++ k.made;
    gains = Gains-append a p m q h.made k.made h.gains k.gains;
    marks = k.marks ∙ h.marks;
    expiries = expiries_then p.group h.made k.made h.expiries (let P : GroupId → Type 0 = λ g. AreExpiries moments g k.made in subst P h.gains.group k.expiries);
  }

  -- it added nothing to any
  pub all_untouched : (ps : List PassView) → AreTimed moments a ps ps
  all_untouched ps = record { count = refl; each = λ k p q at is. untouched p q (one_item (slice_get ps k) q p is at) }

  -- one more pass was looked at
  pub one_more : (xs ys : List PassView) (i : ℕ) (m q : PassView) → AreTimed moments a xs ys → slice_get ys i ≡ Some m → IsTimed moments a m q → AreTimed moments a xs (slice_set ys i q)
  one_more xs ys i m q s at t = record {
    count = length-set ys i q ∙ s.count;
    each = λ k p r was is.
        elim (same_or_other k i) [
          | inl same ↦
              let here : slice_get xs i ≡ Some p = ap (slice_get xs) (sym same) ∙ was in
              let there : slice_get (slice_set ys i q) i ≡ Some r = ap (slice_get (slice_set ys i q)) (sym same) ∙ is in
              let new : q ≡ r = one_item (slice_get (slice_set ys i q) i) q r (get_set_same ys i q (slice_get_within ys i m at)) there in
              let P : PassView → Type 0 = λ x. IsTimed moments a p x in
              subst P new (timed_then p m q (s.each i p m here at) t)
          | inr other ↦ s.each k p r was (sym (get_set_other ys i k q other) ∙ is)
        ];
  }

  -- one round after another
  pub rounds : (xs ys zs : List PassView) → AreTimed moments a xs ys → AreTimed moments a ys zs → AreTimed moments a xs zs
  rounds xs ys zs s t = record {
    count = t.count ∙ s.count;
    each = λ k p q was is.
        elim ((slice_get_cases ys k).1) [
          | inl w ↦ timed_then p w.0 q (s.each k p w.0 was w.2) (t.each k w.0 q w.2 is)
          | inr w ↦ absurd (let past = w.0 in let same = t.count in let lt = slice_get_within zs k q is in omega arith)
        ];
  }
