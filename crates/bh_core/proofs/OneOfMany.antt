-- One group of many makes a step.
use Rattle.std.proofs.Common.{◌≡◌, ◌≢◌, ℕ, List, [], ◌∷◌, Option, Some, None, refl, ◌∙◌, sym, ap, zero, suc}
use Rattle.std.specs.Prelude.{slice_get}
use Rattle.std.proofs.Math.ListN.{set}
use Rattle.bh_base.specs.declared.reply.Reply.{Reply}
use Rattle.bh_base.specs.declared.step.Op.{Op}
use Rattle.bh_base.specs.Runs.{State, View, IsSound, view, step}
use Rattle.bh_base.specs.Seen.{view_after, view_reply}
use Rattle.bh_base.proofs.Views.{after_seen, reply_seen}
use Rattle.bh_core.specs.CoreView.{Life, living, retired, shown_by}

-- a group that shows a view is not retired
pub shown_living : (o : Option Life) (v : View) → shown_by o ≡ Some v → o ≡ Some (living v)
shown_living None v e = absurd cc
shown_living (Some (living w)) v e = (let same : w ≡ v = cc in ap (λ u. Some (living u)) same)
shown_living (Some (retired props limit)) v e = absurd cc

-- two views that one option holds are the same
pub one_view : (o : Option View) (a b : View) → o ≡ Some a → o ≡ Some b → a ≡ b
one_view o a b p q = cc

-- the view that a living group shows is its own
pub own_view : (ls : List Life) (i : ℕ) (d v : View) → slice_get ls i ≡ Some (living d) → shown_by (slice_get ls i) ≡ Some v → d ≡ v
own_view ls i d v is shown = one_view (shown_by (slice_get ls i)) d v (ap shown_by is) shown

-- a list with another element at a place within it
pub slice_get-set_same : {X : Type 0} (xs : List X) (i : ℕ) (x y : X) → slice_get xs i ≡ Some x → slice_get (set xs i y) i ≡ Some y
slice_get-set_same [] i x y e = absurd cc
slice_get-set_same (z ∷ zs) zero x y e = refl
slice_get-set_same (z ∷ zs) (suc i) x y e = slice_get-set_same zs i x y e

pub slice_get-set_other : {X : Type 0} (xs : List X) (i : ℕ) (x : X) (j : ℕ) → j ≢ i → slice_get (set xs i x) j ≡ slice_get xs j
slice_get-set_other [] i x j differ = refl
slice_get-set_other (y ∷ ys) zero x zero differ = absurd (differ refl)
slice_get-set_other (y ∷ ys) zero x (suc j) differ = refl
slice_get-set_other (y ∷ ys) (suc i) x zero differ = refl
slice_get-set_other (y ∷ ys) (suc i) x (suc j) differ = slice_get-set_other ys i x j (λ e. differ (ap suc e))

-- the group's reply is that of every state that it may be in
pub step_reply : (ls : List Life) (i : ℕ) (d : View) (s : State) (o : Op) (now : ℕ) (r : Reply) → slice_get ls i ≡ Some (living d) → r ≡ view_reply d o now → IsSound s → shown_by (slice_get ls i) ≡ Some (view s) → r ≡ (step s o now).reply
step_reply ls i d s o now r is said sound shown = said ∙ ap (λ v. view_reply v o now) (own_view ls i d (view s) is shown) ∙ sym (reply_seen s o now sound)

-- and it shows that state's successor then
pub step_view : (ls : List Life) (i : ℕ) (d e : View) (s : State) (o : Op) (now : ℕ) → slice_get ls i ≡ Some (living d) → e ≡ view_after d o now → IsSound s → shown_by (slice_get ls i) ≡ Some (view s) → shown_by (slice_get (set ls i (living e)) i) ≡ Some (view (step s o now).state)
step_view ls i d e s o now is did sound shown =
    ap shown_by (slice_get-set_same ls i (living d) (living e) is)
    ∙ ap Some (did ∙ ap (λ v. view_after v o now) (own_view ls i d (view s) is shown) ∙ sym (after_seen s o now sound))

-- by the view alone
pub seen_reply : (ls : List Life) (i : ℕ) (d : View) (v : View) (o : Op) (now : ℕ) (r : Reply) → slice_get ls i ≡ Some (living d) → r ≡ view_reply d o now → shown_by (slice_get ls i) ≡ Some v → r ≡ view_reply v o now
seen_reply ls i d v o now r is said shown = said ∙ ap (λ u. view_reply u o now) (own_view ls i d v is shown)

-- the group shows then what the step leaves of the view that it showed
pub seen_view : (ls : List Life) (i : ℕ) (d e : View) (v : View) (o : Op) (now : ℕ) → slice_get ls i ≡ Some (living d) → e ≡ view_after d o now → shown_by (slice_get ls i) ≡ Some v → shown_by (slice_get (set ls i (living e)) i) ≡ Some (view_after v o now)
seen_view ls i d e v o now is did shown =
    ap shown_by (slice_get-set_same ls i (living d) (living e) is)
    ∙ ap Some (did ∙ ap (λ u. view_after u o now) (own_view ls i d v is shown))

-- a living group shows something
pub known : (ls : List Life) (i : ℕ) (d : View) → slice_get ls i ≡ Some (living d) → shown_by (slice_get ls i) ≡ None → ⊥
known ls i d is none = let e : shown_by (slice_get ls i) ≡ Some d = ap shown_by is in cc
