-- What a refusal leaves of all groups.
use Rattle.std.proofs.Common.{◌≡◌, ℕ, List, [], ◌∷◌, filter, Some, zero, suc, refl, ◌∙◌, sym, ap}
use Rattle.std.specs.Prelude.{slice_get}
use Rattle.std.proofs.Math.ListN.{set}
use Rattle.bh_base.specs.declared.reply.Reply.{Reply}
use Rattle.bh_base.specs.declared.reply.Reply.TheVariants as reply
use Rattle.bh_base.specs.declared.step.Op.{Op}
use Rattle.bh_base.specs.Runs.{State, View, moved_on, step, view}
use Rattle.bh_base.specs.Seen.{view_after, view_reply}
use Rattle.bh_base.specs.Tickets.{is_kept}
use Rattle.bh_base.proofs.Refusing.{full_leaves, known_group, missing_same, worn_same}
use Rattle.bh_core.specs.CoreView.{Life, living, shown_by}
use Rattle.bh_core.specs.Stepping.{IsSteady}
use Rattle.bh_core.proofs.OneOfMany.{own_view}

-- where the group looks as it did, all groups do
same_lives : (ls : List Life) (i : ℕ) (d e : View) → slice_get ls i ≡ Some (living d) → e ≡ d → (set ls i (living e)) ≡ ls
same_lives [] i d e is same = refl
same_lives (x ∷ xs) zero d e is same = (let here : x ≡ living d = cc in ap (λ l. l ∷ xs) (ap living same ∙ sym here))
same_lives (x ∷ xs) (suc i) d e is same = ap (λ ls. x ∷ ls) (same_lives xs i d e is same)

-- a worn group changes no more
pub worn_leaves : (ls : List Life) (i : ℕ) (d e : View) (o : Op) (now : ℕ) (r : Reply) → slice_get ls i ≡ Some (living d) → r ≡ view_reply d o now → e ≡ view_after d o now → r ≡ reply.Worn → (set ls i (living e)) ≡ ls
worn_leaves ls i d e o now r is said did worn = same_lives ls i d e is (did ∙ worn_same d o now (sym said ∙ worn))

-- nor does a group change that lacks the command
pub missing_leaves : (ls : List Life) (i : ℕ) (d e : View) (o : Op) (now : ℕ) (r : Reply) → slice_get ls i ≡ Some (living d) → r ≡ view_reply d o now → e ≡ view_after d o now → r ≡ reply.NoCommand → (set ls i (living e)) ≡ ls
missing_leaves ls i d e o now r is said did missing = same_lives ls i d e is (did ∙ missing_same d o now (sym said ∙ missing))

-- a group that is there is not answered as if it were not
pub not_unknown : (d : View) (o : Op) (now : ℕ) (r : Reply) → r ≡ view_reply d o now → r ≡ reply.NoGroup → ⊥
not_unknown d o now r said none = known_group d o now (sym said ∙ none)

-- a full group notes the step alone
pub full_moves_on : (ls : List Life) (i : ℕ) (d : View) (s : State) (o : Op) (now : ℕ) → slice_get ls i ≡ Some (living d) → IsSteady d → shown_by (slice_get ls i) ≡ Some (view s) → (step s o now).reply ≡ reply.GroupFull → (step s o now).state ≡ moved_on s now
full_moves_on ls i d s o now is steady shown full =
    let same : d ≡ view s = own_view ls i d (view s) is shown in
    full_leaves s o now (sym (ap (λ (v : View). filter is_kept v.present.tickets) same) ∙ steady.kept ∙ ap (λ (v : View). v.present.tickets) same) full
