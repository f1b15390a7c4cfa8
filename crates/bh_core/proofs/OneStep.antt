-- A step of all groups, by what its own group did.
use Rattle.std.proofs.Common.{◌≡◌, ℕ, ◌<◌, List, Some, None, refl, ◌∙◌, sym, ap, subst}
use Rattle.std.specs.Prelude.{slice_get}
use Rattle.std.proofs.Math.ListN.{set}
use Rattle.std.proofs.lemmas.List.{length-set}
use Rattle.bh_base.specs.declared.reply.Reply.{Reply}
use Rattle.bh_base.specs.declared.reply.Reply.TheVariants.{GroupFull, NoGroup}
use Rattle.bh_base.specs.declared.step.Step.{Step}
use Rattle.bh_base.specs.Commands.{command_count, is_known}
use Rattle.bh_base.specs.Replies.{can_reply}
use Rattle.bh_base.specs.Runs.{State, View, IsSound, step, view}
use Rattle.bh_base.specs.Seen.{view_after, view_reply}
use Rattle.bh_base.proofs.Answering.{view_reply_fits}
use Rattle.bh_base.proofs.Refusing.{missing_unknown, unknown_missing}
use Rattle.bh_base.proofs.Views.{step_sound}
use Rattle.bh_core.specs.CoreView.{CoreView, Life, Shows, living, view_at}
use Rattle.bh_core.specs.Step.{IsStep}
use Rattle.bh_core.specs.Stepping.{IsSteady}
use Rattle.bh_core.proofs.OneOfMany.{known, own_view, seen_reply, seen_view, slice_get-set_other, step_reply, step_view}
use Rattle.bh_core.proofs.Refused.{full_moves_on, missing_leaves, not_unknown, worn_leaves}

-- the groups of the lives
abbrev limited : ℕ → List Life → CoreView
limited limit ls = record { slot_limit = limit; lives = ls }

-- a group that shows something is not one that shows nothing
shows_none : (groups : CoreView) (group : ℕ) (v : View) → view_at groups group ≡ None → view_at groups group ≡ Some v → ⊥
shows_none groups group v none shown = cc

-- the group is not registered, or is retired: that is told, and nothing changes
pub step_unknown : (groups : CoreView) (x : Step) → view_at groups x.group.0 ≡ None → IsStep groups x NoGroup groups
step_unknown groups x none = record {
  reply = λ s shows. absurd (shows_none groups x.group.0 (view s) none shows.view_is);
  own = λ s shows. absurd (shows_none groups x.group.0 (view s) none shows.view_is);
  others = λ group differ. refl;
  count = refl;
  limit = refl;
  unknown = λ none. refl;
  unknown_same = λ none. refl;
  missing = λ v shown lacks. absurd (shows_none groups x.group.0 v none shown);
  has_command = λ v shown told. absurd (shows_none groups x.group.0 v none shown);
  own_command = λ v shown. absurd (shows_none groups x.group.0 v none shown);
  worn = λ worn. refl;
  no_group = λ none. refl;
  no_command = λ missing. refl;
  full = λ full. let other : NoGroup ≡ GroupFull = full in absurd cc;
  seen = λ v shown. absurd (shows_none groups x.group.0 v none shown);
  kinds = refl;
}

-- the group shows d: it told what its machine tells, and is what that leaves
pub step_known : (limit : ℕ) (ls : List Life) (d e : View) (x : Step) (r : Reply) → slice_get ls x.group.0 ≡ Some (living d) → IsSteady d → r ≡ view_reply d x.op x.now → e ≡ view_after d x.op x.now → IsStep (limited limit ls) x r (limited limit (set ls x.group.0 (living e)))
step_known limit ls d e x r is steady said did = record {
  reply = reply;
  own = own;
  others = λ group differ. slice_get-set_other ls x.group.0 (living e) group differ;
  count = length-set ls x.group.0 (living e);
  limit = refl;
  unknown = λ none. absurd (known ls x.group.0 d is none);
  unknown_same = λ none. absurd (known ls x.group.0 d is none);
  missing = λ v shown lacks. said ∙ unknown_missing d x.op x.now (ap (λ (u : View). is_known x.op u.present.props) (own_view ls x.group.0 d v is shown) ∙ lacks);
  has_command = λ v shown told. ap (λ (u : View). is_known x.op u.present.props) (sym (own_view ls x.group.0 d v is shown)) ∙ missing_unknown d x.op x.now (sym said ∙ told);
  own_command = λ v shown. subst (λ (u : View). 0 < command_count u.present.props) (own_view ls x.group.0 d v is shown) steady.own;
  worn = λ worn. ap (limited limit) (worn_leaves ls x.group.0 d e x.op x.now r is said did worn);
  no_command = λ missing. ap (limited limit) (missing_leaves ls x.group.0 d e x.op x.now r is said did missing);
  no_group = λ none. absurd (not_unknown d x.op x.now r said none);
  full = λ full s shows.
      let left = full_moves_on ls x.group.0 d s x.op x.now is steady shows.view_is (sym (reply s shows) ∙ full) in
      record { sound = subst IsSound left (own s shows).sound; view_is = (own s shows).view_is ∙ ap (λ (t : State). Some (view t)) left };
  seen = λ v shown. (seen_reply ls x.group.0 d v x.op x.now r is said shown, seen_view ls x.group.0 d e v x.op x.now is did shown);
  kinds = ap (can_reply x.op) said ∙ view_reply_fits d x.op x.now;
}
  where
    reply : (s : State) → Shows (limited limit ls) x.group.0 s → r ≡ (step s x.op x.now).reply
    reply s shows = step_reply ls x.group.0 d s x.op x.now r is said shows.sound shows.view_is

    own : (s : State) → Shows (limited limit ls) x.group.0 s → Shows (limited limit (set ls x.group.0 (living e))) x.group.0 (step s x.op x.now).state
    own s shows = record { sound = step_sound s x.op x.now shows.sound; view_is = step_view ls x.group.0 d e s x.op x.now is did shows.sound shows.view_is }
