-- No group can tell one world from the other.
use Rattle.std.proofs.Common.{ℕ, List, Some, ◌∙◌, sym, ap}
use Rattle.bh_base.specs.declared.reply.Reply.{Reply}
use Rattle.bh_base.specs.declared.step.Step.{Step}
use Rattle.bh_base.specs.Runs.{State, replies, state_after, view}
use Rattle.bh_core.specs.CoreView.{CoreView, Shows}
use Rattle.bh_core.specs.Runs.{AreTwoWorlds, EndAlike}

-- in both worlds the group was told the same, and looks the same at the end
pub end_alike : (group : ℕ) (s : State) (a b c d : CoreView) (xs ys : List Step) (told heard : List Reply) → AreTwoWorlds group s a b c d xs ys told heard → EndAlike group b d xs ys told heard
end_alike group s a b c d xs ys told heard are =
    let shown : Shows c group s = record { sound = are.shows.sound; view_is = are.alike ∙ are.shows.view_is } in
    record {
      replies = are.first.replies group s are.shows ∙ ap (replies s) are.own_steps ∙ sym (are.second.replies group s shown);
      views = (are.first.views group s are.shows).view_is ∙ ap (λ zs. Some (view (state_after s zs))) are.own_steps ∙ sym (are.second.views group s shown).view_is;
    }
