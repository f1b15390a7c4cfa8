-- Groups that are opened one after the other.
use Rattle.std.proofs.Common.{◌≡◌, ℕ, List, [], ◌∷◌, ◌++◌, refl, sym, ◌∙◌, ap}
use Rattle.std.specs.Prelude.{map}
use Rattle.bh_base.specs.Props.{GroupProps}
use Rattle.bh_base.specs.Runs.{opened, view}
use Rattle.bh_core.specs.CoreView.{CoreView, Life, living}
use Rattle.bh_props.specs.SettingsView.{SettingsView}
use Rattle.bh_port.specs.Course.{opened_group, step_limit}

-- a new group
abbrev pub opened_life : SettingsView → List ℕ × GroupProps → Life
opened_life service g = living (view (opened_group service g.1))

map-push : {X Y : Type 0} (f : X → Y) (xs : List X) (x : X) → map f (xs ++ x ∷ []) ≡ map f xs ++ f x ∷ []
map-push f [] x = refl
map-push f (y ∷ ys) x = ap (λ zs. f y ∷ zs) (map-push f ys x)

-- one more group stands
pub open-more : (service : SettingsView) (done : List (List ℕ × GroupProps)) (g : List ℕ × GroupProps) (old new : CoreView) (limit : ℕ)
    → limit ≡ step_limit service.audit_steps → old ≡ record { slot_limit = 4_294_967_295; lives = map (opened_life service) done }
    → new ≡ record old { lives = old.lives ++ living (view (opened g.1 limit)) ∷ [] }
    → new ≡ record { slot_limit = 4_294_967_295; lives = map (opened_life service) (done ++ g ∷ []) }
open-more service done g old new limit is was added =
    added ∙ ap (λ (c : CoreView). record c { lives = c.lives ++ living (view (opened g.1 limit)) ∷ [] }) was
    ∙ ap (λ n. record { slot_limit = 4_294_967_295; lives = map (opened_life service) done ++ living (view (opened g.1 n)) ∷ [] }) is
    ∙ ap (λ ls. record { slot_limit = 4_294_967_295; lives = ls }) (sym (map-push (opened_life service) done g))
