-- Panels in which a life begins, or none.
use Rattle.std.proofs.Common.{◌≡◌, ℕ, List, set, Option, Some, sym, refl}
use Rattle.std.specs.Prelude.{slice_get}
use Rattle.bh_columns.specs.Panels.{EachAt, IsNewLife}
use Rattle.bh_columns.specs.Placed.{IsBegunAt}
use Rattle.bh_columns.specs.declared.panel.KeptPanel.{KeptPanel}
use Rattle.bh_columns.proofs.Lists.{each_one, each_same, each_weaker}

not_begun : (place : Option ℕ) (p : ℕ) (panel : KeptPanel) → (place ≡ Some p → ⊥) → IsBegunAt place p panel panel
not_begun place p panel nowhere = record {
  begun = λ is. absurd (nowhere is);
  other = λ _. refl;
  tracks = each_same panel.lanes.items (λ k lane next. next.track ≡ lane.track) (λ k lane. refl);
  steps = refl;
  group = refl;
  like = refl;
}

pub none_begun : (panels : List KeptPanel) (place : Option ℕ) → ((p : ℕ) (panel : KeptPanel) → slice_get panels p ≡ Some panel → place ≡ Some p → ⊥) → EachAt panels panels (λ p a b. IsBegunAt place p a b)
none_begun panels place nowhere = record { count = refl; each = λ p panel at. (panel, at, not_begun place p panel (nowhere p panel at)) }

pub one_begun : (panels : List KeptPanel) (n : ℕ) (was next : KeptPanel) → slice_get panels n ≡ Some was → EachAt was.lanes.items next.lanes.items (λ k a b. IsNewLife a b) → next.steps ≡ was.steps → next.group ≡ was.group → next.like ≡ was.like
    → EachAt panels (set panels n next) (λ p a b. IsBegunAt (Some n) p a b)
one_begun panels n was next at lives steps group like =
    each_one panels n was next (λ p a b. IsBegunAt (Some n) p a b) at
    (record {
      begun = λ _. lives;
      other = λ no. absurd (no refl);
      tracks = each_weaker was.lanes.items next.lanes.items (λ k a b. IsNewLife a b) (λ k a b. b.track ≡ a.track) (λ k a b ab. ab.track) lives;
      steps = steps;
      group = group;
      like = like;
    })
    (λ p x differ. not_begun (Some n) p x (λ is. differ (let same : n ≡ p = cc in sym same)))
