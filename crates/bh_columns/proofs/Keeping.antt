-- What is kept of all groups, where each panel became another.
use Rattle.std.proofs.Common.{◌≡◌, ◌+◌, ◌*◌, ◌/◌, ◌-◌, ◌<◌, ◌≤◌, ℕ, Some, List, length, set, refl, sym, ap, subst, ◌∙◌, arith}
use Rattle.std.specs.Prelude.{max, min, slice_get, true}
use Rattle.std.proofs.Math.Nat.{div-mul-le_self}
use Rattle.std.proofs.lemmas.Nat.{le-div}
use Rattle.std.proofs.lemmas.Bool.Decides.{nat_tests}
use Rattle.bh_columns.specs.Filled.{AreFilled, AreFills, Fills, HasRoomsFor, IsJoinedPanel, SamePanel}
use Rattle.bh_columns.specs.Panels.{EachAt, HasMadeRoom, HasRoomFor, IsJoinedLane, SameStanding}
use Rattle.bh_columns.specs.Spans.{Fill, lies}
use Rattle.bh_columns.specs.Tracks.{HasRoom, IsFilled, IsReach, SameColumns}
use Rattle.bh_columns.specs.declared.lane.KeptLane.{KeptLane}
use Rattle.bh_columns.specs.declared.panel.KeptPanel.{KeptPanel}
use Rattle.bh_columns.specs.declared.panel.When.{When}
use Rattle.bh_columns.specs.declared.track.Reach.{Reach}
use Rattle.bh_columns.specs.declared.track.Track.{Track}
use Rattle.bh_columns.proofs.Lanes.{joined_filled, room_filled, same_standing, standing_then}
use Rattle.bh_columns.proofs.Lists.{each_back, each_one, each_same, each_then, each_weaker}
use Rattle.bh_look.proofs.Adding.{set_here}

-- each panel became another, and each of its lanes too
pub filled_each : (old new : List KeptPanel) (w0 w1 : ℕ) (fs gs : Fills) (R : ℕ → ℕ → KeptLane → KeptLane → Type 0)
    → EachAt old new (λ p panel next. EachAt panel.lanes.items next.lanes.items (R p))
    → ((p k : ℕ) (lane next : KeptLane) → R p k lane next → IsFilled lane.track w0 (fs p k) → IsFilled next.track w1 (gs p k))
    → AreFilled old w0 fs → AreFilled new w1 gs
filled_each old new w0 w1 fs gs R each step filled = λ p k panel lane at found.
    let (was, from, lanes) = each_back old new (λ q one next. EachAt one.lanes.items next.lanes.items (R q)) p panel each at in
    let (one, had, holds) = each_back was.lanes.items panel.lanes.items (R p) k lane lanes found in
    step p k one lane holds (filled p k was one from had)

pub same_panel : (x : KeptPanel) → SamePanel x x
same_panel x = record { lanes = each_same x.lanes.items (λ k lane next. SameStanding lane next) (λ k lane. same_standing lane); steps = refl; group = refl; like = refl }

pub panel_then : (x y z : KeptPanel) → SamePanel x y → SamePanel y z → SamePanel x z
panel_then x y z one two = record {
  lanes = each_then x.lanes.items y.lanes.items z.lanes.items (λ k lane next. SameStanding lane next) (λ k lane next. SameStanding lane next) (λ k lane next. SameStanding lane next) (λ k a b c ab bc. standing_then a b c ab bc) one.lanes two.lanes;
  steps = two.steps ∙ one.steps;
  group = two.group ∙ one.group;
  like = two.like ∙ one.like;
}

pub panels_then : (a b c : List KeptPanel) → EachAt a b (λ p panel next. SamePanel panel next) → EachAt b c (λ p panel next. SamePanel panel next) → EachAt a c (λ p panel next. SamePanel panel next)
panels_then a b c one two = each_then a b c (λ p panel next. SamePanel panel next) (λ p panel next. SamePanel panel next) (λ p panel next. SamePanel panel next) (λ p x y z xy yz. panel_then x y z xy yz) one two

-- all columns are joined
pub joined_panel : (x y : KeptPanel) → IsJoinedPanel x y → SamePanel x y
joined_panel x y joined = record {
  lanes = each_weaker x.lanes.items y.lanes.items (λ k lane next. IsJoinedLane lane next) (λ k lane next. SameStanding lane next) (λ k a b ab. ab.standing) joined.lanes;
  steps = joined.steps;
  group = joined.group;
  like = joined.like;
}

pub joined_panels : (old new : List KeptPanel) (w0 w1 : ℕ) (fs : Fills) → w1 ≡ w0 * 10 → AreFills fs → EachAt old new (λ p panel next. IsJoinedPanel panel next) → AreFilled old w0 fs → AreFilled new w1 fs
joined_panels old new w0 w1 fs is fills each filled =
    subst (λ w. AreFilled new w fs) (sym is)
    (filled_each old new w0 (w0 * 10) fs fs (λ p k lane next. IsJoinedLane lane next)
    (each_weaker old new (λ p panel next. IsJoinedPanel panel next) (λ p panel next. EachAt panel.lanes.items next.lanes.items (λ k lane next. IsJoinedLane lane next)) (λ p x y xy. xy.lanes) each)
    (λ p k lane next joined was. joined_filled w0 lane next (fs p k) joined (fills p k) was) filled)

div_up : (a b k : ℕ) → 0 < k → a ≤ b → a / k ≤ b / k
div_up a b k some le = let most = div-mul-le_self a k in le-div (a / k) b k some (omega (arith, most, le))

-- a moment that lies in some is not before the first, and before the last
pub lies_from : (a b m : ℕ) → lies a b m ≡ true → a ≤ m
lies_from a b m is = grind (arith, nat_tests)

pub lies_to : (a b m : ℕ) → lies a b m ≡ true → m < b
lies_to a b m is = grind (arith, nat_tests)

-- room for the moments of a step is room for all that it did
pub room_for : (width : ℕ) (when : When) (r : Reach) (until : ℕ) (t : Track) → r.width ≡ width → until ≡ min (when.moment + 1) when.to → when.since ≤ when.moment
    → (max when.since when.from < until → IsReach r (max when.since when.from) until) → (r.first < r.end → HasRoom t r.first r.end) → HasRoomFor width when t
room_for width when r until t is ends order reach room = record {
  spent = λ q same within.
      let since = max when.since when.from in
      let some : since < until = omega (arith, within.some_time, ends) in
      let mine = reach some in
      let there : HasRoom t r.first r.end = room (some_end mine) in
      let widths : q.width ≡ r.width = same ∙ sym is in
      let first : q.first ≡ r.first = within.first ∙ ap (λ w. since / w) widths ∙ sym mine.first in
      let last : (min when.moment when.to - 1) / r.width ≤ (until - 1) / r.width = div_up (min when.moment when.to - 1) (until - 1) r.width mine.some_width (omega (arith, within.some_time, ends)) in
      let end : q.end ≡ (min when.moment when.to - 1) / r.width + 1 = within.end ∙ ap (λ w. (min when.moment when.to - 1) / w + 1) widths in
      record { begin = omega (arith, there.begin, first); end = omega (arith, there.end, end, last, mine.end) };
  told = λ kept.
      let since = max when.since when.from in
      let from = lies_from when.from when.to when.moment kept in
      let to = lies_to when.from when.to when.moment kept in
      let some : since < until = omega (arith, from, to, ends, order) in
      let mine = reach some in
      let there : HasRoom t r.first r.end = room (some_end mine) in
      let low : since / r.width ≤ when.moment / r.width = div_up since when.moment r.width mine.some_width (omega (arith, from, order)) in
      let high : when.moment / r.width ≤ (until - 1) / r.width = div_up when.moment (until - 1) r.width mine.some_width (omega (arith, to, ends)) in
      let place : when.moment / width ≡ when.moment / r.width = ap (λ w. when.moment / w) (sym is) in
      record { begin = omega (arith, there.begin, mine.first, low, place); end = omega (arith, there.end, mine.end, high, place) };
}
  where
    some_end : IsReach r (max when.since when.from) until → r.first < r.end
    some_end mine =
        let last : max when.since when.from / r.width ≤ (until - 1) / r.width = div_up (max when.since when.from) (until - 1) r.width mine.some_width (omega (arith, mine.some_time)) in
        omega (arith, mine.first, mine.end, last)

-- room was made in a panel
pub made_filled : (old new : List KeptLane) (from to : ℕ) (width : ℕ) (f : ℕ → Fill) → EachAt old new (λ k lane next. HasMadeRoom from to lane next)
    → ((k : ℕ) (lane : KeptLane) → slice_get old k ≡ Some lane → IsFilled lane.track width (f k)) → (k : ℕ) (lane : KeptLane) → slice_get new k ≡ Some lane → IsFilled lane.track width (f k)
made_filled old new from to width f each filled k lane at =
    let (was, had, made) = each_back old new (λ q one next. HasMadeRoom from to one next) k lane each at in
    room_filled was.track lane.track width (f k) made.same (filled k was had)

-- room was made in one panel
pub made_panels : (panels : List KeptPanel) (n from to : ℕ) (was next : KeptPanel) → slice_get panels n ≡ Some was → EachAt was.lanes.items next.lanes.items (λ k lane l. HasMadeRoom from to lane l) → next.steps ≡ was.steps
    → next.group ≡ was.group → next.like ≡ was.like → EachAt panels (set panels n next) (λ p panel x. SamePanel panel x)
made_panels panels n from to was next at each steps group like =
    let same : SamePanel was next = record {
      lanes = each_weaker was.lanes.items next.lanes.items (λ k lane l. HasMadeRoom from to lane l) (λ k lane l. SameStanding lane l) (λ k a b ab. ab.standing) each;
      steps = steps;
      group = group;
      like = like;
    } in
    each_one panels n was next (λ p panel x. SamePanel panel x) at same (λ k x differ. same_panel x)

pub made_all : (panels : List KeptPanel) (n from to width : ℕ) (was next : KeptPanel) (fs : Fills) → slice_get panels n ≡ Some was → EachAt was.lanes.items next.lanes.items (λ k lane l. HasMadeRoom from to lane l)
    → AreFilled panels width fs → AreFilled (set panels n next) width fs
made_all panels n from to width was next fs at each filled =
    let R : ℕ → ℕ → KeptLane → KeptLane → Type 0 = λ p k lane l. SameColumns lane.track l.track in
    let one = each_weaker was.lanes.items next.lanes.items (λ k lane l. HasMadeRoom from to lane l) (R n) (λ k a b ab. ab.same) each in
    let all = each_one panels n was next (λ p panel x. EachAt panel.lanes.items x.lanes.items (R p)) at one (λ p x differ. each_same x.lanes.items (R p) (λ k lane i. refl)) in
    filled_each panels (set panels n next) width width fs fs R all (λ p k lane l same was_filled. room_filled lane.track l.track width (fs p k) same was_filled) filled

pub made_rooms : (panels : List KeptPanel) (n width until : ℕ) (when : When) (r : Reach) (was next own : KeptPanel) → n < length panels → slice_get (set panels n next) n ≡ Some own
    → EachAt was.lanes.items next.lanes.items (λ k lane l. HasMadeRoom r.first r.end lane l) → r.width ≡ width → until ≡ min (when.moment + 1) when.to → when.since ≤ when.moment
    → (max when.since when.from < until → IsReach r (max when.since when.from) until) → HasRoomsFor width when own
made_rooms panels n width until when r was next own inside at each is ends order reach = λ k lane found.
    let here = set_here panels n next inside in
    let both : Some next ≡ Some own = sym here ∙ at in
    let same : own ≡ next = cc in
    let mine : slice_get next.lanes.items k ≡ Some lane = ap (λ (p : KeptPanel). slice_get p.lanes.items k) (sym same) ∙ found in
    let (old, had, made) = each_back was.lanes.items next.lanes.items (λ q one l. HasMadeRoom r.first r.end one l) k lane each mine in
    room_for width when r until lane.track is ends order reach made.room
