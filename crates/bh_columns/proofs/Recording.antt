-- What is kept of all groups with one step more.
use Rattle.std.proofs.Common.{◌≡◌, ◌≢◌, ◌<◌, ◌≤◌, ◌⊎◌, inl, inr, ℕ, Bool, true, false, List, length, set, Some, None, Option, refl, sym, ap, subst, ◌∙◌, arith}
use Rattle.std.specs.Prelude.{◌==◌, slice_get, unwrap_or, if◌then◌else◌}
use Rattle.std.proofs.lemmas.Bool.Decides.{nat_tests}
use Rattle.std.proofs.lemmas.List.{length-set}
use Rattle.std.proofs.lemmas.Option.{slice_get_within}
use Rattle.bh_base.specs.Commands.{is_known}
use Rattle.bh_base.specs.Machine.{circuit_of}
use Rattle.bh_base.specs.Runs.{State, View, begun, is_worn, outcome_in, step, stepped}
use Rattle.bh_base.specs.Seen.{view_after}
use Rattle.bh_base.specs.declared.step.Op.{Op}
use Rattle.bh_base.proofs.Kept.{outcome_keeps}
use Rattle.bh_port.proofs.Keeping.{either}
use Rattle.bh_port.proofs.Lists.{read_within}
use Rattle.bh_look.specs.declared.lane.Lane.{Lane}
use Rattle.bh_look.proofs.Adding.{set_here, set_other}
use Rattle.bh_columns.specs.Columns.{told_of}
use Rattle.bh_columns.specs.Filled.{AreFilled, Fills, HasRoomsFor, SamePanel, Stands, fills_with}
use Rattle.bh_columns.specs.Panels.{EachAt, HasAdded, HasLooked, HasTold, SameStanding}
use Rattle.bh_columns.specs.Placed.{IsStepped}
use Rattle.bh_columns.specs.Steps.{added_fill, filled_with, when_of}
use Rattle.bh_columns.specs.Tracks.{IsFilled}
use Rattle.bh_columns.specs.declared.lane.KeptLane.{KeptLane}
use Rattle.bh_columns.specs.declared.lane.Touched.{Touched}
use Rattle.bh_columns.specs.declared.panel.KeptPanel.{KeptPanel}
use Rattle.bh_columns.specs.declared.panel.When.{When}
use Rattle.bh_columns.proofs.Keeping.{filled_each, panel_then, same_panel}
use Rattle.bh_columns.proofs.Lists.{each_back, each_one, each_same, each_then, each_weaker}

-- the clock of a group goes on
pub latest_rises : (s : State) (o : Op) (now : ℕ) → s.present.latest ≤ (step s o now).state.present.latest
latest_rises s o now = at (is_known o s.present.props) (is_worn s.present)
  where
    at : (known worn : Bool) → s.present.latest ≤ (stepped known worn s (outcome_in s o now)).state.present.latest
    at false worn = omega arith
    at true true = omega arith
    at true false = let e : (outcome_in s o now).present.latest ≡ (begun now s.present).latest = (outcome_keeps o _ (begun now s.present)).latest in omega (arith, e)

pub same_number : (m n : ℕ) → m ≡ n → (m == n) ≡ true
same_number m n is = grind (arith, nat_tests)

pub other_number : (m n : ℕ) → m ≢ n → (m == n) ≡ false
other_number m n differ = grind (arith, nat_tests)

-- the moment of the step before, or that of the first
pub since_is : (b : Bool) (began : Option ℕ) (latest moment : ℕ) → began ≡ (if b then None else Some latest) → unwrap_or began moment ≡ (if b then moment else latest)
since_is true began latest moment is = ap (λ o. unwrap_or o moment) is
since_is false began latest moment is = ap (λ o. unwrap_or o moment) is

-- it is not behind the step's own
pub since_before : (b : Bool) (latest moment : ℕ) → latest ≤ moment → (if b then moment else latest) ≤ moment
since_before true latest moment le = omega arith
since_before false latest moment le = le

-- a panel whose lanes are as they were
pub set_filled : (panels : List KeptPanel) (n width : ℕ) (own next : KeptPanel) (fs : Fills) → slice_get panels n ≡ Some own → next.lanes ≡ own.lanes → AreFilled panels width fs → AreFilled (set panels n next) width fs
set_filled panels n width own next fs at same filled = λ p k panel lane found had. place p k panel lane found had (either p n)
  where
    place : (p k : ℕ) (panel : KeptPanel) (lane : KeptLane) → slice_get (set panels n next) p ≡ Some panel → slice_get panel.lanes.items k ≡ Some lane → (p ≡ n) ⊎ (p ≢ n) → IsFilled lane.track width (fs p k)
    place p k panel lane found had (inl is) =
        let inside : n < length panels = slice_get_within panels n own at in
        let both : Some next ≡ Some panel = sym (set_here panels n next inside) ∙ ap (slice_get (set panels n next)) (sym is) ∙ found in
        let one : panel ≡ next = cc in
        let mine : slice_get own.lanes.items k ≡ Some lane = sym (ap (λ ls. slice_get ls.items k) same) ∙ ap (λ (q : KeptPanel). slice_get q.lanes.items k) (sym one) ∙ had in
        filled p k own lane (ap (slice_get panels) is ∙ at) mine
    place p k panel lane found had (inr differ) = filled p k panel lane (sym (set_other panels n p next differ) ∙ found) had

module _ (panels : List KeptPanel) (n width : ℕ) (own m3 m4 m5 : KeptPanel) (when : When) (v w : View) (t : Touched) (o : Op) (now from to : ℕ) (fs : Fills) where
  abbrev gs : Fills
  gs = fills_with from to n v o now fs

  abbrev Goes : ℕ → ℕ → KeptLane → KeptLane → Type 0
  Goes p k lane next = IsFilled lane.track width (fs p k) → IsFilled next.track width (gs p k)

  module _ (stands : Stands v own) (standing : EachAt own.lanes.items m3.lanes.items (λ k lane next. SameStanding lane next)) (told : HasTold v o now m3.steps.items) (count : length m3.steps.items ≡ length m3.lanes.items)
      (added : EachAt m3.lanes.items m4.lanes.items (λ k lane next. (x : Lane) → slice_get m3.steps.items k ≡ Some x → HasAdded width when (told_of x.tally) (circuit_of k w.present).state lane next))
      (looked : EachAt m4.lanes.items m5.lanes.items (λ k lane next. HasLooked w k t lane next)) (rooms : HasRoomsFor width when m3) (when_is : when ≡ when_of from to v o now) (w_is : w ≡ view_after v o now) where
    -- each lane of the panel has the step
    lanes_go : EachAt m3.lanes.items m5.lanes.items (Goes n)
    lanes_go = record { count = looked.count ∙ added.count; each = one }
      where
        one : (k : ℕ) (lane : KeptLane) → slice_get m3.lanes.items k ≡ Some lane → (z : KeptLane) × (slice_get m5.lanes.items k ≡ Some z) × Goes n k lane z
        one k lane at =
            let a = added.each k lane at in
            let b = looked.each k a.0 a.1 in
            let inside : k < length m3.steps.items = omega (arith, slice_get_within m3.lanes.items k lane at, count) in
            let (x, has) = read_within m3.steps.items k inside in
            let did = a.2 x has in
            let (was, had, same) = each_back own.lanes.items m3.lanes.items (λ k l next. SameStanding l next) k lane standing at in
            let before = same.circuit ∙ stands.circuits k was had in
            let tally = told k x has in
            let path : added_fill when (told_of x.tally) lane.circuit (circuit_of k w.present).state (fs n k) ≡ filled_with from to v o now k (fs n k) =
            λ i. added_fill (when_is i) (told_of (tally i)) (before i) (circuit_of k (w_is i).present).state (fs n k) in
            let whole : filled_with from to v o now k (fs n k) ≡ gs n k = sym (ap (λ b. if b then filled_with from to v o now k (fs n k) else fs n k) (same_number n n refl)) in
            (b.0, b.1, λ filled. subst (λ tr. IsFilled tr width (gs n k)) (sym b.2.track) (subst (λ f. IsFilled a.0.track width f) (path ∙ whole) (did.filled (fs n k) (rooms k lane at) filled)))

    pub recorded : slice_get panels n ≡ Some m3 → AreFilled panels width fs → AreFilled (set (set panels n m4) n m5) width gs
    recorded at filled =
        filled_each panels (set (set panels n m4) n m5) width width fs gs Goes
        (record { count = length-set (set panels n m4) n m5 ∙ length-set panels n m4; each = λ p panel found. each p panel found (either p n) })
        (λ p k lane next goes was. goes was) filled
      where
        inside : n < length panels
        inside = slice_get_within panels n m3 at

        within : n < length (set panels n m4)
        within = let e = length-set panels n m4 in let i = inside in omega (arith, e, i)

        each : (p : ℕ) (panel : KeptPanel) → slice_get panels p ≡ Some panel → (p ≡ n) ⊎ (p ≢ n) → (x : KeptPanel) × (slice_get (set (set panels n m4) n m5) p ≡ Some x) × EachAt panel.lanes.items x.lanes.items (Goes p)
        each p panel found (inl is) =
            let both : Some m3 ≡ Some panel = sym at ∙ ap (slice_get panels) (sym is) ∙ found in
            let one : m3 ≡ panel = cc in (
              m5,
              ap (slice_get (set (set panels n m4) n m5)) is ∙ set_here (set panels n m4) n m5 within,
              subst (λ q. EachAt panel.lanes.items m5.lanes.items (Goes q)) (sym is) (subst (λ (x : KeptPanel). EachAt x.lanes.items m5.lanes.items (Goes n)) one lanes_go),
            )
        each p panel found (inr differ) = (
          panel,
          set_other (set panels n m4) n p m5 differ ∙ set_other panels n p m4 differ ∙ found,
          each_same panel.lanes.items (Goes p) (λ k lane filled. subst (λ f. IsFilled lane.track width f) (sym (ap (λ b. if b then filled_with from to v o now k (fs p k) else fs p k) (other_number p n differ))) filled),
        )

-- ---- whose panel another one is

-- one panel is another, of the same groups
set_stepped : (panels : List KeptPanel) (n : ℕ) (was next : KeptPanel) → slice_get panels n ≡ Some was → next.group ≡ was.group → next.like ≡ was.like → EachAt panels (set panels n next) (λ p a b. IsStepped n p a b)
set_stepped panels n was next at group like =
    each_one panels n was next (λ p a b. IsStepped n p a b) at (record { group = group; like = like; other = λ differ. absurd (differ refl) }) (λ p x differ. record { group = refl; like = refl; other = λ _. same_panel x })

stepped_then : (n : ℕ) (a b c : List KeptPanel) → EachAt a b (λ p x y. IsStepped n p x y) → EachAt b c (λ p x y. IsStepped n p x y) → EachAt a c (λ p x y. IsStepped n p x y)
stepped_then n a b c one two = each_then a b c (λ p x y. IsStepped n p x y) (λ p x y. IsStepped n p x y) (λ p x y. IsStepped n p x y)
    (λ p x y z xy yz. record { group = yz.group ∙ xy.group; like = yz.like ∙ xy.like; other = λ differ. panel_then x y z (xy.other differ) (yz.other differ) }) one two

room_stepped : (n : ℕ) (a b : List KeptPanel) → EachAt a b (λ p x y. SamePanel x y) → EachAt a b (λ p x y. IsStepped n p x y)
room_stepped n a b each = each_weaker a b (λ p x y. SamePanel x y) (λ p x y. IsStepped n p x y) (λ p x y xy. record { group = xy.group; like = xy.like; other = λ _. xy }) each

-- a panel was written twice, then room was made, then it was written twice again
pub all_stepped : (p0 p3 : List KeptPanel) (n : ℕ) (m0 m1 m2 m3 m4 m5 : KeptPanel) → slice_get p0 n ≡ Some m0 → m1.group ≡ m0.group → m1.like ≡ m0.like → m2.group ≡ m1.group → m2.like ≡ m1.like
    → EachAt (set (set p0 n m1) n m2) p3 (λ p x y. SamePanel x y) → slice_get p3 n ≡ Some m3 → m4.group ≡ m3.group → m4.like ≡ m3.like → m5.group ≡ m4.group → m5.like ≡ m4.like
    → EachAt p0 (set (set p3 n m4) n m5) (λ p x y. IsStepped n p x y)
all_stepped p0 p3 n m0 m1 m2 m3 m4 m5 at0 g1 l1 g2 l2 room at3 g4 l4 g5 l5 =
    let p1 = set p0 n m1 in
    let p2 = set p1 n m2 in
    let p4 = set p3 n m4 in
    let at1 : slice_get p1 n ≡ Some m1 = set_here p0 n m1 (slice_get_within p0 n m0 at0) in
    let at4 : slice_get p4 n ≡ Some m4 = set_here p3 n m4 (slice_get_within p3 n m3 at3) in
    stepped_then n p0 p1 (set p4 n m5) (set_stepped p0 n m0 m1 at0 g1 l1)
    (stepped_then n p1 p2 (set p4 n m5) (set_stepped p1 n m1 m2 at1 g2 l2)
    (stepped_then n p2 p3 (set p4 n m5) (room_stepped n p2 p3 room)
    (stepped_then n p3 p4 (set p4 n m5) (set_stepped p3 n m3 m4 at3 g4 l4) (set_stepped p4 n m4 m5 at4 g5 l5))))
