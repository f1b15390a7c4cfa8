-- What is kept of moments side by side, joined, with each step.
use Rattle.std.proofs.Common.{◌≡◌, ℕ, ◌+◌, ◌-◌, ◌<◌, ◌≤◌, inl, inr, Bool, true, false, Some, refl, sym, ap, ◌∙◌, arith}
use Rattle.std.specs.Prelude.{◌&&◌, ◌==◌, not, max, min, if◌then◌else◌}
use Rattle.std.proofs.lemmas.Bool.{cases_lt, le-ltb, lt-ltb}
use Rattle.std.proofs.lemmas.Bool.Decides.{nat_tests}
use Rattle.bh_base.specs.Machine.{circuit_of}
use Rattle.bh_base.specs.Runs.{View}
use Rattle.bh_base.specs.Seen.{view_after}
use Rattle.bh_base.specs.declared.circuit.CircuitState.{CircuitState}
use Rattle.bh_base.specs.declared.circuit.CircuitState.TheVariants as state
use Rattle.bh_base.specs.declared.step.Op.{Op}
use Rattle.bh_look.specs.declared.tally.Tally.{Tally}
use Rattle.bh_look.specs.Steps.{tally_with}
use Rattle.bh_look.specs.Tallies.{added, no_tally, sum_up_to, with_time}
use Rattle.bh_columns.specs.Columns.{closed_with, earlier, greatest, is_no_tally, joined, least, no_column, told_of, with_time_from, with_told_at}
use Rattle.bh_columns.specs.Laws.{FillsStayFills}
use Rattle.bh_columns.specs.Spans.{Fill, IsFill, lies, with_time_within, with_told_within}
use Rattle.bh_columns.specs.Steps.{added_fill, closes, filled_with, when_of}
use Rattle.bh_columns.specs.declared.panel.When.{When}
use Rattle.bh_columns.specs.declared.column.Column.{Column}
use Rattle.bh_columns.specs.declared.column.Standing.{Standing}
use Rattle.bh_columns.proofs.Sums.{added_left, added_right, earlier_both, earlier_in, earlier_left, earlier_right, greatest_left, greatest_right, least_left, least_right, sum_both, sum_left, sum_right}

-- a column with some milliseconds from the moment on
abbrev pub stayed : ℕ → ℕ → CircuitState → Column → Column
stayed since ms st c = record c {
  tally = with_time st ms c.tally;
  closed_ms = closed_with st ms c.closed_ms;
  began = earlier c.began (Some (record { moment = since; circuit = st }));
}

pub time_some : (since until : ℕ) (st : CircuitState) (c : Column) → since < until → with_time_from since until st c ≡ stayed since (until - since) st c
time_some since until st c h = ap (λ t. if t then stayed since (until - since) st c else c) (lt-ltb since until h)

pub time_none : (since until : ℕ) (st : CircuitState) (c : Column) → until ≤ since → with_time_from since until st c ≡ c
time_none since until st c h = ap (λ t. if t then stayed since (until - since) st c else c) (le-ltb since until h)

-- time in a state adds up
time_left : (st : CircuitState) (x : ℕ) (t u : Tally) → added (with_time st x t) u ≡ with_time st x (added t u)
time_left state.Closed x t u = refl
time_left (state.Open m) x t u = λ i. record (added t u) { open_ms = sum_left t.open_ms u.open_ms x i }
time_left (state.HalfOpen m n) x t u = λ i. record (added t u) { half_open_ms = sum_left t.half_open_ms u.half_open_ms x i }

time_right : (st : CircuitState) (x : ℕ) (t u : Tally) → added t (with_time st x u) ≡ with_time st x (added t u)
time_right state.Closed x t u = refl
time_right (state.Open m) x t u = λ i. record (added t u) { open_ms = sum_right t.open_ms u.open_ms x i }
time_right (state.HalfOpen m n) x t u = λ i. record (added t u) { half_open_ms = sum_right t.half_open_ms u.half_open_ms x i }

time_both : (st : CircuitState) (x y z : ℕ) (t u : Tally) → x + y ≡ z → added (with_time st x t) (with_time st y u) ≡ with_time st z (added t u)
time_both state.Closed x y z t u is = refl
time_both (state.Open m) x y z t u is = λ i. record (added t u) { open_ms = sum_both t.open_ms u.open_ms x y z is i }
time_both (state.HalfOpen m n) x y z t u is = λ i. record (added t u) { half_open_ms = sum_both t.half_open_ms u.half_open_ms x y z is i }

closed_left : (st : CircuitState) (x a b : ℕ) → sum_up_to (closed_with st x a) b ≡ closed_with st x (sum_up_to a b)
closed_left state.Closed x a b = sum_left a b x
closed_left (state.Open m) x a b = refl
closed_left (state.HalfOpen m n) x a b = refl

closed_right : (st : CircuitState) (x a b : ℕ) → sum_up_to a (closed_with st x b) ≡ closed_with st x (sum_up_to a b)
closed_right state.Closed x a b = sum_right a b x
closed_right (state.Open m) x a b = refl
closed_right (state.HalfOpen m n) x a b = refl

closed_both : (st : CircuitState) (x y z a b : ℕ) → x + y ≡ z → sum_up_to (closed_with st x a) (closed_with st y b) ≡ closed_with st z (sum_up_to a b)
closed_both state.Closed x y z a b is = sum_both a b x y z is
closed_both (state.Open m) x y z a b is = refl
closed_both (state.HalfOpen m n) x y z a b is = refl

module _ (a b c : ℕ) (x y : Column) (ab : a ≤ b) (bc : b ≤ c) (late : (s : Standing) → y.began ≡ Some s → b ≤ s.moment) where
  -- time that is shared out to two columns side by side is that of both
  pub times_join : (since until : ℕ) (st : CircuitState) → joined (with_time_within a b since until st x) (with_time_within b c since until st y) ≡ with_time_within a c since until st (joined x y)
  times_join since until st = elim (cases_lt (max since a) (min until b)) [
    | inl first ↦ elim (cases_lt (max since b) (min until c)) [
      | inl second ↦ (
          let e1 = time_some (max since a) (min until b) st x first in
          let e2 = time_some (max since b) (min until c) st y second in
          let e3 = time_some (max since a) (min until c) st (joined x y) (omega (arith, first, second, ab, bc)) in
          let begin : Standing = record { moment = max since a; circuit = st } in
          let again : Standing = record { moment = max since b; circuit = st } in
          let ms : (min until b - max since a) + (min until c - max since b) ≡ min until c - max since a = omega (arith, first, second, ab, bc) in
          (λ i. joined (e1 i) (e2 i)) ∙ (λ i. record (joined x y) {
            tally = time_both st (min until b - max since a) (min until c - max since b) (min until c - max since a) x.tally y.tally ms i;
            closed_ms = closed_both st (min until b - max since a) (min until c - max since b) (min until c - max since a) x.closed_ms y.closed_ms ms i;
            began = earlier_both x.began y.began begin again b (omega (arith, first)) (omega arith) late i;
          }) ∙ sym e3)
      | inr none ↦ (
          let e1 = time_some (max since a) (min until b) st x first in
          let e2 = time_none (max since b) (min until c) st y none in
          let same : min until c ≡ min until b = omega (arith, first, none, ab, bc) in
          let e3 = time_some (max since a) (min until c) st (joined x y) (omega (arith, first, same)) in
          let begin : Standing = record { moment = max since a; circuit = st } in
          (λ i. joined (e1 i) (e2 i)) ∙ (λ i. record (joined x y) {
            tally = (time_left st (min until b - max since a) x.tally y.tally ∙ ap (λ n. with_time st (n - max since a) (added x.tally y.tally)) (sym same)) i;
            closed_ms = (closed_left st (min until b - max since a) x.closed_ms y.closed_ms ∙ ap (λ n. closed_with st (n - max since a) (sum_up_to x.closed_ms y.closed_ms)) (sym same)) i;
            began = earlier_left x.began y.began begin b (omega (arith, first)) late i;
          }) ∙ sym e3)
    ]
    | inr none ↦ elim (cases_lt (max since b) (min until c)) [
      | inl second ↦ (
          let e1 = time_none (max since a) (min until b) st x none in
          let e2 = time_some (max since b) (min until c) st y second in
          let same : max since a ≡ max since b = omega (arith, none, second, ab, bc) in
          let e3 = time_some (max since a) (min until c) st (joined x y) (omega (arith, second, same)) in
          let begin : Standing = record { moment = max since b; circuit = st } in
          (λ i. joined (e1 i) (e2 i)) ∙ (λ i. record (joined x y) {
            tally = time_right st (min until c - max since b) x.tally y.tally i;
            closed_ms = closed_right st (min until c - max since b) x.closed_ms y.closed_ms i;
            began = earlier_right x.began y.began (Some begin) i;
          }) ∙ ap (λ n. stayed n (min until c - n) st (joined x y)) (sym same) ∙ sym e3)
      | inr nothing ↦ (
          let e1 = time_none (max since a) (min until b) st x none in
          let e2 = time_none (max since b) (min until c) st y nothing in
          let e3 = time_none (max since a) (min until c) st (joined x y) (omega (arith, none, nothing, ab, bc)) in
          (λ i. joined (e1 i) (e2 i)) ∙ sym e3)
    ]
  ]

-- what a step told, in one of two columns, is told in both
told_left : (moment : ℕ) (told : Tally) (closed : Bool) (x y : Column) → joined (with_told_at moment told closed x) y ≡ with_told_at moment told closed (joined x y)
told_left moment told closed x y = at (is_no_tally told && not closed)
  where
    trip : (t : Bool) → least (if t then x.first_trip else least x.first_trip (Some moment)) y.first_trip ≡ (if t then least x.first_trip y.first_trip else least (least x.first_trip y.first_trip) (Some moment))
    trip true = refl
    trip false = least_left x.first_trip y.first_trip (Some moment)

    last : (t : Bool) → greatest (if t then x.last_trip else greatest x.last_trip (Some moment)) y.last_trip ≡ (if t then greatest x.last_trip y.last_trip else greatest (greatest x.last_trip y.last_trip) (Some moment))
    last true = refl
    last false = greatest_left x.last_trip y.last_trip (Some moment)

    close : (t : Bool) → greatest (if t then greatest x.last_close (Some moment) else x.last_close) y.last_close ≡ (if t then greatest (greatest x.last_close y.last_close) (Some moment) else greatest x.last_close y.last_close)
    close true = greatest_left x.last_close y.last_close (Some moment)
    close false = refl

    at : (t : Bool) → joined (if t then x else record x { tally = added x.tally told; first_trip = (if told.trips == 0 then x.first_trip else least x.first_trip (Some moment)); last_trip = (if told.trips == 0 then x.last_trip else greatest x.last_trip (Some moment)); last_close = (if closed then greatest x.last_close (Some moment) else x.last_close) }) y
        ≡ (if t then joined x y else record (joined x y) { tally = added (added x.tally y.tally) told; first_trip = (if told.trips == 0 then least x.first_trip y.first_trip else least (least x.first_trip y.first_trip) (Some moment)); last_trip = (if told.trips == 0 then greatest x.last_trip y.last_trip else greatest (greatest x.last_trip y.last_trip) (Some moment)); last_close = (if closed then greatest (greatest x.last_close y.last_close) (Some moment) else greatest x.last_close y.last_close) })
    at true = refl
    at false = λ i. record (joined x y) { tally = added_left x.tally y.tally told i; first_trip = trip (told.trips == 0) i; last_trip = last (told.trips == 0) i; last_close = close closed i }

told_right : (moment : ℕ) (told : Tally) (closed : Bool) (x y : Column) → joined x (with_told_at moment told closed y) ≡ with_told_at moment told closed (joined x y)
told_right moment told closed x y = at (is_no_tally told && not closed)
  where
    trip : (t : Bool) → least x.first_trip (if t then y.first_trip else least y.first_trip (Some moment)) ≡ (if t then least x.first_trip y.first_trip else least (least x.first_trip y.first_trip) (Some moment))
    trip true = refl
    trip false = least_right x.first_trip y.first_trip (Some moment)

    last : (t : Bool) → greatest x.last_trip (if t then y.last_trip else greatest y.last_trip (Some moment)) ≡ (if t then greatest x.last_trip y.last_trip else greatest (greatest x.last_trip y.last_trip) (Some moment))
    last true = refl
    last false = greatest_right x.last_trip y.last_trip (Some moment)

    close : (t : Bool) → greatest x.last_close (if t then greatest y.last_close (Some moment) else y.last_close) ≡ (if t then greatest (greatest x.last_close y.last_close) (Some moment) else greatest x.last_close y.last_close)
    close true = greatest_right x.last_close y.last_close (Some moment)
    close false = refl

    at : (t : Bool) → joined x (if t then y else record y { tally = added y.tally told; first_trip = (if told.trips == 0 then y.first_trip else least y.first_trip (Some moment)); last_trip = (if told.trips == 0 then y.last_trip else greatest y.last_trip (Some moment)); last_close = (if closed then greatest y.last_close (Some moment) else y.last_close) })
        ≡ (if t then joined x y else record (joined x y) { tally = added (added x.tally y.tally) told; first_trip = (if told.trips == 0 then least x.first_trip y.first_trip else least (least x.first_trip y.first_trip) (Some moment)); last_trip = (if told.trips == 0 then greatest x.last_trip y.last_trip else greatest (greatest x.last_trip y.last_trip) (Some moment)); last_close = (if closed then greatest (greatest x.last_close y.last_close) (Some moment) else greatest x.last_close y.last_close) })
    at true = refl
    at false = λ i. record (joined x y) { tally = added_right x.tally y.tally told i; first_trip = trip (told.trips == 0) i; last_trip = last (told.trips == 0) i; last_close = close closed i }

-- whether a moment lies in some, by where it is
lies_in : (a b m : ℕ) → a ≤ m → m < b → lies a b m ≡ true
lies_in a b m le lt = grind (arith, nat_tests)

lies_before : (a b m : ℕ) → m < a → lies a b m ≡ false
lies_before a b m lt = grind (arith, nat_tests)

lies_behind : (a b m : ℕ) → b ≤ m → lies a b m ≡ false
lies_behind a b m le = grind (arith, nat_tests)

module _ (moment : ℕ) (told : Tally) (closed : Bool) where
  pub told_here : (a b : ℕ) (c : Column) → a ≤ moment → moment < b → with_told_within a b moment told closed c ≡ with_told_at moment told closed c
  told_here a b c le lt = ap (λ t. if t then with_told_at moment told closed c else c) (lies_in a b moment le lt)

  pub told_before : (a b : ℕ) (c : Column) → moment < a → with_told_within a b moment told closed c ≡ c
  told_before a b c lt = ap (λ t. if t then with_told_at moment told closed c else c) (lies_before a b moment lt)

  pub told_behind : (a b : ℕ) (c : Column) → b ≤ moment → with_told_within a b moment told closed c ≡ c
  told_behind a b c le = ap (λ t. if t then with_told_at moment told closed c else c) (lies_behind a b moment le)

  -- what a step told belongs to one of two columns side by side
  tolds_join : (a b c : ℕ) (x y : Column) → a ≤ b → b ≤ c → joined (with_told_within a b moment told closed x) (with_told_within b c moment told closed y) ≡ with_told_within a c moment told closed (joined x y)
  tolds_join a b c x y ab bc = elim (cases_lt moment a) [
    | inl before ↦ (λ i. joined (told_before a b x before i) (told_before b c y (omega (arith, before, ab)) i)) ∙ sym (told_before a c (joined x y) before)
    | inr from ↦ elim (cases_lt moment b) [
      | inl first ↦ (λ i. joined (told_here a b x from first i) (told_before b c y first i)) ∙ told_left moment told closed x y ∙ sym (told_here a c (joined x y) from (omega (arith, first, bc)))
      | inr past ↦ elim (cases_lt moment c) [
        | inl second ↦ (λ i. joined (told_behind a b x past i) (told_here b c y past second i)) ∙ told_right moment told closed x y ∙ sym (told_here a c (joined x y) from second)
        | inr behind ↦ (λ i. joined (told_behind a b x past i) (told_behind b c y behind i)) ∙ sym (told_behind a c (joined x y) behind)
      ]
    ]
  ]

  -- it says nothing of how a column began
  told_begins : (a b : ℕ) (c : Column) → (with_told_within a b moment told closed c).began ≡ c.began
  told_begins a b c = at (lies a b moment) (is_no_tally told && not closed)
    where
      at : (t u : Bool) → (if t then (if u then c else record c { tally = added c.tally told; first_trip = (if told.trips == 0 then c.first_trip else least c.first_trip (Some moment)); last_trip = (if told.trips == 0 then c.last_trip else greatest c.last_trip (Some moment)); last_close = (if closed then greatest c.last_close (Some moment) else c.last_close) }) else c).began ≡ c.began
      at false u = refl
      at true true = refl
      at true false = refl

  pub fill_told : (f : Fill) → IsFill f → IsFill (λ a b. with_told_within a b moment told closed (f a b))
  fill_told f fill = record {
    joins = λ a b c ab bc. ap (with_told_within a c moment told closed) (fill.joins a b c ab bc) ∙ sym (tolds_join a b c (f a b) (f b c) ab bc);
    begins = λ a b s is. fill.begins a b s (sym (told_begins a b (f a b)) ∙ is);
    none = λ a. elim (cases_lt moment a) [ inl before ↦ told_before a a (f a a) before ∙ fill.none a | inr past ↦ told_behind a a (f a a) past ∙ fill.none a ];
  }

module _ (since until : ℕ) (st : CircuitState) where
  pub fill_time : (f : Fill) → IsFill f → IsFill (λ a b. with_time_within a b since until st (f a b))
  fill_time f fill = record {
    joins = λ a b c ab bc. ap (with_time_within a c since until st) (fill.joins a b c ab bc) ∙ sym (times_join a b c (f a b) (f b c) ab bc (λ s is. (fill.begins b c s is).0) since until st);
    begins = λ a b s is. elim (cases_lt (max since a) (min until b)) [
      | inl some ↦ (
          let own : Standing = record { moment = max since a; circuit = st } in
          let found : earlier (f a b).began (Some own) ≡ Some s = sym (ap (λ (c : Column). c.began) (time_some (max since a) (min until b) st (f a b) some)) ∙ is in
          elim (earlier_in (f a b).began (Some own) s found) [
            | inl was ↦ fill.begins a b s was
            | inr new ↦ (
                let same : own ≡ s = cc in
                let at : max since a ≡ s.moment = ap (λ (x : Standing). x.moment) same in
                (omega (arith, at), omega (arith, at, some)))
          ])
      | inr none ↦ fill.begins a b s (sym (ap (λ (c : Column). c.began) (time_none (max since a) (min until b) st (f a b) none)) ∙ is)
    ];
    none = λ a. time_none (max since a) (min until a) st (f a a) (omega arith) ∙ fill.none a;
  }

-- one of two, by whatever test
fill_if : (t : Bool) (f g : Fill) → IsFill f → IsFill g → IsFill (λ a b. if t then f a b else g a b)
fill_if true f g one other = one
fill_if false f g one other = other

fill_none : IsFill (λ a b. no_column)
fill_none = record { joins = λ a b c ab bc. refl; begins = λ a b s is. absurd (cc); none = λ a. refl }

-- a step, whatever it is
pub fill_added : (when : When) (told : Tally) (before after : CircuitState) (f : Fill) → IsFill f → IsFill (added_fill when told before after f)
fill_added when told before after f fill =
    let since = max when.since when.from in
    let until = min when.moment when.to in
    let spent : Fill = λ a b. with_time_within a b since until before (f a b) in
    let is_spent : IsFill spent = fill_time since until before f fill in
    fill_if (lies when.from when.to when.moment) (λ a b. with_told_within a b when.moment told (closes before after) (spent a b)) spent (fill_told when.moment told (closes before after) spent is_spent) is_spent

filled_step : (f : Fill) (from to : ℕ) (v : View) (o : Op) (now command : ℕ) → IsFill f → IsFill (filled_with from to v o now command f)
filled_step f from to v o now command fill =
    fill_added (when_of from to v o now) (told_of (tally_with v o now command no_tally)) (circuit_of command v.present).state (circuit_of command (view_after v o now).present).state f fill

pub fills_stay_fills : FillsStayFills
fills_stay_fills = record { none = fill_none; step = filled_step }
