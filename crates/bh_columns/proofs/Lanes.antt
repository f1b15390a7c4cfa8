-- What is kept of a lane with one step more, all but the usage.
use Rattle.std.proofs.Common.{◌≡◌, ◌+◌, ◌*◌, ◌/◌, ◌-◌, ◌<◌, ◌≤◌, Bool, true, false, ℕ, Some, refl, sym, ap, subst, ◌∙◌, arith}
use Rattle.std.specs.Prelude.{◌&&◌, ◌==◌, max, min, not, nat_lt, if◌then◌else◌}
use Rattle.std.proofs.Math.Nat.{mul_comm}
use Rattle.bh_base.specs.declared.circuit.CircuitState.{CircuitState}
use Rattle.bh_look.specs.declared.tally.Tally.{Tally}
use Rattle.bh_look.specs.Tallies.{added}
use Rattle.bh_columns.specs.Columns.{bare, greatest, is_no_tally, least, usage_added, usage_of, with_stay, with_time_from}
use Rattle.bh_columns.specs.Panels.{HasAdded, HasAddedTime, HasAddedTold, HasNotedAt, HasRoomFor, HasSpent, IsJoinedLane, SameStanding, lane_stay}
use Rattle.bh_columns.specs.Spans.{Fill, IsFill, lies, stay_within, with_time_within, with_told_within}
use Rattle.bh_columns.specs.Steps.{closes, time_fill, told_fill}
use Rattle.bh_columns.specs.Tracks.{HasRoom, IsFilled, IsReach, SameColumns, column_at}
use Rattle.bh_columns.specs.declared.column.Column.{Column}
use Rattle.bh_columns.specs.declared.lane.KeptLane.{KeptLane}
use Rattle.bh_columns.specs.declared.panel.When.{When}
use Rattle.bh_columns.specs.declared.stay.Stay.{Stay}
use Rattle.bh_columns.specs.declared.track.Reach.{Reach}
use Rattle.bh_columns.specs.declared.track.Track.{Track}
use Rattle.bh_columns.proofs.Filling.{stayed, time_none}
use Rattle.bh_columns.proofs.Joining.{joined_are_wider, run_bare, run_same}

-- a stay adds its time to all but the usage
bare_time : (t : Bool) (since ms : ℕ) (st : CircuitState) (c : Column) → bare (if t then stayed since ms st c else c) ≡ (if t then stayed since ms st (bare c) else bare c)
bare_time true since ms st c = refl
bare_time false since ms st c = refl

bare_usage : (t : Bool) (s : Stay) (c : Column) → bare (if t then record c { usage = usage_added c.usage (usage_of s) } else c) ≡ bare c
bare_usage true s c = refl
bare_usage false s c = refl

pub bare_stay : (a b : ℕ) (s : Stay) (c : Column) → bare (with_stay (stay_within a b s) c) ≡ with_time_within a b s.since s.until s.circuit (bare c)
bare_stay a b s c =
    let since = max s.since a in
    let until = min s.until b in
    bare_usage (nat_lt since until) (stay_within a b s) (with_time_from since until s.circuit c) ∙ bare_time (nat_lt since until) since (until - since) s.circuit c

bare_told : (t u : Bool) (moment : ℕ) (told : Tally) (closed : Bool) (c : Column)
    → bare (if t then (if u then c else record c { tally = added c.tally told; first_trip = (if told.trips == 0 then c.first_trip else least c.first_trip (Some moment)); last_trip = (if told.trips == 0 then c.last_trip else greatest c.last_trip (Some moment)); last_close = (if closed then greatest c.last_close (Some moment) else c.last_close) }) else c)
    ≡ (if t then (if u then bare c else record (bare c) { tally = added c.tally told; first_trip = (if told.trips == 0 then c.first_trip else least c.first_trip (Some moment)); last_trip = (if told.trips == 0 then c.last_trip else greatest c.last_trip (Some moment)); last_close = (if closed then greatest c.last_close (Some moment) else c.last_close) }) else bare c)
bare_told false u moment told closed c = refl
bare_told true true moment told closed c = refl
bare_told true false moment told closed c = refl

pub bare_within : (a b moment : ℕ) (told : Tally) (closed : Bool) (c : Column) → bare (with_told_within a b moment told closed c) ≡ with_told_within a b moment told closed (bare c)
bare_within a b moment told closed c = bare_told (lies a b moment) (is_no_tally told && not closed) moment told closed c

-- room, and nothing else
pub room_filled : (old new : Track) (width : ℕ) (f : Fill) → SameColumns old new → IsFilled old width f → IsFilled new width f
room_filled old new width f same filled = λ i. ap bare (same i) ∙ filled i

-- the time between two steps
pub spent_filled : (r : Reach) (since until : ℕ) (old new : KeptLane) (f : Fill) → HasSpent r since until old new → IsReach r since until → HasRoom old.track r.first r.end → IsFilled old.track r.width f
    → IsFilled new.track r.width (λ a b. with_time_within a b since until old.circuit (f a b))
spent_filled r since until old new f spent reach room filled = λ i.
    ap bare (spent.columns reach room i)
    ∙ bare_stay (i * r.width) (i * r.width + r.width) (lane_stay since until old) (column_at old.track i)
    ∙ ap (with_time_within (i * r.width) (i * r.width + r.width) since until old.circuit) (filled i)

-- what the step told
pub noted_filled : (width place moment : ℕ) (told : Tally) (closed : Bool) (old new : KeptLane) (f : Fill) → HasNotedAt place moment told closed old new → 0 < width → place ≡ moment / width → HasRoom old.track place (place + 1) → IsFilled old.track width f
    → IsFilled new.track width (λ a b. with_told_within a b moment told closed (f a b))
noted_filled width place moment told closed old new f noted some is room filled = λ i.
    ap bare (noted.columns width some is room i)
    ∙ bare_within (i * width) (i * width + width) moment told closed (column_at old.track i)
    ∙ ap (with_told_within (i * width) (i * width + width) moment told closed) (filled i)

-- columns that are joined
pub joined_filled : (width : ℕ) (old new : KeptLane) (f : Fill) → IsJoinedLane old new → IsFill f → IsFilled old.track width f → IsFilled new.track (width * 10) f
joined_filled width old new f joined fill filled = λ i.
    let at : ℕ → Column = λ k. bare (column_at old.track k) in
    let fills : ℕ → Column = λ k. f (k * width) (k * width + width) in
    let wide : 10 * width ≡ width * 10 = mul_comm 10 width in
    ap bare (joined.columns i)
    ∙ run_bare (column_at old.track) (i * 10) 10
    ∙ run_same at fills (i * 10) 10 (λ k below. filled (i * 10 + k))
    ∙ joined_are_wider f width 10 i fill
    ∙ (λ j. f (i * wide j) (i * wide j + wide j))

-- a lane stays as it is
pub same_standing : (x : KeptLane) → SameStanding x x
same_standing x = record { pooled = refl; circuit = refl; busy = refl; queued = refl }

pub standing_then : (x y z : KeptLane) → SameStanding x y → SameStanding y z → SameStanding x z
standing_then x y z one two = record { pooled = two.pooled ∙ one.pooled; circuit = two.circuit ∙ one.circuit; busy = two.busy ∙ one.busy; queued = two.queued ∙ one.queued }

-- the time that passed before a step
pub time_added : (width : ℕ) (when : When) (r : Reach) (old new : KeptLane) → r.width ≡ width → IsReach r (max when.since when.from) (min when.moment when.to) → HasSpent r (max when.since when.from) (min when.moment when.to) old new
    → HasAddedTime width when old new
time_added width when r old new is reach spent = record {
  standing = spent.standing;
  room = spent.room;
  filled = λ f rooms filled.
      subst (λ w. IsFilled new.track w (time_fill when old.circuit f)) is
      (spent_filled r (max when.since when.from) (min when.moment when.to) old new f spent reach (rooms.spent r is reach) (subst (λ w. IsFilled old.track w f) (sym is) filled));
}

pub time_nothing : (width : ℕ) (when : When) (x : KeptLane) → min when.moment when.to ≤ max when.since when.from → HasAddedTime width when x x
time_nothing width when x none = record {
  standing = same_standing x;
  room = λ from to room. room;
  filled = λ f rooms filled i.
      filled i
      ∙ sym (time_none (max (max when.since when.from) (i * width)) (min (min when.moment when.to) (i * width + width)) x.circuit (f (i * width) (i * width + width)) (omega (arith, none)));
}

-- what a step told
pub told_added : (width : ℕ) (when : When) (told : Tally) (after : CircuitState) (old new : KeptLane) → 0 < width → lies when.from when.to when.moment ≡ true
    → HasNotedAt (when.moment / width) when.moment told (closes old.circuit after) old new → HasAddedTold width when told after old new
told_added width when told after old new some kept noted = record {
  standing = noted.standing;
  filled = λ f rooms filled i.
      noted_filled width (when.moment / width) when.moment told (closes old.circuit after) old new f noted some refl (rooms.told kept) filled i
      ∙ sym (ap (λ t. if t then with_told_within (i * width) (i * width + width) when.moment told (closes old.circuit after) (f (i * width) (i * width + width)) else f (i * width) (i * width + width)) kept);
}

pub told_nothing : (width : ℕ) (when : When) (told : Tally) (after : CircuitState) (x : KeptLane) → lies when.from when.to when.moment ≡ false → HasAddedTold width when told after x x
told_nothing width when told after x left_out = record {
  standing = same_standing x;
  filled = λ f rooms filled i.
      filled i
      ∙ sym (ap (λ t. if t then with_told_within (i * width) (i * width + width) when.moment told (closes x.circuit after) (f (i * width) (i * width + width)) else f (i * width) (i * width + width)) left_out);
}

-- both
pub both_added : (width : ℕ) (when : When) (told : Tally) (after : CircuitState) (old mid new : KeptLane) → HasAddedTime width when old mid → HasAddedTold width when told after mid new → HasAdded width when told after old new
both_added width when told after old mid new time more = record {
  standing = standing_then old mid new time.standing more.standing;
  filled = λ f rooms filled.
      let there : HasRoomFor width when mid.track = record {
        spent = λ r is reach. time.room r.first r.end (rooms.spent r is reach);
        told = λ kept. time.room (when.moment / width) (when.moment / width + 1) (rooms.told kept);
      } in
      subst (λ st. IsFilled new.track width (told_fill when told (closes st after) (time_fill when old.circuit f))) time.standing.circuit
      (more.filled (time_fill when old.circuit f) there (time.filled f rooms filled));
}
