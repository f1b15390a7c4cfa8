use Rattle.std.proofs.Common.{◌≡◌, ◌≤◌, length, take, vec_capacity}
use Rattle.bh_core.specs.Acts.{AreActs}
use Rattle.bh_core.specs.Lives.{calls_of}
use Rattle.bh_core.proofs.service.Core.run_acts.Given as goal

-- the acts so far took the groups to where they are
abbrev pub invariant-loop-act : goal.invariant-loop-act
invariant-loop-act l = record {
  count : length l.outcomes.items ≡ l.act-index;
  room : length l.acts ≤ vec_capacity l.outcomes;
  acts : AreActs l.props l.fn.self (calls_of (take l.act-index l.acts) l.outcomes.items) l.self;
}
