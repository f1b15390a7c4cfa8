use Rattle.std.proofs.Common.{◌+◌, ◌*◌, ◌^◌, inl, inr, sym, ◌∙◌, arith}
use Rattle.std.proofs.lemmas.Bool.{cases_lt}
use Rattle.bh_columns.specs.Tracks.{column_at}
use Rattle.bh_columns.proofs.Joining.{run_none}
use Rattle.bh_columns.proofs.Tracking.{none_beyond}
use Rattle.bh_columns.proofs.track.Track.joined.Goals as goal

pub returns-in-None : goal.returns-in-None
returns-in-None c = elim (cases_lt (c.args.index * c.args.many) (2 ^ 64)) [
  | inl small ↦ absurd (c.in-None.ensures small)
  | inr beyond ↦ c.new.ensures ∙ sym (run_none (column_at c.args.self.now) (c.args.index * c.args.many) c.args.many (λ k below. none_beyond c.args.self.now.first c.args.self.now.columns.items (c.args.index * c.args.many + k) (omega (arith, beyond))))
]
