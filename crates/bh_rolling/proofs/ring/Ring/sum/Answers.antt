use Rattle.std.proofs.Common.{◌∙◌, ap}
use Rattle.bh_base.specs.declared.event.Counts.{Counts}
use Rattle.bh_base.specs.History.{count_in}
use Rattle.bh_base.proofs.Windows.{count_in-counts_by}
use Rattle.bh_rolling.specs.RingView.{ring_count}
use Rattle.bh_rolling.proofs.Tells.{tells_count}
use Rattle.bh_rolling.proofs.ring.Ring.sum.Goals as goal

pub returns-clause-count : goal.returns-clause-count
returns-clause-count c =
    c.count_in.ensures
    ∙ ap (λ (n : Counts). count_in n c.args.kind) c.counts.ensures.counts
    ∙ count_in-counts_by (ring_count c.args.self.now c.args.now) c.args.kind

pub returns-clause-events : goal.returns-clause-events
returns-clause-events c = λ events is. returns-clause-count c ∙ tells_count c.args.self.now events c.args.now c.args.kind c.requires is
