use Rattle.bh_rolling.proofs.Stretches.{same_stretch}
use Rattle.bh_rolling.proofs.stretch.Stretch.later.Goals as goal

pub returns-then-moment-self : goal.returns-then-moment-self
returns-then-moment-self c = same_stretch c.args.window.now c.args.self c.args.moment c.requires.one c.requires.later c.if-moment-self.true
