use Rattle.std.proofs.Common.{arith, ◌∙◌, sym}
use Rattle.bh_columns.proofs.Tracking.{told_set}
use Rattle.bh_columns.proofs.track.Track.note_at.Goals as goal

pub returns-in-Some-clause-columns : goal.returns-in-Some-clause-columns
returns-in-Some-clause-columns c = λ room.
    told_set c.args.self.now c.args.index c.in-Some.place c.args.moment c.args.told.now c.args.closes c.index_mut.result.now c.note.new.self room (omega (arith, c.ranges.index.fits)) (sym c.place.ensures ∙ c.in-Some.is) c.index_mut.ensures.value c.note.ensures
