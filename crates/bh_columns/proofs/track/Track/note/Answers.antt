use Rattle.bh_columns.proofs.Tracking.{told_columns}
use Rattle.bh_columns.proofs.track.Track.note.Goals as goal

pub returns-clause-columns : goal.returns-clause-columns
returns-clause-columns c = λ width some is room i. told_columns c.args.self.now c.note_at.new.self width c.args.index c.args.moment c.args.told.now c.args.closes some is (c.note_at.ensures.columns room) i
