use Rattle.bh_columns.proofs.grid.Grid.takes.Goals as goal

pub returns-clause-within : goal.returns-clause-within
returns-clause-within c = λ f within. c.take_in.ensures.within f within

pub returns-clause-taken : goal.returns-clause-taken
returns-clause-taken c = λ _ le. c.take_in.ensures.taken le
