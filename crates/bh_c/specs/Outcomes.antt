-- The numbers of what calls come to.
use Rattle.std.specs.Prelude.{ℕ}
use Rattle.bh_c.specs.declared.outcome.Outcome.{Outcome}
use Rattle.bh_c.specs.declared.outcome.Outcome.TheVariants as outcomes

-- the number that C sees
abbrev pub code_of : Outcome → ℕ
code_of outcomes.Done = 0
code_of outcomes.Refused = 1
code_of outcomes.NoMemory = 2
code_of outcomes.NoRoom = 3
code_of outcomes.BadLine = 4
code_of outcomes.NoSuchGroup = 5
code_of outcomes.NotText = 6
code_of outcomes.TooLong = 7
code_of outcomes.NoSuchOperation = 8
code_of outcomes.NoSuchCommand = 9
code_of outcomes.NotOpen = 10
code_of outcomes.NoSuchProperty = 11
code_of outcomes.OutOfRange = 12
