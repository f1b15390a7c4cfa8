use Rattle.std.specs.Io.{ReadsAtMost}
use Rattle.bh_serve.proofs.connection.look.Given as goal

abbrev pub invariant-loop : goal.invariant-loop
invariant-loop l = record { reads : ReadsAtMost l.outcome l.buf }
