use Rattle.std.proofs.Common.{ap}
use Rattle.bh_sharing.specs.Client.{ClientView}
use Rattle.bh_sharing.proofs.Told.{returned-none}
use Rattle.bh_sharing.proofs.client.attend.Goals as goal

pub returns : goal.returns
returns g c = record {
  had = c.converse-outcome.new.desk;
  turns = rw (ap (λ (v : ClientView). v.names) c.client.view_is) at c.converse-outcome.ensures.turns;
  answers = rw (ap (λ (v : ClientView). v.names) c.client.view_is) at c.converse-outcome.ensures.answers;
  returned = returned-none g.S.Service.facts c.converse-outcome.new.desk.leases c.end.new.self.leases c.end.ensures.returned;
}
