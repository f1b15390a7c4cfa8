use Rattle.std.proofs.Common.{ap, subst}
use Rattle.bh_sharing.specs.Client.{ClientView}
use Rattle.bh_sharing.specs.Locked.{IsEntry}
use Rattle.bh_sharing.proofs.Told.{told-entry}
use Rattle.bh_sharing.proofs.client.Client.answer_entry.Goals as goal

pub returns : goal.returns
returns g c =
    let same = ap (λ (v : ClientView). v.names) c.self.view_is in
    let entry = subst (λ (v : ClientView). IsEntry c.args.group c.args.context v.leases c.enter-refused.result c.enter-refused.new.leases) c.self.view_is c.enter-refused.ensures in
    told-entry g.S.Service.facts g.P.Presence.gone c.args.self.now _ c.args.group c.args.context c.enter-refused.result c.args.out.now.items c.put_entry.new.out.items c.put_entry.result same entry c.put_entry.ensures.ok c.put_entry.ensures.err
