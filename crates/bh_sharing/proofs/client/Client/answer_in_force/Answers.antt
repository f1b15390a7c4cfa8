use Rattle.bh_sharing.proofs.Told.{told-in-force}
use Rattle.bh_sharing.proofs.client.Client.answer_in_force.Goals as goal

pub returns : goal.returns
returns g c =
    told-in-force g.S.Service.facts g.P.Presence.gone c.args.self.now c.args.group c.args.command c.in_force-found.result c.args.out.now.items c.put_in_force.new.out.items c.put_in_force.result
    c.in_force-found.ensures c.put_in_force.ensures.ok c.put_in_force.ensures.err
