use Rattle.std.proofs.Common.{◌≡◌, None, Some, Ok, Err, refl, sym}
use Rattle.bh_lease.specs.Leases.{refusal}
use Rattle.bh_turns.proofs.Answering.{done-made, done-refused, none_refused}
use Rattle.bh_turns.proofs.turn.make_step.Goals as goal

pub returns-in-Ok : goal.returns-in-Ok
returns-in-Ok c =
    let none : refusal c.args.step.now.group c.args.step.now.op c.args.leases.now ≡ None =
    none_refused _ (λ why is. let both : Ok tt ≡ Err why = (c.in-Ok.ensures.refused why).1 is in cc) in
    record {
      refused = sym none;
      done = done-made c.args.step.now c.step.new.reply c.args.lender.now c.args.leases.now c.step.new.self c.step.new.leases none c.in-Ok.ensures.does c.in-Ok.ensures.noted;
    }

pub returns-in-Err : goal.returns-in-Err
returns-in-Err c =
    let is : refusal c.args.step.now.group c.args.step.now.op c.args.leases.now ≡ Some c.in-Err.refusal = (c.in-Err.ensures.refused c.in-Err.refusal).0 refl in
    record {
      refused = sym is;
      done = done-refused c.args.step.now c.step.new.reply c.args.lender.now c.args.leases.now c.step.new.self c.step.new.leases c.in-Err.refusal is c.in-Err.ensures.err.0 c.in-Err.ensures.err.1;
    }
