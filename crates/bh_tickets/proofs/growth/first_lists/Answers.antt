use Rattle.std.proofs.Common.{◌+◌, arith, Result, Ok, Err}
use Rattle.std.specs.Result.{OnOk}
use Rattle.bh_tickets.specs.Growth.{HasNewLists}
use Rattle.bh_tickets.proofs.AddedLists.{more_both, more_none, more_second, more_third}
use Rattle.bh_tickets.proofs.growth.first_lists.Goals as goal

on_ok_then : {T E : Type 0} (r : Result T E) (P Q : Type 0) → (P → Q) → OnOk r P → OnOk r Q
on_ok_then (Ok x) P Q f h = f h
on_ok_then (Err x) P Q f h = h

pub returns-clause-ok : goal.returns-clause-ok
returns-clause-ok c =
    let a = c.args.arena.now in
    let m = c.add_lists-2.new.self in
    let b = c.add_lists-3.new.arena in
    let chains = c.args.chains in
    let shared : HasNewLists 0 1 1 a m = more_third 0 1 1 a c.add_lists.new.self m (omega (arith, c.partition.ensures.families)) (more_second 0 1 a a c.add_lists.new.self (omega (arith, c.partition.ensures.families)) (more_none a) c.in_ok-add_lists.ensures.ok) c.in_ok-add_lists-2.ensures.ok in
    on_ok_then c.add_lists-3.result (HasNewLists 4 chains chains m b) (HasNewLists 4 (1 + chains) (1 + chains) a b) (λ more. more_both 0 1 1 4 chains chains a m b shared more) c.add_lists-3.ensures.ok

pub returns-clause-more : goal.returns-clause-more
returns-clause-more c =
    let a = c.args.arena.now in
    let m = c.add_lists-2.new.self in
    let shared : HasNewLists 0 1 1 a m = more_third 0 1 1 a c.add_lists.new.self m (omega (arith, c.partition.ensures.families)) (more_second 0 1 a a c.add_lists.new.self (omega (arith, c.partition.ensures.families)) (more_none a) c.in_ok-add_lists.ensures.ok) c.in_ok-add_lists-2.ensures.ok in
    let more = c.add_lists-3.ensures.more in
    record { first = 0 + more.first; second = 1 + more.second; third = 1 + more.third; lists = more_both 0 1 1 more.first more.second more.third a m c.add_lists-3.new.arena shared more.lists }
