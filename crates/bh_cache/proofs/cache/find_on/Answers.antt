use Rattle.std.proofs.Common.{◌≡◌, ℕ, ◌+◌, ◌<◌, drop, length, slice_get, sym, ◌∙◌, ap, subst, arith, Option, Some}
use Rattle.std.specs.Prelude.{IfSome}
use Rattle.bh_base.specs.Tickets.{is_cached_as}
use Rattle.bh_slot_arena.specs.Slots.{slots_on}
use Rattle.bh_cache.specs.Cache.{earliest}
use Rattle.bh_cache.proofs.Earliest.{step_found, step_passed}
use Rattle.bh_cache.proofs.cache.find_on.Goals as goal
use Rattle.bh_cache.proofs.cache.find_on.Goals.{then-has_name, else-has_name}

pub loop-preserved : goal.loop-preserved
loop-preserved c =
    let p = is_cached_as c.args.command (c.args.context, c.args.key.now) in
    let ps = c.args.arena.now.payloads in
    let xs = slots_on c.args.arena.now 1 c.args.chain in
    let at : slice_get xs c.loop.counter ≡ Some c.in-Some.slot = sym c.loop.invariant.ahead ∙ c.in-Some.is in
    let ahead = c.next-ahead.ensures c.args.chain c.loop.counter at in
    elim c.if-has_name.branch [
      | then-has_name w ↦ record {
        end = c.loop.invariant.end;
        here = omega (arith, c.loop.invariant.end);
        ahead = ahead;
        within = subst (λ (o : Option ℕ). IfSome o (λ slot. slot < length ps)) (sym w.found-is) w.earlier.ensures.within;
        rest =
            c.loop.invariant.rest ∙ step_found p ps c.loop.found xs c.loop.counter c.in-Some.slot c.get.result.now at (sym c.get.ensures) (sym c.has_name.ensures ∙ w.if-has_name.true)
            ∙ ap (λ (o : Option ℕ). earliest p ps o (drop (c.loop.counter + 1) xs)) (sym (w.found-is ∙ ap Some w.earlier.ensures.earlier));
      }
      | else-has_name w ↦ record {
        end = c.loop.invariant.end;
        here = omega (arith, c.loop.invariant.end);
        ahead = ahead;
        within = subst (λ (o : Option ℕ). IfSome o (λ slot. slot < length ps)) (sym w.found-is) c.loop.invariant.within;
        rest =
            c.loop.invariant.rest ∙ step_passed p ps c.loop.found xs c.loop.counter c.in-Some.slot c.get.result.now at (sym c.get.ensures) (sym c.has_name.ensures ∙ w.if-has_name.false)
            ∙ ap (λ (o : Option ℕ). earliest p ps o (drop (c.loop.counter + 1) xs)) (sym w.found-is);
      }
    ]
