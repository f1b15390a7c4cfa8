use Rattle.std.proofs.Common.{◌≡◌, ◌++◌, ◌∷◌, [], length, ap, subst, sym, arith, length-append}
use Rattle.bh_props.specs.ByGroup.{AreByGroup}
use Rattle.bh_props.proofs.ByGroup.{empty-next}
use Rattle.bh_props.proofs.by_group.no_lists.Goals as goal

pub loop-preserved : goal.loop-preserved
loop-preserved c =
    let grown : c.push.new.self.items ≡ c.loop.lists.items ++ c.new.result ∷ [] = c.in_ok-push.ensures.items in
    record {
      groups = omega (arith, ap length grown, length-append c.loop.lists.items (c.new.result ∷ []), c.loop.invariant.groups);
      empty = subst (AreByGroup []) (sym grown) (empty-next c.loop.lists.items c.new.result c.loop.invariant.empty c.new.ensures.items);
    }
