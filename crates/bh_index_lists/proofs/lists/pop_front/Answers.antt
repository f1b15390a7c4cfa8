use Rattle.std.proofs.Common.{◌∙◌}
use Rattle.bh_index_lists.specs.Lists.{list_of}
use Rattle.bh_index_lists.proofs.Unlinked.{without-first}
use Rattle.bh_index_lists.proofs.lists.pop_front.Goals as goal

-- the place that was taken off came first
pub returns-clause-rest : goal.returns-clause-rest
returns-clause-rest c =
    c.unlink.ensures.taken
    ∙ without-first c.args.links.now c.args.head.now c.in_ok-place.place (list_of c.args.links.now c.args.head.now) c.requires c.in_ok-place.was
