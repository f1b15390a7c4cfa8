use Rattle.std.proofs.Common.{◌∙◌, arith}
use Rattle.bh_tickets.proofs.AddedLists.{more_first, more_second, more_third}
use Rattle.bh_tickets.proofs.growth.add_lists.Goals as goal

pub returns-in_err-names-clause-more : goal.returns-in_err-names-clause-more
returns-in_err-names-clause-more c = record {
  first = 4;
  second = 0;
  third = 0;
  lists = more_first 4 _ _ (omega (arith, c.partition.ensures.families)) (c.in_err-names.ensures.err ∙ c.in_ok-free.ensures.ok);
}

pub returns-in_err-contexts-clause-more : goal.returns-in_err-contexts-clause-more
returns-in_err-contexts-clause-more c = record {
  first = 4;
  second = c.args.chains;
  third = 0;
  lists = more_second 4 c.args.chains _ _ _ (omega (arith, c.partition.ensures.families)) (more_first 4 _ _ (omega (arith, c.partition.ensures.families)) c.in_ok-free.ensures.ok) (c.in_err-contexts.ensures.err ∙ c.in_ok-names.ensures.ok);
}

pub returns-clause-ok : goal.returns-clause-ok
returns-clause-ok c = more_third 4 c.args.chains c.args.chains _ _ _ (omega (arith, c.partition.ensures.families)) (more_second 4 c.args.chains _ _ _ (omega (arith, c.partition.ensures.families)) (more_first 4 _ _ (omega (arith, c.partition.ensures.families)) c.in_ok-free.ensures.ok) c.in_ok-names.ensures.ok) c.in_ok-contexts.ensures.ok

pub returns-clause-more : goal.returns-clause-more
returns-clause-more c = record {
  first = 4;
  second = c.args.chains;
  third = c.args.chains;
  lists = returns-clause-ok c;
}
