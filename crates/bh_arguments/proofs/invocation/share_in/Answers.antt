use Rattle.std.proofs.Common.{◌∙◌, codes}
use Rattle.clap.specs.Words.{found_of}
use Rattle.clap.proofs.WalkLemmas.{first_value-rows}
use Rattle.bh_arguments.proofs.invocation.share_in.Goals as goal

pub returns : goal.returns
returns c = record {
  forever = c.flag_in.result;
  is_forever = c.flag_in.ensures;
  service = c.service_in.ensures;
  sharing = c.sharing_in.ensures;
  record_path = c.get_str.ensures ∙ first_value-rows (found_of c.args.found.now) (codes "record");
}
