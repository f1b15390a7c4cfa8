use Rattle.std.proofs.Common.{◌≡◌}
use Rattle.std.specs.Iterator.Adapters.{rev_source}
use Rattle.std.specs.Slice.Iter.{iter_rest}
use Rattle.serde_json.specs.Data.{no_members}
use Rattle.serde_json.specs.Find.{get_member}
use Rattle.bh_lines.specs.Flat.{put_all}
use Rattle.bh_lines.proofs.flat.FlatObject.get.Given as goal

abbrev pub invariant-loop-member : goal.invariant-loop-member
invariant-loop-member l =
    get_member l.name (put_all l.self.members.items no_members) ≡ get_member l.name (put_all (iter_rest (rev_source l.member-iterator)) no_members)
