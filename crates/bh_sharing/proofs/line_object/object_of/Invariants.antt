use Rattle.std.proofs.Common.{◌≡◌, drop}
use Rattle.serde_json.specs.Data.{no_members}
use Rattle.serde_json.specs.View.{members_view}
use Rattle.bh_sharing.specs.LineObject.{with_each}
use Rattle.bh_sharing.proofs.line_object.object_of.Given as goal

abbrev pub invariant-loop-member : goal.invariant-loop-member
invariant-loop-member l = with_each (drop l.member-index l.members) (members_view l.object.entries) ≡ with_each l.members no_members
