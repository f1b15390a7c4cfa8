use Rattle.std.proofs.Common.{append_assoc}
use Rattle.bh_control.proofs.Listed.{groups-sent}
use Rattle.bh_control.proofs.groups_line.send_groups.Goals as goal

pub returns-clause-sent : goal.returns-clause-sent
returns-clause-sent c =
    groups-sent _ c.args.writer.now.tokens _ _ c.args.names.now
    (rw (c.in_ok-string.ensures.ok, c.in_ok-key-2.ensures.ok, c.in_ok-end_array.ensures.ok, c.in_ok-send_names.ensures.sent, c.in_ok-begin_array.ensures.ok, c.in_ok-key.ensures.ok, c.in_ok-begin_object.ensures.ok) (simp append_assoc))
    c.end_object.ensures.ok
