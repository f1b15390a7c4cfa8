use Rattle.std.proofs.Common.{◌≡◌, ◌+◌, ◌*◌, ◌≤◌, take, length, vec_len}
use Rattle.std.specs.Vec.{vec_capacity}
use Rattle.bh_workers.specs.Driving.{HasRoomFor, IsCaller, NoneIsFull}
use Rattle.bh_workers.proofs.caller_threads.make_calls.Given as goal

abbrev pub invariant-loop-request : goal.invariant-loop-request
invariant-loop-request g l = record {
  len : vec_len l.answers ≡ l.request-index;
  room : length l.requests ≤ vec_capacity l.answers;
  calls : IsCaller g.D.Dependency.ends g.D.Dependency.fallback_ends g.C.Clock.moments l.shared.audited l.fn.pass.group (take l.request-index l.requests) l.answers.items l.pass;
  left : l.fn.pass.room ≤ l.pass.room + 5 * l.request-index;
  unrefused : HasRoomFor l.shared.audited l.fn.pass.room l.requests → NoneIsFull l.answers.items;
}
