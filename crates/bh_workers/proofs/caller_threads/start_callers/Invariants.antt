use Rattle.std.proofs.Common.{◌≡◌, ◌≤◌, length, vec_len, drop}
use Rattle.std.specs.Vec.{vec_capacity}
use Rattle.std.specs.Vec.Iter.{into_iter_items}
use Rattle.std.specs.Iterator.Adapters.{zip_first, zip_second}
use Rattle.std.specs.Slice.Iter.{iter_rest}
use Rattle.bh_workers.specs.Callers.{AllCallers, ArePassesOf}
use Rattle.bh_workers.proofs.caller_threads.start_callers.Given as goal

abbrev pub invariant-loop-list : goal.invariant-loop-list
invariant-loop-list g l = record {
  len : vec_len l.handles ≤ length l.lists;
  room : length l.lists ≤ vec_capacity l.handles;
  kind : l.audited ≡ l.shared.audited;
  lists : iter_rest (zip_first l.list-iterator) ≡ drop (vec_len l.handles) l.lists;
  passes : into_iter_items (zip_second l.list-iterator) ≡ drop (vec_len l.handles) l.fn.passes.items;
  rest : ArePassesOf (iter_rest (zip_first l.list-iterator)) (into_iter_items (zip_second l.list-iterator));
  all : AllCallers l.shared.audited l.lists l.fn.passes.items l.handles.items;
}
