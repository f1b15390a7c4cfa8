use Rattle.std.proofs.Common.{◌≡◌, ◌++◌, map}
use Rattle.std.specs.Vec.Iter.{into_iter_items}
use Rattle.bh_workers.specs.declared.caller_threads.Called.{Called}
use Rattle.bh_workers.proofs.driving.answers_and_passes.Given as goal

abbrev pub invariant-loop-answers : goal.invariant-loop-answers
invariant-loop-answers l = record {
  answers : l.all_answers.items ++ map (λ (r : Called). r.answers) (into_iter_items l.answers-iterator) ≡ map (λ (r : Called). r.answers) l.fn.called.items;
  passes : l.passes.items ++ map (λ (r : Called). r.pass) (into_iter_items l.answers-iterator) ≡ map (λ (r : Called). r.pass) l.fn.called.items;
}
