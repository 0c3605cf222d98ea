use Rattle.std.proofs.Common.{◌≡◌, ◌++◌, length}
use Rattle.std.specs.Vec.Iter.{into_iter_items}
use Rattle.pq_parts.specs.Asking.{put_answers}
use Rattle.pq_parts.proofs.asking.put_answers.Given as goal

abbrev pub invariant-loop-answer : goal.invariant-loop-answer
invariant-loop-answer g l = record {
  at : l.at ≡ length l.yielded;
  whole : l.yielded ++ into_iter_items l.answer-iterator ≡ l.fn.answers;
  long : length l.found.items ≡ length l.fn.found.items;
  put : l.found.items ≡ put_answers l.asked l.yielded l.fn.found.items;
}
