use Rattle.std.proofs.Common.{◌≡◌, ◌++◌, take}
use Rattle.std.specs.List.{AllZip, flat_map}
use Rattle.pq_store.specs.Rounds.{IsValueAnswered}
use Rattle.pq_host.specs.Ends.{any_answer}
use Rattle.pq_host.specs.Frames.{value_bytes}
use Rattle.pq_host.proofs.answer.read_values.Given as goal

abbrev pub invariant-loop-asked : goal.invariant-loop-asked
invariant-loop-asked l = AllZip (IsValueAnswered any_answer) (take l.asked-index l.keys) l.found × (l.body ≡ flat_map value_bytes l.found ++ l.rest)
