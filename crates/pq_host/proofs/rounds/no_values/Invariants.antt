use Rattle.std.proofs.Common.{◌≡◌, take, sum_by}
use Rattle.std.specs.List.{AllZip}
use Rattle.pq_store.specs.Rounds.{IsValueAnswered, one_if_some}
use Rattle.pq_host.specs.Ends.{any_answer}
use Rattle.pq_host.proofs.rounds.no_values.Given as goal

abbrev pub invariant-loop-asked : goal.invariant-loop-asked
invariant-loop-asked l = AllZip (IsValueAnswered any_answer) (take l._asked-index l.keys) l.found × (sum_by one_if_some l.found ≡ 0)
