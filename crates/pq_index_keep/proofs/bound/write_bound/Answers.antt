use Rattle.pq_index_keep.proofs.Narrow.{valid_writable}
use Rattle.pq_index_keep.proofs.bound.write_bound.Goals as goal

pub write_tests-tests-requires-clause-sound : goal.write_tests-tests-requires-clause-sound
write_tests-tests-requires-clause-sound c = valid_writable c.known.ensures

pub most_changes-requires-clause-sound : goal.most_changes-requires-clause-sound
most_changes-requires-clause-sound c = valid_writable c.known.ensures
