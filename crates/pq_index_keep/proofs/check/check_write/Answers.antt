use Rattle.pq_index_keep.proofs.Narrow.{valid_writable}
use Rattle.pq_index_keep.proofs.check.check_write.Goals as goal

pub check_into-requires : goal.check_into-requires
check_into-requires c = record { sound = valid_writable c.known.ensures }

pub check_set-requires : goal.check_set-requires
check_set-requires c = record { sound = valid_writable c.known.ensures }

pub check_from-requires : goal.check_from-requires
check_from-requires c = record { sound = valid_writable c.known.ensures }
