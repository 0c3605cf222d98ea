use Rattle.std.proofs.Common.{◌≡◌, length, take, map}
use Rattle.pq_fk_join.proofs.join.put_types.Given as goal

abbrev pub invariant-loop-i : goal.invariant-loop-i
invariant-loop-i l = record {
  types : take l.i l.room ≡ map (λ column. column.ty) (take l.i l.columns);
  long : length l.room ≡ length l.fn.room;
}
