use Rattle.std.proofs.Common.{◌≡◌, take, map, drop}
use Rattle.std.specs.List.{AllByRecursion}
use Rattle.pq_base.specs.Values.{AllFit}
use Rattle.pq_key_code.specs.KeyCode.{code_of}
use Rattle.pq_entries.proofs.decode.decoded_keys.Given as goal

abbrev pub invariant-loop-pair : goal.invariant-loop-pair
invariant-loop-pair l = record {
  codes : map (code_of l.dirs) l.found ≡ map (λ pair. drop l.skipped pair.key) (take l.pair-index l.pairs);
  fit : AllByRecursion (AllFit l.types) l.found;
}
