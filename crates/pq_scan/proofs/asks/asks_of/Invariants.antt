use Rattle.std.proofs.Common.{◌≡◌, map, take}
use Rattle.std.specs.Option.{option_copied}
use Rattle.pq_scan.specs.Asked.{range_asked}
use Rattle.pq_scan.specs.Forms.{form_asked}
use Rattle.pq_scan.proofs.asks.asks_of.Given as goal

abbrev pub invariant-loop-combo : goal.invariant-loop-combo
invariant-loop-combo l = record {
  ranges : l.ranges ≡ map (range_asked l.scan (option_copied l.after)) (take l.combo-index l.inputs);
  forms : l.forms ≡ map (form_asked l.scan) (take l.combo-index l.inputs);
}
