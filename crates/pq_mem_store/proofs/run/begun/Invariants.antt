use Rattle.std.proofs.Common.{◌≡◌, ◌≤◌, ◌<◌, ◌-◌, true, length, get_or}
use Rattle.std.specs.Ordering.{is_lt, is_le}
use Rattle.pq_store.specs.Content.{key_cmp}
use Rattle.pq_mem_store.specs.Runs.{first_key}
use Rattle.pq_mem_store.proofs.run.begun.Given as goal

abbrev pub invariant-loop-low : goal.invariant-loop-low
invariant-loop-low g l = record {
  order : l.low ≤ l.high;
  within : l.high ≤ length l.fn.runs;
  begun : (d : g.row.R.Denot) → 0 < l.low → is_le (key_cmp (first_key (g.R.Begins.pairs (get_or l.fn.runs (l.low - 1) d))) l.fn.key) ≡ true;
  not_begun : (d : g.row.R.Denot) → l.high < length l.fn.runs → is_lt (key_cmp l.fn.key (first_key (g.R.Begins.pairs (get_or l.fn.runs l.high d)))) ≡ true;
}

abbrev pub decreases-loop-low : goal.decreases-loop-low
decreases-loop-low g l = l.high - l.low
