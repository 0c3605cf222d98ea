use Rattle.pq_schema.specs.Relations.{table_of}
use Rattle.pq_nodes.proofs.Ranges.{has_range, ranged_permuted}
use Rattle.pq_nodes.proofs.Tied.{tied_kinds, matching_group, matching_row, within_tied}
use Rattle.pq_nodes.proofs.laws.tied_laws.Goals as goal

pub returns : goal.returns
returns c = record {
  kinds = λ tables query rows params rel combo cols resolved given fits within. tied_kinds tables query rows params resolved given rel combo fits cols (within_tied query rel cols within);
  group = λ tables query rows params rel combo cols resolved given fits kept within. matching_group tables query rows params resolved given rel combo fits kept cols (within_tied query rel cols within);
  row = λ tables query rows params rel combo resolved given fits kept tied. matching_row tables query rows params resolved given rel combo fits kept (within_tied query rel (table_of tables query rel).key tied);
  range = λ tables query rows params rel combo cols access resolved given fits kept within begins. has_range tables query rows params resolved given rel combo fits kept cols within access begins;
  ranges = ranged_permuted;
}
