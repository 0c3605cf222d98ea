use Rattle.std.proofs.Common.{◌∙◌, ap, List, length, vec_capacity}
use Rattle.std.specs.List.{sum_by}
use Rattle.pq_clients.specs.declared.client.Client.{Client}
use Rattle.pq_clients.proofs.Seats.{few_begin, told_begin, puts_begin}
use Rattle.pq_clients.proofs.run.Running.begin.Goals as goal

pub count_writes-writes-requires : goal.count_writes-writes-requires
count_writes-writes-requires c = few_begin c.args.clients c.items.result.now c.items.ensures c.requires

pub returns-clause-room : goal.returns-clause-room
returns-clause-room c = record {
  told = told_begin c.args.clients c.into_vec.result.items c.in_ok-told.told.items c.count_writes-writes.result (vec_capacity c.in_ok-told.told) c.into_vec.ensures c.in_ok-told.ensures.items
      (c.count_writes-writes.ensures ∙ ap (λ (l : List Client). sum_by (λ (client : Client). length client.writes) l) c.items.ensures) c.in_ok-told.ensures.exact;
  puts = puts_begin c.args.clients c.into_vec.result.items c.in_ok-puts.puts.items c.count_writes-writes.result (vec_capacity c.in_ok-puts.puts) c.into_vec.ensures c.in_ok-puts.ensures.items
      (c.count_writes-writes.ensures ∙ ap (λ (l : List Client). sum_by (λ (client : Client). length client.writes) l) c.items.ensures) c.in_ok-puts.ensures.exact;
}
