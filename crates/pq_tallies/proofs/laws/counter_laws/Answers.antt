use Rattle.pq_tallies.proofs.Counting.{whole_write, changes_intended, few_after}
use Rattle.pq_tallies.proofs.Grown.{new_counter, new_few, pairs_grown, few_grown, no_rows, no_rows_few}
use Rattle.pq_tallies.proofs.Told.{of_counters, get_group}
use Rattle.pq_tallies.proofs.laws.counter_laws.Goals as goal

pub returns-clause-space : goal.returns-clause-space
returns-clause-space c = λ counters rows. of_counters rows counters

pub returns-clause-get : goal.returns-clause-get
returns-clause-get c = get_group

pub returns-clause-write : goal.returns-clause-write
returns-clause-write c = λ schema rows made others write valid keeps beside sound may is. whole_write schema rows made write keeps is others valid beside may

pub returns-clause-intended : goal.returns-clause-intended
returns-clause-intended c = changes_intended

pub returns-clause-few : goal.returns-clause-few
returns-clause-few c = λ schema rows made write valid keeps few is none. few_after schema rows made write keeps is few none

pub returns-clause-fresh : goal.returns-clause-fresh
returns-clause-fresh c = new_counter

pub returns-clause-fresh_few : goal.returns-clause-fresh_few
returns-clause-fresh_few c = new_few

pub returns-clause-grown : goal.returns-clause-grown
returns-clause-grown c = λ tables counters t filler rows keeps are. pairs_grown tables t filler rows keeps counters are

pub returns-clause-grown_few : goal.returns-clause-grown_few
returns-clause-grown_few c = λ tables counters t filler rows keeps are few. few_grown tables t filler rows keeps counters are few

pub returns-clause-none : goal.returns-clause-none
returns-clause-none c = no_rows

pub returns-clause-none_few : goal.returns-clause-none_few
returns-clause-none_few c = no_rows_few
