use Rattle.std.proofs.Common.{◌-◌, ◌∷◌, [], length, map, take, drop, Option, sym, subst}
use Rattle.std.specs.Prelude.{All, IfSome, MatchOption}
use Rattle.pq_row_code.specs.declared.changes.Change.{Change}
use Rattle.pq_base.proofs.Members.{each_append}
use Rattle.pq_content.specs.Standing.{change_of}
use Rattle.pq_index_keep.proofs.Inserting.{each_by, each_is}
use Rattle.pq_tallies.specs.Defined.{counter_numbered}
use Rattle.pq_tallies.proofs.Defined.{numbered_in}
use Rattle.pq_counters.specs.Groups.{IsFull, IsTurned}
use Rattle.pq_counters.specs.Promises.{IsCounterChange}
use Rattle.pq_counters.proofs.Grouping.{cut_first, number_first, plans_full}
use Rattle.pq_counters.proofs.steps.+put_changes.Goals as goal

pub returns-in_default-2-clause-can : goal.returns-in_default-2-clause-can
returns-in_default-2-clause-can t c =
    let schema = c.args.catalog.now in
    let all = c.args.groups.now in
    let group = c.group-item.result in
    let first = cut_first all group c.in-len1-up.len_at_least c.group-item.is in
    let number = number_first schema all (take (length all - 1) (drop 1 all)) group c.args.found.now [] c.value-item.result first c.requires.each in
    (counter_numbered schema group.number, numbered_in schema group.number number, rw c.counter.ensures at (c.in_ok-full.ensures group.number))

pub returns-in_default-2-clause-plans : goal.returns-in_default-2-clause-plans
returns-in_default-2-clause-plans t c =
    let schema = c.args.catalog.now in
    let all = c.args.groups.now in
    let values = c.args.found.now in
    let group = c.group-item.result in
    let value = c.value-item.result in
    let first = cut_first all group c.in-len1-up.len_at_least c.group-item.is in
    let cut = cut_first values value c.in-len1-up-found.len_at_least c.value-item.is in
    let full : IsFull group value = subst (λ (o : Option Change). MatchOption o (IsFull group value) (λ change. IsTurned group value (change_of change))) c.in_default-2.is c.in_ok-change.ensures.turned in
    plans_full schema all (take (length all - 1) (drop 1 all)) group values (take (length values - 1) (drop 1 values)) value first cut full _ (rw c.counter.ensures at (c.in_ok-full.ensures group.number)) (map change_of c.args.changes.now)

pub returns-clause-each : goal.returns-clause-each
returns-clause-each t c = λ each.
    let old = c.args.changes.now in
    let change = c.in-Some.change in
    let here : IsCounterChange change = subst (λ (o : Option Change). IfSome o IsCounterChange) c.in-Some.is c.in_ok-change.ensures.each in
    c.put_changes.ensures.each (subst (All IsCounterChange) (sym c.in_ok-push.ensures.ok) (each_is IsCounterChange _ (each_append IsCounterChange old (change ∷ []) (each_by IsCounterChange old each) (here, tt))))
