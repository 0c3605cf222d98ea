use Rattle.std.proofs.Common.{◌+◌, sym, ap, ◌∙◌, map, length, List}
use Rattle.pq_store.specs.Content.{entry}
use Rattle.pq_store.specs.Counts.{Counts}
use Rattle.pq_store.specs.declared.store.Pair.{Pair as Stored}
use Rattle.pq_opening.specs.Opening.{none_added}
use Rattle.pq_opening.proofs.Answered.{damage_answered, last_answered}
use Rattle.pq_opening.proofs.Openings.{read_from, opened_marked, none_marked, as_many}
use Rattle.pq_opening.proofs.begun.read_catalog.Goals as goal

pub returns-clause-marked : goal.returns-clause-marked
returns-clause-marked g c =
    let is = read_from c.in_ok-damage.field-0 c.blank.result (map entry c.items.result.now) (c.in-Ok-2.planned, c.in-Ok-2.mark) c.in_ok-damage.ensures c.in-Ok-2.is c.blank.ensures in
    opened_marked (map entry c.items.result.now) none_added (c.in-Ok-2.planned, c.in-Ok-2.mark) none_marked is

pub returns-clause-takes : goal.returns-clause-takes
returns-clause-takes g c =
    let is = read_from c.in_ok-damage.field-0 c.blank.result (map entry c.items.result.now) (c.in-Ok-2.planned, c.in-Ok-2.mark) c.in_ok-damage.ensures c.in-Ok-2.is c.blank.ensures in
    let many = ap (λ (l : List Stored). length l) (sym c.items.ensures) ∙ as_many c.items.result.now (c.in-Ok-2.planned, c.in-Ok-2.mark) is in
    record {
      ops_are = ap (λ (x : Counts). x.ops) c.in-Ok.ensures.meter;
      entries_are = ap (λ (x : Counts). x.entries) c.in-Ok.ensures.meter ∙ ap (λ n. c.args.meter.now.entries + n) many;
    }

pub returns-in-Err-2-clause-answered : goal.returns-in-Err-2-clause-answered
returns-in-Err-2-clause-answered g c =
    damage_answered g.S.Store.answers c.in_ok-damage.field-0 _ (map entry c.items.result.now) c.in-Err-2.damage (rw c.items.ensures c.in-Ok.ensures.answered) c.in_ok-damage.ensures c.in-Err-2.is

pub returns-clause-last : goal.returns-clause-last
returns-clause-last g c =
    let is = read_from c.in_ok-damage.field-0 c.blank.result (map entry c.items.result.now) (c.in-Ok-2.planned, c.in-Ok-2.mark) c.in_ok-damage.ensures c.in-Ok-2.is c.blank.ensures in
    last_answered g.S.Store.answers (map entry c.items.result.now) (c.in-Ok-2.planned, c.in-Ok-2.mark) (rw c.items.ensures c.in-Ok.ensures.answered) is
