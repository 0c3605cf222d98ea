use Rattle.std.proofs.Common.{[], length, sym, ◌∙◌, Some, None, ap}
use Rattle.std.specs.List.{cons_option}
use Rattle.pq_query_read.specs.Columns.{named_in}
use Rattle.pq_query_read.proofs.Only.{named_at, first_found, same_found, second_found}
use Rattle.pq_query_read.proofs.columns.only_named.Goals as goal
use Rattle.pq_query_read.proofs.columns.only_named.Goals.{in-Some+else-is_some, in_default}

pub returns-then-is_some : goal.returns-then-is_some
returns-then-is_some c =
    second_found (named_in c.args.catalog.now.tables c.args.relations.now c.args.name.now) c.loop-place.found c.loop-place.place (length c.args.relations.now) c.in-Some.col
    (sym c.is_some.ensures ∙ c.if-is_some.true) c.loop-place-test.true c.loop-place.invariant
    (named_at c.args.catalog.now.tables c.args.relations.now c.args.name.now c.loop-place.place c.index-relations-place.result (Some c.in-Some.col) c.loop-place-test.true c.index-relations-place.is (sym c.in-Some.is ∙ c.column_named.ensures))

pub loop-place-preserved : goal.loop-place-preserved
loop-place-preserved c = elim c.match-column_named.branch [
  | in-Some+else-is_some w ↦
      ap (λ o. cons_option o []) w.found-is ∙ first_found (named_in c.args.catalog.now.tables c.args.relations.now c.args.name.now) c.loop-place.found c.loop-place.place w.in-Some.col
      (sym w.is_some.ensures ∙ w.if-is_some.false) c.loop-place.invariant
      (named_at c.args.catalog.now.tables c.args.relations.now c.args.name.now c.loop-place.place c.index-relations-place.result (Some w.in-Some.col) c.loop-place-test.true c.index-relations-place.is (sym w.in-Some.is ∙ c.column_named.ensures))
  | in_default w ↦
      ap (λ o. cons_option o []) w.found-is ∙ same_found (named_in c.args.catalog.now.tables c.args.relations.now c.args.name.now) c.loop-place.found c.loop-place.place c.loop-place.invariant
      (named_at c.args.catalog.now.tables c.args.relations.now c.args.name.now c.loop-place.place c.index-relations-place.result None c.loop-place-test.true c.index-relations-place.is (sym w.in_default.is ∙ c.column_named.ensures))
]
