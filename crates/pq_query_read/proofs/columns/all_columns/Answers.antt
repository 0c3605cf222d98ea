use Rattle.std.proofs.Common.{List, ◌++◌, sym, ap, ◌∙◌}
use Rattle.pq_schema.specs.declared.query.ColRef.{ColRef}
use Rattle.pq_query_read.specs.Columns.{all_of}
use Rattle.pq_query_read.proofs.Loops.{flat_map_more}
use Rattle.pq_query_read.proofs.columns.all_columns.Goals as goal

pub loop-rel-preserved : goal.loop-rel-preserved
loop-rel-preserved c =
    let all = all_of c.args.catalog.now.tables c.args.relations.now in
    c.in_ok-push_all.ensures ∙ ap (λ (refs : List ColRef). refs ++ all c.loop-rel.rel) c.loop-rel.invariant ∙ sym (flat_map_more all c.loop-rel.rel c.loop-rel.auto.rel)
