use Rattle.std.proofs.Common.{List, ℕ, [], ◌∷◌, ◌++◌, map, sym, ap, ◌∙◌, append_assoc, zero-add}
use Rattle.std.specs.List.{range_with_len}
use Rattle.std.proofs.lemmas.List.FromFn.{map-range_with_len_more}
use Rattle.pq_schema.specs.declared.query.ColRef.{ColRef}
use Rattle.pq_query_read.proofs.columns.push_all.Goals as goal

pub loop-col-preserved : goal.loop-col-preserved
loop-col-preserved c =
    let col = c.loop-col.col in
    let ref : ℕ → ColRef = λ n. record { rel = c.args.rel; col = n } in
    c.in_ok-push.ensures.ok ∙ ap (λ (refs : List ColRef). refs ++ ref col ∷ []) c.loop-col.invariant
    ∙ append_assoc c.args.refs.now (map ref (range_with_len 0 col)) (ref col ∷ [])
    ∙ ap (λ (refs : List ColRef). c.args.refs.now ++ refs) (sym (map-range_with_len_more ref 0 col col (zero-add col)))
