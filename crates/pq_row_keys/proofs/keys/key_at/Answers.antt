use Rattle.std.proofs.Common.{[], ◌++◌, ◌∙◌, ap, sym, length}
use Rattle.std.specs.Prelude.{replicate}
use Rattle.std.proofs.lemmas.List.{length-map}
use Rattle.pq_base.specs.declared.value.Dir.TheVariants.{Asc}
use Rattle.pq_key_code.specs.KeyCode.{code_of, row_key}
use Rattle.pq_content.specs.Tables.{cells, value_of}
use Rattle.pq_row_keys.proofs.keys.key_at.Goals as goal

pub returns : goal.returns
returns c =
    let values = cells c.args.cols.now c.args.row.now in
    c.in_ok-put_cells.ensures ∙ ap (λ front. front ++ code_of (replicate (length c.args.cols.now) Asc) values) c.in_ok-key.ensures
    ∙ ap (λ n. row_key c.args.number [] ++ code_of (replicate n Asc) values) (sym (length-map c.args.cols.now (value_of c.args.row.now)))
