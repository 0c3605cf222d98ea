-- The parameters of one more predicate.
use Rattle.std.proofs.Common.{◌≡◌, ℕ, ◌+◌, ◌<◌, List, [], ◌∷◌, ◌++◌, length, get_or, take, Option, sym, ap, ◌∙◌}
use Rattle.std.specs.List.{cons_option}
use Rattle.std.proofs.lemmas.List.{take_more}
use Rattle.std.proofs.lemmas.List.Elements.{filter_map-append}
use Rattle.pq_schema.specs.declared.query.Pred.{Pred}
use Rattle.pq_schema.specs.declared.query.Relation.{Relation}
use Rattle.pq_schema.specs.declared.table.Table.{Table}
use Rattle.pq_query_read.specs.Parameters.{use_in, uses}
use Rattle.pq_query_read.specs.declared.params.ParamUse.{ParamUse}

pub one_more : (tables : List Table) (relations : List Relation) (preds : List Pred) (i : ℕ) (pred : Pred) (found : Option ParamUse) → i < length preds → pred ≡ get_or preds i pred
    → found ≡ use_in tables relations pred.left pred.right → uses tables relations (take (i + 1) preds) ≡ uses tables relations (take i preds) ++ cons_option found []
one_more tables relations preds i pred found lt is named =
    ap (uses tables relations) (take_more preds i pred lt ∙ ap (λ p. take i preds ++ p ∷ []) (sym is))
    ∙ filter_map-append (λ pred. use_in tables relations pred.left pred.right) (take i preds) (pred ∷ [])
    ∙ ap (λ o. uses tables relations (take i preds) ++ cons_option o []) (sym named)
