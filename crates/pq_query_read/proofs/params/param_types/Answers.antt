use Rattle.std.proofs.Common.{◌≡◌, ◌+◌, List, [], ◌∷◌, ◌++◌, map, sym, ap, ◌∙◌, arith}
use Rattle.std.specs.List.{range_with_len}
use Rattle.std.proofs.lemmas.List.FromFn.{map-range_with_len_more}
use Rattle.pq_base.specs.declared.value.ColType.{ColType}
use Rattle.pq_query_read.specs.Parameters.{param_type_of}
use Rattle.pq_query_read.proofs.params.param_types.Goals as goal

pub loop-place-preserved : goal.loop-place-preserved
loop-place-preserved c =
    let type = param_type_of c.args.uses.now in
    let place = c.loop-place.place in
    let next : 1 + place ≡ place + 1 = omega arith in
    c.in_ok-push.ensures.ok ∙ ap (λ (types : List ColType). types ++ c.param_type_of.result ∷ []) c.loop-place.invariant
    ∙ ap (λ (t : ColType). map type (range_with_len 1 place) ++ t ∷ []) c.param_type_of.ensures ∙ sym (map-range_with_len_more type 1 place (place + 1) next)
