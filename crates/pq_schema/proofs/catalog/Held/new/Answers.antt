use Rattle.std.proofs.Common.{[], ap}
use Rattle.std.specs.Map.{lookup}
use Rattle.pq_schema.specs.Numbered.{text_is}
use Rattle.pq_schema.specs.Schema.{empty_schema}
use Rattle.pq_schema.proofs.Numbered.{catalog_as, none_numbered, same_numbered}
use Rattle.pq_schema.proofs.Valid.{empty_sound}
use Rattle.pq_schema.proofs.catalog.Held.new.Goals as goal

pub invariant_of-result : goal.invariant_of-result
invariant_of-result c =
    let none = same_numbered empty_schema [] [] none_numbered _ _ (λ name. ap (lookup (text_is name)) c.new-3.ensures.empty) (λ name. ap (lookup (text_is name)) c.new-4.ensures.empty) in
    catalog_as empty_schema _ _ _ _ c.new.ensures.items c.new-2.ensures.items empty_sound none
