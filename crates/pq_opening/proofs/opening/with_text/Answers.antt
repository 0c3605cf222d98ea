use Rattle.std.proofs.Common.{◌≡◌, ◌∙◌, ◌≤◌, ◌+◌, sym, subst, length, arith}
use Rattle.pq_schema.specs.Schema.{Schema}
use Rattle.pq_opening.proofs.Openings.{defines_one}
use Rattle.pq_opening.proofs.opening.with_text.Goals as goal

pub has_last_text-requires : goal.has_last_text-requires
has_last_text-requires c =
    let one : length c.in-Some.next.definitions ≡ length c.args.planned.definitions + 1 = defines_one c.args.planned c.in-Some.next c.args.text.now (sym c.in_ok-next.ensures ∙ c.in-Some.is) in
    subst (λ (s : Schema). 1 ≤ length s.definitions) (sym c.catalog.ensures) (omega (arith, one))
