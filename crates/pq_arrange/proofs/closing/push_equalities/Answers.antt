use Rattle.std.proofs.Common.{sym, ◌∙◌}
use Rattle.pq_arrange.proofs.Joining.{joins_found}
use Rattle.pq_arrange.proofs.closing.push_equalities.Goals as goal

pub returns-in_ok-push_beside : goal.returns-in_ok-push_beside
returns-in_ok-push_beside c =
    joins_found c.args.first c.in-Some.later c.args.rest.now c.args.found.now c.push_later.new.found c.push_beside.new.found
    (sym c.first_later.ensures ∙ c.in-Some.is) c.in_ok-push_later.ensures c.in_ok-push_beside.ensures
