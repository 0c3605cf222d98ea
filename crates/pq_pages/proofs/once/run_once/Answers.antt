use Rattle.std.proofs.Common.{refl}
use Rattle.std.proofs.lemmas.Option.{IfSome_then}
use Rattle.pq_pages.proofs.once.run_once.Goals as goal

pub returns-clause-codes : goal.returns-clause-codes
returns-clause-codes g c =
    let found = rw c.new-params.ensures at c.in_ok-answer.ensures.codes in
    IfSome_then (g.S.Store.content c.args.store.now) found (λ content so. record { answer = c.in_ok-answer.answer; found = so; rows = refl; next = refl })
