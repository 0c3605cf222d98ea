use Rattle.std.proofs.Common.{option_copied}
use Rattle.std.proofs.lemmas.Option.{IfSome_then}
use Rattle.pq_exec.proofs.Page.{plan_answers, plan_page}
use Rattle.pq_exec.proofs.executing.execute.Goals as goal

pub returns-clause-answer : goal.returns-clause-answer
returns-clause-answer g c =
    let run = rw c.tree.ensures at c.in_ok-combos.ensures.answer in
    plan_answers c.args.catalog.now.tables c.args.query.now c.args.params.now (option_copied c.args.after) c.args.plan.now c.requires.asked c.requires.plan
    (g.S.Store.content c.args.store.now) c.in_ok-combos.combos _ run c.in_ok-take_selected.ensures c.in_ok-last.ensures.last

pub returns-clause-page : goal.returns-clause-page
returns-clause-page g c =
    let given = rw c.tree.ensures at c.in_ok-combos.ensures.given in
    plan_page c.args.catalog.now.tables c.args.query.now c.args.params.now (option_copied c.args.after) c.args.plan.now c.requires.asked c.requires.plan
    c.in_ok-combos.combos _ given c.in_ok-take_selected.ensures c.in_ok-last.ensures.last c.in_ok-last.ensures.fits

pub returns-clause-codes : goal.returns-clause-codes
returns-clause-codes g c =
    let found = rw c.tree.ensures at c.in_ok-combos.ensures.codes in
    IfSome_then (g.S.Store.content c.args.store.now) found (λ content so. record { combos = c.in_ok-combos.combos; found = so; rows = c.in_ok-take_selected.ensures; last = c.in_ok-last.ensures.last })
