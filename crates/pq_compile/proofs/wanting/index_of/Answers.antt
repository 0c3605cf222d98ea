use Rattle.std.proofs.Common.{subst}
use Rattle.pq_plan.proofs.Choices.{CanStop, Has, choice_has}
use Rattle.pq_compile.proofs.wanting.index_of.Goals as goal

pub index_at-requires-clause-one : goal.index_at-requires-clause-one
index_at-requires-clause-one c =
    let tables = c.args.catalog.now.tables in
    let query = c.args.query.now in
    let can : CanStop tables query c.in-Stop.p = subst (Has tables query) c.in-Stop.is (choice_has tables query c.args.choice c.requires.choice) in
    can.from_one

pub index_at-requires-clause-there : goal.index_at-requires-clause-there
index_at-requires-clause-there c =
    let tables = c.args.catalog.now.tables in
    let query = c.args.query.now in
    let can : CanStop tables query c.in-Stop.p = subst (Has tables query) c.in-Stop.is (choice_has tables query c.args.choice c.requires.choice) in
    can.within
