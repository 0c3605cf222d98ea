use Rattle.std.proofs.Common.{length}
use Rattle.pq_tests_calls.proofs.pages.cut_page.Goals as goal

pub keep_after-requires-clause-fit : goal.keep_after-requires-clause-fit
keep_after-requires-clause-fit c =
    c.in_ok-sorted.ensures.part.fit c.args.catalog.now.tables c.args.query.now (length c.args.query.now.relations) c.requires.fit

pub returns-in_ok-keep_after-in-Some : goal.returns-in_ok-keep_after-in-Some
returns-in_ok-keep_after-in-Some c =
    let tables = c.args.catalog.now.tables in
    let query = c.args.query.now in
    let count = length query.relations in
    c.first_k.ensures.part.fit tables query count
    (c.in_ok-keep_after-in-Some.ensures.part.fit tables query count (c.in_ok-sorted.ensures.part.fit tables query count c.requires.fit))

pub returns-in-None : goal.returns-in-None
returns-in-None c =
    let tables = c.args.catalog.now.tables in
    let query = c.args.query.now in
    let count = length query.relations in
    c.first_k-in-None.ensures.part.fit tables query count (c.in_ok-sorted.ensures.part.fit tables query count c.requires.fit)
