use Rattle.std.proofs.Common.{◌++◌, List, subst}
use Rattle.pq_content.specs.Pairs.{Pair}
use Rattle.pq_pending.specs.Pending.{seen_content}
use Rattle.pq_index_keep.specs.Promises.{Plans}
use Rattle.pq_tallies.specs.Counters.{counter_pairs}
use Rattle.pq_tallies.specs.Defined.{counters_in}
use Rattle.pq_tallies.proofs.Told.{holds_rows}
use Rattle.pq_counters.proofs.Joining.{HasMade, has_made, effect_refused}
use Rattle.pq_counters.proofs.Loop.{counted_later}
use Rattle.pq_counters.proofs.whole.plan_whole.Goals as goal

pub returns-in-Err-clause-undamaged : goal.returns-in-Err-clause-undamaged
returns-in-Err-clause-undamaged g c = λ rows others s.
    let schema = c.args.catalog.now in
    c.in-Err.ensures.undamaged rows (counter_pairs (counters_in schema) rows ++ others) (holds_rows (seen_content c.args.pending.now.changes (g.S.Store.content c.args.store.now)) schema rows others s)

pub returns-in-Refused-clause-answer : goal.returns-in-Refused-clause-answer
returns-in-Refused-clause-answer g c = λ rows others s.
    let schema = c.args.catalog.now in
    let w = c.args.write.now in
    let beside : List Pair = counter_pairs (counters_in schema) rows ++ others in
    effect_refused schema rows others w c.in-Refused.why
    (subst (Plans schema.tables rows beside w) c.in-Refused.is (c.in-Ok.ensures.answer rows beside (holds_rows (seen_content c.args.pending.now.changes (g.S.Store.content c.args.store.now)) schema rows others s)))

pub returns-clause-answer : goal.returns-clause-answer
returns-clause-answer g c = λ rows others s.
    let schema = c.args.catalog.now in
    let w = c.args.write.now in
    let beside : List Pair = counter_pairs (counters_in schema) rows ++ others in
    let has : HasMade schema.tables rows beside w c.in-Changes.changes = has_made schema.tables rows beside w c.in-Changes.changes
    (subst (Plans schema.tables rows beside w) c.in-Changes.is (c.in-Ok.ensures.answer rows beside (holds_rows (seen_content c.args.pending.now.changes (g.S.Store.content c.args.store.now)) schema rows others s))) in
    c.in-Ok-plan_more.ensures.answer rows has.made others (counted_later _ _ _ _ schema rows others c.plan_with_rows.ensures.reads s) has.is has.makes
