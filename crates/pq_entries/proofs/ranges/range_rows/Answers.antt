use Rattle.std.proofs.Common.{rules, map}
use Rattle.std.proofs.lemmas.Result.{IfOk-weaker, IfErr-weaker}
use Rattle.pq_schema.specs.declared.table.Access.TheVariants.{Primary}
use Rattle.pq_store.specs.Content.{entry}
use Rattle.pq_calls.specs.Calls.{seen_world}
use Rattle.pq_calls.specs.World.{where_told}
use Rattle.pq_nodes.specs.Operators.{ShowsRead}
use Rattle.pq_entries.specs.Entries.{AreOfRange, TellsPair}
use Rattle.pq_entries.proofs.Answered.{read_answered}
use Rattle.pq_entries.proofs.Told.{unread_explains, few_of}
use Rattle.pq_entries.proofs.ranges.range_rows.Goals as goal

pub returns-clause-asks : goal.returns-clause-asks
returns-clause-asks g c = record {
  uses = search rules;
  rounds = search rules;
  cause =
      let of : AreOfRange c.args.number Primary (g.S.Store.content c.args.calls.now.store.now) c.args.low.now c.args.high.now c.args.limit c.items.result.now =
      record { ends = c.requires.ends; part = rw c.items.ensures c.in_ok-pairs.ensures.part; are = rw c.items.ensures c.in_ok-pairs.ensures.answer } in
      IfErr-weaker c.rows_in.result _ _
      (λ why unread. unread_explains (where_told (ShowsRead c.args.catalog.now.tables)) (seen_world g.S.Store.content g.S.Store.faults c.args.calls.now) (seen_world g.S.Store.content g.S.Store.faults c.range.new.self) why
      (unread (g.S.Store.content c.args.calls.now.store.now) c.args.low.now c.args.high.now c.args.limit of)) c.rows_in.ensures.cause;
  answered = read_answered g.S.Store.answers (map entry c.items.result.now) (rw c.items.ensures c.in_ok-pairs.ensures.answers) TellsPair (λ pair damage tells. tells) c.rows_in.result c.rows_in.ensures.tells;
}

pub returns-clause-few : goal.returns-clause-few
returns-clause-few g c = few_of c.args.low.now c.args.high.now c.args.limit c.items.result.now (rw c.items.ensures c.in_ok-pairs.ensures.part) c.rows_in.result c.rows_in.ensures.long

pub returns-clause-codes : goal.returns-clause-codes
returns-clause-codes g c =
    let of : AreOfRange c.args.number Primary (g.S.Store.content c.args.calls.now.store.now) c.args.low.now c.args.high.now c.args.limit c.items.result.now =
    record { ends = c.requires.ends; part = rw c.items.ensures c.in_ok-pairs.ensures.part; are = rw c.items.ensures c.in_ok-pairs.ensures.answer } in
    IfOk-weaker c.rows_in.result _ _ (λ rows codes. codes (g.S.Store.content c.args.calls.now.store.now) c.args.low.now c.args.high.now c.args.limit of) c.rows_in.ensures.codes

pub returns-clause-answer : goal.returns-clause-answer
returns-clause-answer g c =
    let of : AreOfRange c.args.number Primary (g.S.Store.content c.args.calls.now.store.now) c.args.low.now c.args.high.now c.args.limit c.items.result.now =
    record { ends = c.requires.ends; part = rw c.items.ensures c.in_ok-pairs.ensures.part; are = rw c.items.ensures c.in_ok-pairs.ensures.answer } in
    IfOk-weaker c.rows_in.result _ _ (λ rows answer. answer (g.S.Store.content c.args.calls.now.store.now) c.args.low.now c.args.high.now c.args.limit of) c.rows_in.ensures.answer
