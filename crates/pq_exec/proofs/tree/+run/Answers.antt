use Rattle.std.proofs.Common.{arith}
use Rattle.std.proofs.lemmas.Result.{IfOk-weaker}
use Rattle.pq_exec.proofs.Running.{input_smaller, input_runnable, input_share, input_reads, input_rounds, tree_rounds, node_ready, node_inputs, node_share, tree_reads, tree_given, tree_found, tree_answers}
use Rattle.pq_exec.proofs.tree.+run.Goals as goal

pub run-requires : goal.run-requires
run-requires g t c κs within =
    let tables = c.args.request.now.catalog.now.tables in
    let query = c.args.request.now.query.now in
    let tree = c.args.tree.now in
    let input = c.in-Some.input.now in
    let over = c.in-Some.ensures in
    let runnable = c.requires.runnable in
    let smaller = input_smaller tables query tree input over runnable in
    (omega (arith, smaller), (within.0, (within.1, (c.requires.asked, (input_runnable tables query tree input over runnable, (c.requires.cursor, input_share tables query tree input over runnable c.args.allowance.now c.requires.share))))))

pub returns-in_err-inputs-in-Some-clause-reads : goal.returns-in_err-inputs-in-Some-clause-reads
returns-in_err-inputs-in-Some-clause-reads g t c =
    input_reads c.args.request.now.catalog.now.tables c.args.request.now.query.now c.args.tree.now c.in-Some.input.now c.in-Some.ensures c.requires.runnable _ _ c.run.ensures.reads

pub run_node-requires-clause-ready : goal.run_node-requires-clause-ready
run_node-requires-clause-ready g t c =
    node_ready c.args.request.now.catalog.now.tables c.args.request.now.query.now c.args.tree.now c.in-Some.input.now c.in-Some.ensures c.requires.runnable

pub run_node-requires-clause-inputs : goal.run_node-requires-clause-inputs
run_node-requires-clause-inputs g t c =
    node_inputs c.args.request.now.catalog.now.tables c.args.request.now.query.now c.args.tree.now c.in-Some.input.now c.in-Some.ensures c.requires.runnable
    c.in_ok-inputs-in-Some.inputs c.in_ok-inputs-in-Some.ensures.given

pub run_node-requires-clause-share : goal.run_node-requires-clause-share
run_node-requires-clause-share g t c =
    node_share c.args.request.now.catalog.now.tables c.args.request.now.query.now c.args.tree.now c.in-Some.input.now c.in-Some.ensures c.requires.runnable
    c.in_ok-inputs-in-Some.inputs _ _ c.in_ok-inputs-in-Some.ensures.given c.requires.share c.run.ensures.reads

pub returns-in_ok-inputs-in-Some-clause-answer : goal.returns-in_ok-inputs-in-Some-clause-answer
returns-in_ok-inputs-in-Some-clause-answer g t c =
    IfOk-weaker c.run_node.result _ _ (λ found h.
    tree_answers c.args.request.now.catalog.now.tables c.args.request.now.query.now c.args.tree.now c.in-Some.input.now c.in-Some.ensures c.requires.runnable
    c.args.request.now.params.now _ _ _ _ _ c.in_ok-inputs-in-Some.inputs found c.run.ensures.reads c.in_ok-inputs-in-Some.ensures.answer h) c.run_node.ensures.answer

pub returns-in_ok-inputs-in-Some-clause-reads : goal.returns-in_ok-inputs-in-Some-clause-reads
returns-in_ok-inputs-in-Some-clause-reads g t c =
    tree_reads c.args.request.now.catalog.now.tables c.args.request.now.query.now c.args.tree.now c.in-Some.input.now c.in-Some.ensures c.requires.runnable
    c.in_ok-inputs-in-Some.inputs _ _ _ c.in_ok-inputs-in-Some.ensures.given c.run.ensures.reads c.run_node.ensures.reads

pub returns-in_ok-inputs-in-Some-clause-given : goal.returns-in_ok-inputs-in-Some-clause-given
returns-in_ok-inputs-in-Some-clause-given g t c =
    IfOk-weaker c.run_node.result _ _ (λ found h.
    tree_given c.args.request.now.catalog.now.tables c.args.request.now.query.now c.args.tree.now c.in-Some.input.now c.in-Some.ensures c.requires.runnable
    c.in_ok-inputs-in-Some.inputs found c.in_ok-inputs-in-Some.ensures.given h) c.run_node.ensures.given

pub returns-in_ok-inputs-in-Some-clause-codes : goal.returns-in_ok-inputs-in-Some-clause-codes
returns-in_ok-inputs-in-Some-clause-codes g t c =
    tree_found c.args.request.now.catalog.now.tables c.args.request.now.query.now c.args.tree.now c.in-Some.input.now c.in-Some.ensures c.requires.runnable
    c.args.request.now.params.now _ _ _ c.in_ok-inputs-in-Some.inputs c.run_node.result c.run.ensures.reads.same c.in_ok-inputs-in-Some.ensures.codes c.run_node.ensures.codes c.run_node.ensures.given

pub returns-in_err-inputs-in-Some-clause-rounds : goal.returns-in_err-inputs-in-Some-clause-rounds
returns-in_err-inputs-in-Some-clause-rounds g t c =
    input_rounds c.args.tree.now c.in-Some.input.now c.in-Some.ensures _ _ c.run.ensures.rounds

pub returns-in_ok-inputs-in-Some-clause-rounds : goal.returns-in_ok-inputs-in-Some-clause-rounds
returns-in_ok-inputs-in-Some-clause-rounds g t c =
    tree_rounds c.args.tree.now c.in-Some.input.now c.in-Some.ensures _ _ _ c.run.ensures.rounds c.run_node.ensures.rounds
