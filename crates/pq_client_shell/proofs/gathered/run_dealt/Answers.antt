use Rattle.std.proofs.Common.{refl, ap, ◌∙◌, subst}
use Rattle.std.proofs.lemmas.Result.{err_from_is_err_and}
use Rattle.std.specs.List.{AllByRecursion}
use Rattle.pq_clients.specs.Goes.{Spot}
use Rattle.pq_client_shell.proofs.Orders.{HasCalls}
use Rattle.pq_client_shell.proofs.Stepping.{hands_writes, hands_short, hands_tiny, hands_seats, clients_fit, clients_few, places_fit, ran_clients, tells_cause}
use Rattle.pq_client_shell.proofs.gathered.run_dealt.Goals as goal

pub rounds_of-rounds-requires-clause-write : goal.rounds_of-rounds-requires-clause-write
rounds_of-rounds-requires-clause-write g c = hands_writes c.args.k c.args.writes _ (c.as_slice.ensures.value ∙ c.in_ok-hands.ensures) c.args.catalog.now.tables c.requires.made

pub rounds_of-rounds-requires-clause-few : goal.rounds_of-rounds-requires-clause-few
rounds_of-rounds-requires-clause-few g c = hands_short c.args.k c.args.writes _ (c.as_slice.ensures.value ∙ c.in_ok-hands.ensures) c.requires.few

pub seat-requires-clause-few : goal.seat-requires-clause-few
seat-requires-clause-few g c = hands_tiny c.args.k c.args.writes _ c.in_ok-hands.ensures c.requires.few

pub seat-requires-clause-seats : goal.seat-requires-clause-seats
seat-requires-clause-seats g c = hands_seats c.args.k c.args.writes _ c.in_ok-hands.ensures c.requires.seats.most

pub run_clients-requires-clause-clients : goal.run_clients-requires-clause-clients
run_clients-requires-clause-clients g c = clients_fit c.args.k c.args.writes _ c.in_ok-hands.ensures c.in_ok-clients.clients c.in_ok-clients.ensures c.args.catalog.now.tables c.requires.few c.requires.made

pub run_clients-requires-clause-few : goal.run_clients-requires-clause-few
run_clients-requires-clause-few g c = clients_few c.args.k c.args.writes _ c.in_ok-hands.ensures c.in_ok-clients.clients c.in_ok-clients.ensures c.requires.seats.most c.requires.few

pub run_clients-requires-clause-places : goal.run_clients-requires-clause-places
run_clients-requires-clause-places g c =
    places_fit c.args.k c.args.writes _ c.in_ok-hands.ensures c.in_ok-clients.clients c.in_ok-clients.ensures c.items.result.now c.rounds_of-rounds.result (c.items.ensures ∙ c.in_ok-order.ensures)

pub returns-clause-ran : goal.returns-clause-ran
returns-clause-ran g c =
    ran_clients c.args.k c.args.writes _ c.in_ok-hands.ensures c.in_ok-clients.clients c.in_ok-clients.ensures c.args.catalog.now c.items.result.now c.rounds_of-rounds.result _ _ _ _ _
    c.known.ensures c.requires.seats.most c.requires.few c.requires.made (c.items.ensures ∙ c.in_ok-order.ensures) c.in_ok-ran.ensures.promises
    _ _ _ _ c.requires.uncounted (subst (AllByRecursion (HasCalls c.args.catalog.now.tables c.rounds_of-rounds.result)) c.as_slice.ensures.value c.rounds_of-rounds.ensures) c.in_ok-ran.ensures.turns

pub returns-clause-causes : goal.returns-clause-causes
returns-clause-causes g c = tells_cause _ _ _ refl c.in_ok-ran.ensures.calls

pub returns-in_err-ran-clause-content : goal.returns-in_err-ran-clause-content
returns-in_err-ran-clause-content g c =
    let p = err_from_is_err_and c.from_residual-in_err-ran.result c.from_residual-in_err-ran.ensures.1 in
    rw p.1 (ap (λ (s : Spot). s.told) c.in_err-ran.ensures.untouched)

pub returns-in_err-ran-clause-counts : goal.returns-in_err-ran-clause-counts
returns-in_err-ran-clause-counts g c =
    let p = err_from_is_err_and c.from_residual-in_err-ran.result c.from_residual-in_err-ran.ensures.1 in
    rw p.1 (ap (λ (s : Spot). s.used) c.in_err-ran.ensures.untouched)
