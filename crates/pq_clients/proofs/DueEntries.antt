-- The entries at a key that a client holds are just those of the row present and those that are due.
use Rattle.std.proofs.Common.{◌≡◌, ◌||◌, List, Option, None, ap, ◌∙◌}
use Rattle.pq_schema.specs.declared.table.Table.{Table}
use Rattle.pq_content.specs.Pairs.{Pair}
use Rattle.pq_content.specs.Tables.{Rows}
use Rattle.pq_clients.specs.declared.outcome.Outcome.{Outcome}
use Rattle.pq_clients.specs.Flights.{flight_key}
use Rattle.pq_clients.specs.Clients.{View}
use Rattle.pq_clients.specs.Runs.{Event}
use Rattle.pq_clients.specs.Promises.{Begins, reached, HasDueEntries}
use Rattle.pq_clients.specs.Invariant.{Holds, hold_of, stance_at, stance_of, has_code_entry, is_due, is_there, present_of}
use Rattle.pq_clients.proofs.Basics.{same_tests}
use Rattle.pq_clients.proofs.Flying.{local_of}
use Rattle.pq_clients.proofs.Throughout.{holding}
use Rattle.pq_clients.proofs.Whole.{own_stance, stances_of}

module _ (tables : List Table) (rows : Rows) (pairs : List Pair) (clients : List View) (b : Begins tables rows pairs clients) where
  pub due_entries : (events : List Event) → HasDueEntries tables (reached tables rows pairs clients events)
  due_entries events p v f stage here unbroken flying e names =
      let r = reached tables rows pairs clients events in
      let h = holding tables rows pairs clients b events in
      let holds : stance_of tables v ≡ Holds (hold_of tables v.at f stage) =
      ap (λ (o : Option Outcome). stance_at tables v.at o v.next) unbroken ∙ ap (stance_at tables v.at None) flying in
      let loc = local_of tables r.content (stances_of tables r.clients) v.number v.at f stage h.good (own_stance tables r.clients p v h.differ here ∙ holds) in
      same_tests (is_there r.content e) (has_code_entry tables (flight_key tables f) (present_of tables f stage) e || is_due tables f stage e)
      (loc.upper e names) (loc.lower e names)
