-- The present tables and what is told, for every schedule.
use Rattle.std.proofs.Common.{List, [], ◌∷◌, sym, ap, ◌∙◌, subst}
use Rattle.std.specs.List.{AllByRecursion}
use Rattle.std.proofs.lemmas.Bool.{false≢true}
use Rattle.pq_schema.specs.declared.table.Table.{Table}
use Rattle.pq_content.specs.Pairs.{Pair, content_pairs}
use Rattle.pq_content.specs.Tables.{Rows, row_at}
use Rattle.pq_index_keep.specs.declared.write.Write.{Write}
use Rattle.pq_clients.specs.Clients.{View}
use Rattle.pq_clients.specs.Runs.{Event, begun}
use Rattle.pq_clients.specs.Present.{rows_after_all}
use Rattle.pq_clients.specs.Promises.{IsFresh, Begins, EachFits, ShowsWrites, TellsDone, TellsInOrder, reached}
use Rattle.pq_clients.proofs.Made.{present_made}
use Rattle.pq_clients.proofs.Given.{given_same, made_by_lists}
use Rattle.pq_clients.proofs.Names.{at_hand_of, all_named, all_once}
use Rattle.pq_clients.proofs.FitsMade.{each_fits}
use Rattle.pq_clients.proofs.Stays.{held_still, finds_present}
use Rattle.pq_clients.proofs.Once.{is_past}
use Rattle.pq_clients.proofs.Listed.{run_listed, tells_done, Listed}
use Rattle.pq_clients.proofs.Ordered.{run_ordered, fresh_told, tells_in_order}
use Rattle.pq_clients.proofs.Whole.{differ_from}
use Rattle.pq_index_keep.proofs.Inserting.{each_by}

module _ (tables : List Table) where
  fresh_listed : (vs : List View) → AllByRecursion (IsFresh tables) vs → AllByRecursion (Listed tables []) vs
  unfolding is_past
  fresh_listed [] all = tt
  fresh_listed (v ∷ vs) all = (λ p. absurd (false≢true (sym (ap (λ (v : View). is_past tables v.next) all.0.fresh) ∙ p)), fresh_listed vs all.1)

  module _ (rows : Rows) (others : List Pair) (clients : List View) (b : Begins tables rows others clients) (events : List Event) where
    -- the present tables are those at entry, changed by the writes in the order of their puts; each write is put once
    pub shows_writes : ShowsWrites tables rows clients (reached tables rows others clients events)
    shows_writes = record {
      same = given_same tables events (begun (content_pairs tables rows others) clients);
      at_hand = λ p v f here is. at_hand_of tables rows others clients b events p v f here is;
      named = λ wrote i. all_named tables rows others clients b events wrote i;
      once = λ front back wrote is. all_once tables rows others clients b events front back wrote is;
      present = λ t key number kinds.
          present_made tables rows others clients b events t key number kinds
          ∙ ap (λ (ws : List Write). row_at tables (rows_after_all tables rows ws) t key) (made_by_lists tables rows others clients b events);
      fit = subst (EachFits tables rows) (made_by_lists tables rows others clients b events) (each_fits tables rows others clients b events);
      finds = λ p v f here unbroken putting. finds_present tables rows others clients b events p v f here unbroken putting;
      stays = λ p v f stage here flying by. held_still tables rows others clients b events p v f stage here flying by;
    }

    -- Done is told exactly where the free is answered with true, of a write that was put
    pub done_told : TellsDone tables (reached tables rows others clients events)
    done_told = tells_done tables (reached tables rows others clients events)
        (run_listed tables events (begun (content_pairs tables rows others) clients)
        (record { past = fresh_listed clients (each_by (IsFresh tables) clients b.fresh.each); done = tt }))

    -- each client is told of its writes one after the other
    pub told_in_order : TellsInOrder (reached tables rows others clients events)
    told_in_order = tells_in_order tables (reached tables rows others clients events)
        (run_ordered tables events (begun (content_pairs tables rows others) clients)
        (record { differ = differ_from clients b.fresh.differ; each = fresh_told tables clients (each_by (IsFresh tables) clients b.fresh.each); known = tt }))
