-- A read that gives up over a content that holds rows tells no damage.
use Rattle.std.specs.Prelude.{List, Result, IfErr}
use Rattle.std.proofs.lemmas.Result.{IfErr-weaker}
use Rattle.pq_schema.specs.declared.table.Table.{Table}
use Rattle.pq_store.specs.declared.damage.Broke.{Broke}
use Rattle.pq_store.specs.declared.store.Store.{Ghosts}
use Rattle.pq_calls.specs.Calls.{seen_world}
use Rattle.pq_calls.specs.declared.calls.Calls.{Calls}
use Rattle.pq_nodes.specs.Operators.{IsSoundOverRows}
use Rattle.pq_nodes.proofs.Undamaged.{read_undamaged}
use Rattle.pq_scan.specs.Request.{StopsRead}

pub stops_undamaged : {S L A : Type 0} (s : Ghosts S L) (tables : List Table) (before after : Calls S L) (result : Result A Broke) → IfErr result (StopsRead s tables before after) → IfErr result (IsSoundOverRows (s.content before.store.now) tables)
stops_undamaged s tables before after result stops =
    IfErr-weaker result _ _ (λ error why. read_undamaged tables (seen_world s.content s.faults before) (seen_world s.content s.faults after) error why.cause) stops
