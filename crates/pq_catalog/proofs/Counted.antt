-- The counters' pairs, which stand in front of the catalog's.
use Rattle.std.proofs.Common.{◌≡◌, ℕ, false, List, [], length, Option, None, sym, ap, ◌∙◌, subst, arith}
use Rattle.std.specs.FinMap.{find}
use Rattle.pq_base.proofs.Members.{keep_all}
use Rattle.pq_base.specs.declared.value.Value.{Value}
use Rattle.pq_builds.specs.Filling.{row_pairs_in}
use Rattle.pq_schema.specs.Schema.{Schema}
use Rattle.pq_store.specs.Content.{key_cmp, Content}
use Rattle.pq_content.specs.Pairs.{AreBeside, AreOfCounters, is_of_counters}
use Rattle.pq_content.specs.Tables.{Keeps, rows_of}
use Rattle.pq_content.proofs.Find.{find_rest}
use Rattle.pq_content.proofs.Keys.{both_beside, counters_beside, not_in_counters}
use Rattle.pq_content.proofs.Scans.{rows_counted}
use Rattle.pq_tallies.specs.Counters.{HoldsCounted}
use Rattle.pq_tallies.specs.Defined.{counters_in}
use Rattle.pq_tallies.proofs.Told.{of_counters}
use Rattle.pq_catalog.specs.Model.{Model}
use Rattle.pq_catalog.specs.Stands.{HoldsModel, Stands, content_of, catalog_pairs, others_of, pairs_counted}
use Rattle.pq_catalog.proofs.Catalogs.{are_beside, are_beside_counters}

pub counted_space : (m : Model) → AreOfCounters (pairs_counted m)
counted_space m = of_counters m.rows (counters_in m.schema)

pub others_beside : (m : Model) → AreBeside (others_of m)
others_beside m = both_beside (pairs_counted m) (catalog_pairs m.schema) (counters_beside (pairs_counted m) (counted_space m)) (are_beside m.schema)

-- a key of no counter that the catalog doesn't have
pub absent_beside : (m : Model) (key : List ℕ) → is_of_counters key ≡ false → find key_cmp key (catalog_pairs m.schema) ≡ None → find key_cmp key (others_of m) ≡ None
absent_beside m key apart none =
    find_rest key_cmp key (pairs_counted m) (catalog_pairs m.schema) (not_in_counters (pairs_counted m) key (counted_space m) apart) ∙ none

-- ---- what is told of the rows and the counters

holds_counted : (old : Option Content) (m : Model) → HoldsModel old m → HoldsCounted old m.schema m.rows (catalog_pairs m.schema)
unfolding content_of
holds_counted old m s = record { keeps = s.keeps; few = s.few; beside = are_beside_counters m.schema; is = s.told }

pub settled_counted : (old : Option Content) (schema : Schema) (m : Model) → Stands old schema m → HoldsCounted old schema m.rows (catalog_pairs schema)
settled_counted old schema m s = subst (λ (x : Schema). HoldsCounted old x m.rows (catalog_pairs x)) (sym s.known) (holds_counted old m s.settled)

-- a range has a pair for each row of a table
pub rows_found : (m : Model) (t : ℕ) → Keeps m.schema.tables m.rows → length (row_pairs_in t (content_of m)) ≡ length (rows_of t m.rows)
unfolding content_of
rows_found m t keeps =
    rows_counted m.schema.tables m.rows (others_of m) keeps.fit keeps.apart (others_beside m) t [] tt (omega arith)
    ∙ ap (λ (rows : List (List Value)). length rows) (keep_all (rows_of t m.rows))
