-- The pairs of the definitions.
use Rattle.std.proofs.Common.{◌≡◌, ℕ, suc, ◌+◌, ◌<◌, ◌≤◌, Bool, true, ◌&&◌, List, [], ◌∷◌, ◌++◌, length, refl, ap, arith}
use Rattle.pq_schema.specs.declared.made.Definition.{Definition}
use Rattle.pq_schema.specs.declared.table.Table.{Table}
use Rattle.pq_schema.specs.Schema.{Schema}
use Rattle.std.specs.FinMap.{is_sorted}
use Rattle.std.specs.Ordering.{is_lt}
use Rattle.std.specs.declared.cmp.Ordering.TheVariants.{Less}
use Rattle.pq_key_code.specs.KeyCode.{catalog_key}
use Rattle.pq_key_code.proofs.StoreKeys.{catalog_key_rises}
use Rattle.pq_content.specs.Pairs.{AreCatalog, Pair, AreBeside}
use Rattle.pq_tallies.specs.Counters.{AreBesideCounters}
use Rattle.pq_store.specs.Content.{key_cmp}
use Rattle.pq_catalog.specs.Stands.{catalog_from, catalog_pairs}
use Rattle.pq_content.proofs.Keys.{catalog_beside}

catalog_after : (tables : List Table) (number : ℕ) (definitions : List Definition) → AreCatalog (catalog_from tables number definitions)
catalog_after tables number [] = tt
catalog_after tables number (definition ∷ definitions) = (refl, catalog_after tables (number + 1) definitions)

pub are_catalog : (schema : Schema) → AreCatalog (catalog_pairs schema)
are_catalog schema = catalog_after schema.tables 1 schema.definitions

pub are_beside : (schema : Schema) → AreBeside (catalog_pairs schema)
are_beside schema = catalog_beside (catalog_pairs schema) (are_catalog schema)

beside_after : (tables : List Table) (number : ℕ) (definitions : List Definition) → AreBesideCounters (catalog_from tables number definitions)
beside_after tables number [] = tt
beside_after tables number (definition ∷ definitions) = (refl, beside_after tables (number + 1) definitions)

pub are_beside_counters : (schema : Schema) → AreBesideCounters (catalog_pairs schema)
are_beside_counters schema = beside_after schema.tables 1 schema.definitions

-- the key is below those of all pairs, as the order of keys has it
abbrev below_all : List ℕ → List Pair → Bool
below_all k [] = true
below_all k (e ∷ es) = is_lt (key_cmp k e.0) && below_all k es

-- the keys of the definitions rise
below_from : (tables : List Table) (k number : ℕ) (definitions : List Definition) → k < number → number + length definitions ≤ 65536 → below_all (catalog_key k) (catalog_from tables number definitions) ≡ true
below_from tables k number [] less few = refl
below_from tables k number (definition ∷ definitions) less few =
    let rises : key_cmp (catalog_key k) (catalog_key number) ≡ Less = catalog_key_rises k number less (omega arith) in
    rw rises (below_from tables k (number + 1) definitions (omega arith) (omega arith))

rises_from : (tables : List Table) (number : ℕ) (definitions : List Definition) → number + length definitions ≤ 65536 → is_sorted key_cmp (catalog_from tables number definitions) ≡ true
rises_from tables number [] few = refl
rises_from tables number (definition ∷ definitions) few =
    rw (below_from tables number (number + 1) definitions (omega arith) (omega arith)) (rises_from tables (number + 1) definitions (omega arith))

pub catalog_rises : (schema : Schema) → length schema.definitions ≤ 256 → is_sorted key_cmp (catalog_pairs schema) ≡ true
catalog_rises schema few = rises_from schema.tables 1 schema.definitions (omega arith)

catalog_length : (tables : List Table) (number : ℕ) (definitions : List Definition) → length (catalog_from tables number definitions) ≡ length definitions
catalog_length tables number [] = refl
catalog_length tables number (definition ∷ definitions) = ap suc (catalog_length tables (number + 1) definitions)

pub pairs_length : (schema : Schema) → length (catalog_pairs schema) ≡ length schema.definitions
pairs_length schema = catalog_length schema.tables 1 schema.definitions

-- pairs of the same keys rise alike
below_alike : (x : List ℕ) (front : List Pair) (k u v : List ℕ) → below_all x (front ++ (k, u) ∷ []) ≡ below_all x (front ++ (k, v) ∷ [])
below_alike x [] k u v = refl
below_alike x (e ∷ es) k u v = ap (λ b. is_lt (key_cmp x e.0) && b) (below_alike x es k u v)

pub sorted_alike : (front : List Pair) (k u v : List ℕ) → is_sorted key_cmp (front ++ (k, u) ∷ []) ≡ is_sorted key_cmp (front ++ (k, v) ∷ [])
sorted_alike [] k u v = refl
sorted_alike (e ∷ es) k u v = λ i. below_alike e.0 es k u v i && sorted_alike es k u v i
