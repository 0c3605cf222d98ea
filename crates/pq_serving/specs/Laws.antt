-- What a stop scan is, as statements over queries, tables, rows and sequences.
use Rattle.std.specs.Prelude.{◌≡◌, ℕ, suc, ◌-◌, true, List, ◌∷◌, map, length, take, flat_map, Option}
use Rattle.std.specs.List.{AllByRecursion}
use Rattle.pq_base.specs.declared.value.Value.{Value}
use Rattle.pq_base.specs.Sorting.{sort_by}
use Rattle.pq_key_code.specs.KeyCode.{code_of}
use Rattle.pq_schema.specs.declared.table.Access.{Access}
use Rattle.pq_schema.specs.declared.table.Access.TheVariants.{Primary, Secondary}
use Rattle.pq_schema.specs.Sequences.{sequence_of, IsAccess, serves}
use Rattle.pq_schema.specs.Relations.{relation_at, table_of, tied_set, order_rest}
use Rattle.pq_schema.specs.Candidates.{can_stop_at}
use Rattle.pq_store.specs.Content.{key_cmp, pairs_within}
use Rattle.pq_content.specs.Pairs.{Pair, AreBeside, row_pair, entry_pair, content_pairs}
use Rattle.pq_content.specs.Tables.{Keeps}
use Rattle.pq_plan.specs.Answer.{Question, position, in_order, first_past}
use Rattle.pq_plan.specs.Meaning.{read}
use Rattle.pq_nodes.specs.Combos.{FitsTables}
use Rattle.pq_nodes.specs.Inverse.{IsRelationOf}
use Rattle.pq_nodes.specs.Operators.{IsAsked, IsCursor}
use Rattle.pq_serving.specs.Keys.{range_low, range_high}
use Rattle.pq_serving.specs.Scanning.{position_directions, passes, lying, scan}

-- an asked query, rows that keep the tables, and a relation at which a stop can stand
pub record IsScanned (q : Question) (p : ℕ) : Type 0 where
  pub asked : IsAsked q.tables q.query q.params
  pub rows : Keeps q.tables q.rows
  pub relation : IsRelationOf q.query p
  pub can : can_stop_at q.tables q.query p ≡ true

-- a sequence of the relation's table that serves the relation
abbrev pub Serves : Question → ℕ → Access → Type 0
Serves q p access =
    let table = table_of q.tables q.query p in
    IsAccess table access × (serves table (tied_set q.query p) (order_rest q.query p) (sequence_of table access) ≡ true)

-- an input has a fitting row for each relation before this one, and what predicates say of it by itself holds
pub record IsInput (q : Question) (p : ℕ) (combo : List (List Value)) : Type 0 where
  pub fits : FitsTables q.tables q.query (p - 1) combo
  pub passes : passes q p combo ≡ true

-- the merged scans of any inputs are the meaning of the stop scan
abbrev pub StopScans : Type 0
StopScans =
    (q : Question) (p : ℕ) → IsScanned q p → (access : Access) → Serves q p access
    → (after : Option (List Value)) → IsCursor q.tables q.query after
    → (k : ℕ) (inputs : List (List (List Value))) → AllByRecursion (λ combo. suc (length combo) ≡ p) inputs
    → let sequence = sequence_of (table_of q.tables q.query p) access in
    first_past q after k (in_order q (read q p inputs))
    ≡ take k (in_order q (flat_map (scan q p sequence k after) inputs))

-- the rows of an input's range are those of the entries of one range of an index that serves
abbrev pub EntryScans : Type 0
EntryScans =
    (q : Question) (p : ℕ) → IsScanned q p → (number : ℕ) → Serves q p (Secondary number)
    → (others : List Pair) → AreBeside others → (after : Option (List Value)) → IsCursor q.tables q.query after
    → (combo : List (List Value)) → IsInput q p combo
    → let t = (relation_at q.query p).table in
    let sequence = sequence_of (table_of q.tables q.query p) (Secondary number) in
    let low = 3 ∷ t ∷ number ∷ range_low q p sequence combo after in
    let high = 3 ∷ t ∷ number ∷ range_high q p sequence combo in
    pairs_within (content_pairs q.tables q.rows others) low high
    ≡ map (entry_pair t number sequence) (lying q p sequence after combo)

-- and where the primary sequence serves those of one range of the table's rows
abbrev pub RowScans : Type 0
RowScans =
    (q : Question) (p : ℕ) → IsScanned q p → Serves q p Primary
    → (others : List Pair) → AreBeside others → (after : Option (List Value)) → IsCursor q.tables q.query after
    → (combo : List (List Value)) → IsInput q p combo
    → let t = (relation_at q.query p).table in
    let table = table_of q.tables q.query p in
    let sequence = sequence_of table Primary in
    let low = 2 ∷ t ∷ range_low q p sequence combo after in
    let high = 2 ∷ t ∷ range_high q p sequence combo in
    pairs_within (content_pairs q.tables q.rows others) low high
    ≡ map (row_pair t table) (lying q p sequence after combo)

-- combinations of fitting rows of the first relations, up to this one, are in the order of their positions by
-- the codes of these
abbrev pub PositionCodes : Type 0
PositionCodes =
    (q : Question) (p : ℕ) → IsScanned q p → (combos : List (List (List Value)))
    → AllByRecursion (FitsTables q.tables q.query p) combos
    → sort_by key_cmp (λ combo. code_of (position_directions q p) (position q combo)) combos ≡ in_order q combos
