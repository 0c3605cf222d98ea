-- What a limit range goes over, and what it finds behind its inputs.
use Rattle.std.specs.Prelude.{◌≡◌, ◌≤◌, ◌<◌, ◌+◌, ◌*◌, ℕ, cond, List, [], ◌∷◌, ◌++◌, length, map, get_or, zip, Option, None, Some, IfSome, IsPermutation}
use Rattle.std.specs.List.{AllByRecursion}
use Rattle.pq_base.specs.Members.{In}
use Rattle.pq_base.specs.Values.{AllFit, has_null}
use Rattle.pq_base.specs.declared.value.Value.{Value}
use Rattle.pq_key_code.specs.KeyCode.{past_code}
use Rattle.pq_schema.specs.declared.table.Access.{Access}
use Rattle.pq_schema.specs.declared.table.Access.TheVariants.{Primary}
use Rattle.pq_schema.specs.declared.table.Limit.{Limit}
use Rattle.pq_schema.specs.declared.table.Table.{Table}
use Rattle.pq_schema.specs.declared.query.Query.{Query}
use Rattle.pq_schema.specs.Relations.{relation_at, table_of}
use Rattle.pq_schema.specs.Rows.{Rows, rows_of, types_of}
use Rattle.pq_schema.specs.Sequences.{sequence_of}
use Rattle.pq_schema.specs.Tables.{table_at}
use Rattle.pq_store.specs.Content.{Content}
use Rattle.pq_store.specs.Rounds.{ArePairsOf, IsPartAsked}
use Rattle.pq_store.specs.declared.store.Ends.{Ends}
use Rattle.pq_store.specs.declared.store.Pair.{Pair as StoredPair}
use Rattle.pq_calls.specs.Keys.{sequence_key, sequence_types}
use Rattle.pq_content.specs.Pairs.{Pair, HoldsRows}
use Rattle.pq_content.specs.Tables.{first_columns, values_of}
use Rattle.pq_plan.specs.Answer.{question}
use Rattle.pq_plan.specs.Nodes.{Node, limit_range}
use Rattle.pq_plan.specs.Running.{ranged, limit_columns}
use Rattle.pq_nodes.specs.Inverse.{node_limit_at}
use Rattle.pq_nodes.specs.Operators.{IsReadyNode}
use Rattle.pq_operands.specs.Ties.{cells_tied}
use Rattle.pq_entries.specs.Entries.{OfEachRange, AreRowsWithin, AreKeysWithin, AreSequenceRows, AreFirstRows, AreFirstValues, IsKeyThere}
use Rattle.pq_scan.specs.declared.request.Request.{Request}
use Rattle.pq_scan.specs.Scanned.{AreReadOf}
use Rattle.pq_index_scan.specs.declared.limit.Entries.{Entries}
use Rattle.pq_index_scan.specs.declared.limit.LimitRange.{LimitRange}

-- the limit of a relation's table
abbrev pub own_limit : List Table → Query → ℕ → ℕ → Limit
own_limit tables query rel limit = node_limit_at (table_of tables query rel) limit

-- the node that reads a relation under a limit, with the limit's n
abbrev pub limit_node : List Table → Query → ℕ → ℕ → Access → Node
limit_node tables query rel limit access = limit_range rel limit (own_limit tables query rel limit).n access

-- the range is that of such a node
pub record IsRangeOf (tables : List Table) (query : Query) (range : LimitRange) : Type 0 where
  pub ready : IsReadyNode tables query (limit_node tables query range.rel range.limit range.access)
  pub number : range.number ≡ (relation_at query range.rel).table
  pub n : range.n ≡ (own_limit tables query range.rel range.limit).n
  pub first : range.first ≡ first_columns (sequence_of (table_of tables query range.rel) range.access)
      (own_limit tables query range.rel range.limit).cols

-- the beginning of the keys of the range behind an input: the tied values of its first columns
abbrev pub first_of_range : List Table → Query → List Value → LimitRange → List (List Value) → List ℕ
first_of_range tables query params range input =
    sequence_key range.number (table_of tables query range.rel) range.access
    (cells_tied query params range.rel input range.first)

-- the ends of the range behind an input; none where a tied value is NULL
abbrev pub ends_behind : List Table → Query → List Value → LimitRange → List (List Value) → Option Ends
ends_behind tables query params range input =
    let low = first_of_range tables query params range input in
    cond (has_null (cells_tied query params range.rel input range.first)) None
    (Some (record { low = low; high = past_code low }))

-- ---- what is read of any content

-- the rows of the range behind an input, as a content has them; none where a tied value is NULL
abbrev pub AreRowsBehind : List Table → Query → List Value → LimitRange → List (List Value) → List (List Value)
    → Content → Type 0
AreRowsBehind tables query params range input rows content =
    AreReadOf (λ low high. AreSequenceRows range.number (table_at tables range.number) range.access low high range.n)
    (ends_behind tables query params range input) rows content

-- each input followed by each row of the range behind it: one input after the other, and behind one in the order of
-- the range
abbrev pub AreFollowed : List Table → Query → List Value → LimitRange → List (List (List Value))
    → List (List (List Value)) → Content → Type 0
AreFollowed tables query params range [] found content = found ≡ []
AreFollowed tables query params range (input ∷ inputs) found content =
    (rows : List (List Value)) × (rest : List (List (List Value)))
    × AreRowsBehind tables query params range input rows content
    × (found ≡ map (λ row. input ++ row ∷ []) rows ++ rest)
    × AreFollowed tables query params range inputs rest content

-- the range of a node
abbrev pub node_range : List Table → Query → ℕ → ℕ → Access → LimitRange
node_range tables query rel limit access =
    let own = own_limit tables query rel limit in
    record {
      rel = rel;
      limit = limit;
      number = (relation_at query rel).table;
      access = access;
      n = own.n;
      first = first_columns (sequence_of (table_of tables query rel) access) own.cols;
    }

-- the same for the range of a node
abbrev pub AreRanged : List Table → Query → List Value → ℕ → ℕ → Access → List (List (List Value))
    → List (List (List Value)) → Content → Type 0
AreRanged tables query params rel limit access inputs found content =
    AreFollowed tables query params (node_range tables query rel limit access) inputs found content

-- the values of the entries of the range behind an input
abbrev pub AreValuesBehind : List Table → Query → List Value → LimitRange → List (List Value) → List (List Value)
    → Content → Type 0
AreValuesBehind tables query params range input values content =
    AreReadOf (λ low high. AreKeysWithin range.number (table_at tables range.number) range.access low high range.n)
    (ends_behind tables query params range input) values content

-- the entries of the ranges behind inputs from a place on, each with the place of its input
abbrev pub AreEntriesFrom : List Table → Query → List Value → LimitRange → ℕ → List (List (List Value)) → Entries
    → Content → Type 0
AreEntriesFrom tables query params range place [] entries content = (entries.places ≡ []) × (entries.values ≡ [])
AreEntriesFrom tables query params range place (input ∷ inputs) entries content =
    (values : List (List Value)) × (rest : Entries)
    × AllByRecursion (AllFit (sequence_types (table_at tables range.number) range.access)) values
    × AreValuesBehind tables query params range input values content
    × (entries.places ≡ map (λ held. place) values ++ rest.places) × (entries.values ≡ values ++ rest.values)
    × AreEntriesFrom tables query params range (place + 1) inputs rest content

-- ---- what a round answers, and what is read of it

-- pairs of a store that were answered for the range behind an input
pub record IsPartBehind (told : Option Content) (tables : List Table) (query : Query) (params : List Value)
    (range : LimitRange) (input : List (List Value)) (part : List StoredPair) : Type 0 where
  pub asked : IsPartAsked range.n (ends_behind tables query params range input) part
  pub are : ArePairsOf told range.n (ends_behind tables query params range input) part

-- the rows that are read of a part, each behind the input, come behind what was there
pub record FollowsPart (tables : List Table) (t : ℕ) (input : List (List Value)) (part : List StoredPair)
    (before after : List (List (List Value))) : Type 0 where
  pub rows : List (List Value)
  pub long : length rows ≡ length part
  pub fit : AllByRecursion (AllFit (types_of (table_at tables t))) rows
  pub first : OfEachRange t Primary part (λ told low high limit.
      IfSome told (AreFirstRows t (table_at tables t) low high limit rows))
  pub codes : OfEachRange t Primary part (λ told low high limit.
      IfSome told (AreRowsWithin (table_at tables t) low high limit rows))
  pub is : after ≡ before ++ map (λ row. input ++ row ∷ []) rows

-- the values that are read of a part, each with the place of its input, come behind what was there
pub record AddsPart (tables : List Table) (range : LimitRange) (place : ℕ) (part : List StoredPair)
    (before after : Entries) : Type 0 where
  pub values : List (List Value)
  pub long : length values ≡ length part
  pub fit : AllByRecursion (AllFit (sequence_types (table_at tables range.number) range.access)) values
  pub there : OfEachRange range.number range.access part (λ told low high limit.
      AllByRecursion (IsKeyThere range.number (table_at tables range.number) range.access told) values)
  pub first : OfEachRange range.number range.access part (λ told low high limit.
      IfSome told (AreFirstValues range.number (table_at tables range.number) range.access low high limit values))
  pub keys : OfEachRange range.number range.access part (λ told low high limit.
      IfSome told (AreKeysWithin range.number (table_at tables range.number) range.access low high limit values))
  pub places_are : after.places ≡ before.places ++ map (λ held. place) values
  pub values_are : after.values ≡ before.values ++ values

-- rows, each behind the input at its place
abbrev pub followed_at : List (List (List Value)) → List ℕ → List (List Value) → List (List (List Value))
followed_at inputs places rows = map (λ one. get_or inputs one.0 [] ++ one.1 ∷ []) (zip places rows)

-- the entries are those of rows that, each behind the input at its place, are what the range makes of the first
-- inputs, in some order
pub record NamesRanged (tables : List Table) (query : Query) (params : List Value) (range : LimitRange) (rows : Rows)
    (inputs first : List (List (List Value))) (entries : Entries) : Type 0 where
  pub named : List (List Value)
  pub there : AllByRecursion (λ row. In row (rows_of range.number rows)) named
  pub values : entries.values ≡ map (values_of (sequence_of (table_at tables range.number) range.access)) named
  pub made : let q = question tables query rows params in
      IsPermutation (ranged q range.rel (limit_columns q range.rel range.limit) first)
      (followed_at inputs entries.places named)

-- the entries of the ranges behind the first inputs, as a content has them
pub record AreEntriesBehind (told : Option Content) (tables : List Table) (query : Query) (params : List Value)
    (range : LimitRange) (inputs first : List (List (List Value))) (entries : Entries) : Type 0 where
  pub few : length entries.values ≤ length first * range.n
  pub alike : length entries.values ≡ length entries.places
  pub within : AllByRecursion (λ place. place < length inputs) entries.places
  pub fit : AllByRecursion (AllFit (sequence_types (table_at tables range.number) range.access)) entries.values
  pub there : AllByRecursion (IsKeyThere range.number (table_at tables range.number) range.access told) entries.values
  pub codes : IfSome told (AreEntriesFrom tables query params range 0 first entries)
  pub answer : (rows : Rows) (others : List Pair) → HoldsRows told tables rows others
      → NamesRanged tables query params range rows inputs first entries

-- over a content that holds rows, what was found is followed by what the range makes of the inputs, in some order
abbrev pub AddsRanged : Option Content → List Table → Query → List Value → ℕ → ℕ → List (List (List Value))
    → List (List (List Value)) → List (List (List Value)) → Type 0
AddsRanged told tables query params rel limit inputs before after =
    (rows : Rows) (others : List Pair) → HoldsRows told tables rows others →
    let q = question tables query rows params in
    (made : List (List (List Value))) × (after ≡ before ++ made)
    × IsPermutation (ranged q rel (limit_columns q rel limit) inputs) made

-- ---- the same for what is asked

abbrev pub limit_node_for : Request → ℕ → ℕ → Access → Node
limit_node_for request rel limit access = limit_node request.catalog.now.tables request.query.now rel limit access

abbrev pub IsRangeFor : Request → LimitRange → Type 0
IsRangeFor request range = IsRangeOf request.catalog.now.tables request.query.now range

abbrev pub first_of_range_for : Request → LimitRange → List (List Value) → List ℕ
first_of_range_for request range input =
    first_of_range request.catalog.now.tables request.query.now request.params.now range input

abbrev pub ends_for : Request → LimitRange → List (List Value) → Option Ends
ends_for request range input =
    ends_behind request.catalog.now.tables request.query.now request.params.now range input

abbrev pub IsPartFor : Option Content → Request → LimitRange → List (List Value) → List StoredPair → Type 0
IsPartFor told request range input part =
    IsPartBehind told request.catalog.now.tables request.query.now request.params.now range input part

abbrev pub AreEntriesFor : Option Content → Request → LimitRange → List (List (List Value))
    → List (List (List Value)) → Entries → Type 0
AreEntriesFor told request range inputs first entries =
    AreEntriesBehind told request.catalog.now.tables request.query.now request.params.now range inputs first entries

abbrev pub AreFollowedFor : Request → LimitRange → List (List (List Value)) → List (List (List Value)) → Content
    → Type 0
AreFollowedFor request range inputs found content =
    AreFollowed request.catalog.now.tables request.query.now request.params.now range inputs found content

abbrev pub AreRangedFor : Request → ℕ → ℕ → Access → List (List (List Value)) → List (List (List Value)) → Content
    → Type 0
AreRangedFor request rel limit access inputs found content =
    AreRanged request.catalog.now.tables request.query.now request.params.now rel limit access inputs found content

abbrev pub AddsRangedFor : Option Content → Request → LimitRange → List (List (List Value))
    → List (List (List Value)) → List (List (List Value)) → Type 0
AddsRangedFor told request range inputs before after =
    AddsRanged told request.catalog.now.tables request.query.now request.params.now range.rel range.limit inputs
    before after
