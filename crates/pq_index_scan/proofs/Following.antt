-- Inputs that are followed by the rows of their ranges, one after the other.
use Rattle.std.proofs.Common.{◌≡◌, ℕ, ◌+◌, ◌-◌, ◌*◌, ◌<◌, ◌≤◌, false, List, [], ◌∷◌, ◌++◌, length, get_or, map, take, Option, None, IsPermutation, sym, ap, ◌∙◌, subst, arith}
use Rattle.std.specs.Prelude.{Result, Ok, Err, IfOk, IfSome}
use Rattle.std.specs.List.{AllByRecursion}
use Rattle.std.proofs.lemmas.Grind.{flat_map-append}
use Rattle.std.proofs.lemmas.List.{append-nil, length-append, length-map, take_more}
use Rattle.std.proofs.lemmas.List.Sorted.{IsPermutation-append, IsPermutation-map}
use Rattle.pq_base.specs.Values.{AllFit}
use Rattle.pq_base.specs.declared.value.Value.{Value}
use Rattle.pq_base.proofs.Members.{each_append}
use Rattle.pq_schema.specs.declared.table.Access.{Access}
use Rattle.pq_schema.specs.declared.table.Access.TheVariants.{Secondary}
use Rattle.pq_schema.specs.declared.table.Table.{Table}
use Rattle.pq_schema.specs.declared.query.Query.{Query}
use Rattle.pq_base.specs.declared.number.Bound.{Bound}
use Rattle.pq_schema.specs.Costs.{times, limit_cost}
use Rattle.pq_schema.specs.Relations.{relation_at, table_of}
use Rattle.pq_schema.specs.Rows.{Rows, types_of}
use Rattle.pq_schema.specs.Sequences.{sequence_of}
use Rattle.pq_store.specs.Content.{Content}
use Rattle.pq_store.specs.Counts.{AllowedCounts}
use Rattle.pq_store.specs.declared.damage.Broke.{Broke}
use Rattle.pq_store.specs.declared.store.Store.{Ghosts}
use Rattle.pq_calls.specs.World.{Affords}
use Rattle.pq_calls.specs.declared.calls.Calls.{Calls}
use Rattle.pq_content.specs.Pairs.{Pair, HoldsRows}
use Rattle.pq_content.specs.Tables.{first_columns}
use Rattle.pq_plan.specs.Answer.{Question, question}
use Rattle.pq_plan.specs.Cost.{is_primary_access}
use Rattle.pq_plan.specs.Running.{matching, ranged, limit_columns}
use Rattle.pq_nodes.specs.Combos.{FitsTables}
use Rattle.pq_nodes.specs.Operators.{AreInputs, AffordsNode, AreFound, AnswersNode}
use Rattle.pq_nodes.specs.Paid.{node_cost}
use Rattle.pq_nodes.specs.Rounds.{access_rounds}
use Rattle.pq_scan.specs.Request.{Spends, SpendsNode}
use Rattle.pq_index_scan.specs.declared.limit.LimitRange.{LimitRange}
use Rattle.pq_index_scan.specs.Ranged.{own_limit, limit_node, node_range, IsRangeOf, AreFollowed, AreRanged, AddsRanged}
use Rattle.pq_index_scan.proofs.Ranging.{fits_next}

-- ---- one input

pub follow_few : {X Y : Type 0} (f : X → Y) (old : List Y) (rows : List X) (n : ℕ) → length rows ≤ n → length (old ++ map f rows) ≤ length old + n
follow_few f old rows n few =
    let both = length-append old (map f rows) in
    let same = length-map rows f in
    omega (arith, both, same, few)

pub follow_fit : (tables : List Table) (query : Query) (rel : ℕ) → 1 ≤ rel → (input : List (List Value)) → FitsTables tables query (rel - 1) input → (old : List (List (List Value))) (rows : List (List Value)) → AllByRecursion (AllFit (types_of (table_of tables query rel))) rows → AllByRecursion (FitsTables tables query rel) old → AllByRecursion (FitsTables tables query rel) (old ++ map (λ row. input ++ row ∷ []) rows)
follow_fit tables query rel low input fits old rows fit all =
    each_append (FitsTables tables query rel) old (map (λ row. input ++ row ∷ []) rows) all (each rows fit)
  where
    each : (rows : List (List Value)) → AllByRecursion (AllFit (types_of (table_of tables query rel))) rows → AllByRecursion (FitsTables tables query rel) (map (λ row. input ++ row ∷ []) rows)
    each [] fit = tt
    each (row ∷ rows) fit = (fits_next tables query rel low input row fits fit.0, each rows fit.1)

-- over a content that holds rows, the rows that have the tied values at the limit's columns, in some order
abbrev pub AreMatching : Option Content → List Table → Query → List Value → ℕ → ℕ → List (List Value) → List (List Value) → Type 0
AreMatching told tables query params rel limit input found =
    (rows : Rows) (others : List Pair) → HoldsRows told tables rows others →
    let q = question tables query rows params in IsPermutation (matching q rel (limit_columns q rel limit) input) found

-- ---- one input after another

pub ranged_more : (q : Question) (rel : ℕ) (cols : List ℕ) (inputs : List (List (List Value))) (input : List (List Value)) → ranged q rel cols (inputs ++ input ∷ []) ≡ ranged q rel cols inputs ++ map (λ row. input ++ row ∷ []) (matching q rel cols input)
ranged_more q rel cols inputs input =
    flat_map-append (λ combo. map (λ row. combo ++ row ∷ []) (matching q rel cols combo)) inputs (input ∷ [])
    ∙ ap (λ (l : List (List (List Value))). ranged q rel cols inputs ++ l) (append-nil (map (λ row. input ++ row ∷ []) (matching q rel cols input)))

-- what the first inputs give, and what one more gives, in some order
pub ranged_then : (q : Question) (rel : ℕ) (cols : List ℕ) (inputs : List (List (List Value))) (input : List (List Value)) (made : List (List (List Value))) (found : List (List Value)) → IsPermutation (ranged q rel cols inputs) made → IsPermutation (matching q rel cols input) found
    → IsPermutation (ranged q rel cols (inputs ++ input ∷ [])) (made ++ map (λ row. input ++ row ∷ []) found)
ranged_then q rel cols inputs input made found h k =
    let f = λ (row : List Value). input ++ row ∷ [] in
    subst (λ (l : List (List (List Value))). IsPermutation l (made ++ map f found)) (sym (ranged_more q rel cols inputs input))
    (IsPermutation-append (ranged q rel cols inputs) made (map f (matching q rel cols input)) (map f found) h (IsPermutation-map f (matching q rel cols input) found k))

module _ (told : Option Content) (tables : List Table) (query : Query) (params : List Value) (rel limit : ℕ) where
  pub next_ranged : (inputs : List (List (List Value))) (input : List (List Value)) (found after : List (List (List Value))) (rows : List (List Value)) → AreMatching told tables query params rel limit input rows → after ≡ found ++ map (λ row. input ++ row ∷ []) rows → AddsRanged told tables query params rel limit inputs [] found → AddsRanged told tables query params rel limit (inputs ++ input ∷ []) [] after
  next_ranged inputs input found after matched more is h = λ rows others holds.
      let q = question tables query rows params in
      let so_far = h rows others holds in (
        so_far.0 ++ map (λ row. input ++ row ∷ []) matched,
        is ∙ ap (λ (l : List (List (List Value))). l ++ map (λ row. input ++ row ∷ []) matched) so_far.1,
        ranged_then q rel (limit_columns q rel limit) inputs input so_far.0 matched so_far.2 (more rows others holds),
      )

-- the first inputs and the next one
pub first_more : {X : Type 0} (inputs : List X) (i : ℕ) (input : X) → i < length inputs → input ≡ get_or inputs i input → take (i + 1) inputs ≡ take i inputs ++ input ∷ []
first_more inputs i input low at = take_more inputs i input low ∙ ap (λ x. take i inputs ++ x ∷ []) (sym at)

module _ (tables : List Table) (query : Query) (range : LimitRange) (is : IsRangeOf tables query range) where
  pub range_affords : (allowed : AllowedCounts) (inputs : ℕ) → AffordsNode allowed inputs (limit_node tables query range.rel range.limit range.access) → Affords allowed (inputs * (limit_cost (is_primary_access range.access) range.n).ops) (inputs * (limit_cost (is_primary_access range.access) range.n).entries)
  range_affords allowed inputs left = subst (λ (n : ℕ). Affords allowed (inputs * (limit_cost (is_primary_access range.access) n).ops) (inputs * (limit_cost (is_primary_access range.access) n).entries)) (sym is.n) left

  -- what the range costs in a sequence of an index
  module _ (index : ℕ) (secondary : range.access ≡ Secondary index) where
    index_cost : limit_cost (is_primary_access range.access) range.n ≡ limit_cost false range.n
    index_cost = ap (λ (a : Access). limit_cost (is_primary_access a) range.n) secondary

    ops_are : (inputs : ℕ) → inputs * (1 + range.n) ≡ inputs + inputs * range.n
    ops_are inputs = omega arith

    entries_are : (inputs : ℕ) → inputs * (2 * range.n) ≡ inputs * range.n + inputs * range.n
    entries_are inputs = omega arith

    pub secondary_share : (allowed : AllowedCounts) (inputs : ℕ) → AffordsNode allowed inputs (limit_node tables query range.rel range.limit range.access) → Affords allowed (inputs + inputs * range.n) (inputs * range.n + inputs * range.n)
    secondary_share allowed inputs h =
        let left : Affords allowed (inputs * (1 + range.n)) (inputs * (2 * range.n)) = subst (λ (b : Bound). Affords allowed (inputs * b.ops) (inputs * b.entries)) index_cost (range_affords allowed inputs h) in
        subst (λ (ops : ℕ). Affords allowed ops (inputs * range.n + inputs * range.n)) (ops_are inputs)
        (subst (λ (entries : ℕ). Affords allowed (inputs * (1 + range.n)) entries) (entries_are inputs) left)

    pub secondary_spends : {S L : Type 0} (s : Ghosts S L) (a b : Calls S L) (inputs : ℕ) → Spends s a b (inputs + inputs * range.n) (inputs * range.n + inputs * range.n) 2 → Spends s a b (inputs * (limit_cost (is_primary_access range.access) range.n).ops) (inputs * (limit_cost (is_primary_access range.access) range.n).entries) (access_rounds range.access)
    secondary_spends s a b inputs h =
        subst (λ (access : Access). Spends s a b (inputs * (limit_cost (is_primary_access access) range.n).ops) (inputs * (limit_cost (is_primary_access access) range.n).entries) (access_rounds access)) (sym secondary)
        (subst (λ (ops : ℕ). Spends s a b ops (inputs * (2 * range.n)) 2) (sym (ops_are inputs))
        (subst (λ (entries : ℕ). Spends s a b (inputs + inputs * range.n) entries 2) (sym (entries_are inputs)) h))

  -- ---- the node's clauses, from those of its range

  module _ (rel limit : ℕ) (access : Access) (own_rel : range.rel ≡ rel) (own_limit_is : range.limit ≡ limit) (own_access : range.access ≡ access) where
    own_n : range.n ≡ (own_limit tables query rel limit).n
    own_n = is.n ∙ (λ i. (own_limit tables query (own_rel i) (own_limit_is i)).n)

    node_is : range ≡ node_range tables query rel limit access
    node_is =
        let number : range.number ≡ (relation_at query rel).table = is.number ∙ ap (λ (r : ℕ). (relation_at query r).table) own_rel in
        let first : range.first ≡ first_columns (sequence_of (table_of tables query rel) access) (own_limit tables query rel limit).cols =
        is.first ∙ (λ i. first_columns (sequence_of (table_of tables query (own_rel i)) (own_access i)) (own_limit tables query (own_rel i) (own_limit_is i)).cols) in
        λ i. record { rel = own_rel i; limit = own_limit_is i; number = number i; access = own_access i; n = own_n i; first = first i }

    pub node_codes : (told : Option Content) (params : List Value) (inputs : List (List (List Value))) (result : Result (List (List (List Value))) Broke) → IfOk result (λ found. IfSome told (AreFollowed tables query params range inputs found)) → IfOk result (λ found. IfSome told (AreRanged tables query params rel limit access inputs found))
    node_codes told params inputs result h = subst (λ (r : LimitRange). IfOk result (λ found. IfSome told (AreFollowed tables query params r inputs found))) node_is h

    pub node_cost_is : (inputs : ℕ) → times inputs (limit_cost (is_primary_access range.access) range.n) ≡ node_cost inputs (limit_node tables query rel limit access)
    node_cost_is inputs = λ i. times inputs (limit_cost (is_primary_access (own_access i)) (own_n i))

    pub node_inputs : (inputs : List (List (List Value))) → AreInputs tables query rel inputs → AreInputs tables query range.rel inputs
    node_inputs inputs h = subst (λ (r : ℕ). AreInputs tables query r inputs) (sym own_rel) h

    pub node_share : (allowed : AllowedCounts) (inputs : ℕ) → AffordsNode allowed inputs (limit_node tables query rel limit access) → AffordsNode allowed inputs (limit_node tables query range.rel range.limit range.access)
    node_share allowed inputs h =
        let same : node_cost inputs (limit_node tables query rel limit access) ≡ node_cost inputs (limit_node tables query range.rel range.limit range.access) =
        sym (node_cost_is inputs) ∙ (λ i. times inputs (limit_cost (is_primary_access range.access) (is.n i))) in
        subst (λ (b : Bound). Affords allowed b.ops b.entries) same h

    pub node_spends : {S L : Type 0} (s : Ghosts S L) (a b : Calls S L) (inputs : ℕ) → Spends s a b (inputs * (limit_cost (is_primary_access range.access) range.n).ops) (inputs * (limit_cost (is_primary_access range.access) range.n).entries) (access_rounds range.access) → SpendsNode s a b inputs (limit_node tables query rel limit access)
    node_spends s a b inputs h =
        subst (λ (c : Bound). Spends s a b c.ops c.entries (access_rounds access)) (node_cost_is inputs)
        (subst (λ (x : Access). Spends s a b (inputs * (limit_cost (is_primary_access range.access) range.n).ops) (inputs * (limit_cost (is_primary_access range.access) range.n).entries) (access_rounds x)) own_access h)

    pub node_found : (inputs : ℕ) (result : Result (List (List (List Value))) Broke) → IfOk result (λ found. length found ≤ inputs * range.n) → IfOk result (AllByRecursion (FitsTables tables query range.rel)) → IfOk result (AreFound tables query rel inputs (limit_node tables query rel limit access))
    node_found inputs (Err error) few fit = tt
    node_found inputs (Ok found) few fit = record {
      few = subst (λ (n : ℕ). length found ≤ inputs * n) own_n few;
      fit = subst (λ (r : ℕ). AllByRecursion (FitsTables tables query r) found) own_rel fit;
    }

    pub node_answers : (told : Option Content) (params : List Value) (inputs : List (List (List Value))) (result : Result (List (List (List Value))) Broke) → IfOk result (AddsRanged told tables query params range.rel range.limit inputs []) → IfOk result (AnswersNode told tables query params None inputs (limit_node tables query rel limit access))
    node_answers told params inputs (Err error) h = tt
    node_answers told params inputs (Ok found) h = λ rows others holds.
        let q = question tables query rows params in
        let own : AddsRanged told tables query params rel limit inputs [] found =
        subst (λ (m : ℕ). AddsRanged told tables query params rel m inputs [] found) own_limit_is
        (subst (λ (r : ℕ). AddsRanged told tables query params r range.limit inputs [] found) own_rel h) in
        let made = own rows others holds in
        subst (IsPermutation (ranged q rel (limit_columns q rel limit) inputs)) (sym made.1) made.2
