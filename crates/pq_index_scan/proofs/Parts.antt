-- What was answered for the range behind an input, and what is read of it.
use Rattle.std.proofs.Common.{◌≡◌, ℕ, ◌+◌, ◌-◌, ◌<◌, ◌≤◌, Bool, true, false, cond, List, [], ◌∷◌, ◌++◌, length, get_or, map, take, Option, Some, None, IsPermutation, refl, sym, ap, ◌∙◌, subst, arith}
use Rattle.std.specs.Prelude.{All, IfSome, Result, Ok, Err, IfOk}
use Rattle.std.specs.List.{AllByRecursion, AllZip}
use Rattle.std.proofs.lemmas.List.{length-map}
use Rattle.std.proofs.lemmas.List.Sorted.{IsPermutation-refl}
use Rattle.pq_base.specs.Members.{In}
use Rattle.pq_base.specs.Values.{AllFit, has_null}
use Rattle.pq_base.specs.declared.value.Value.{Value}
use Rattle.pq_base.proofs.Members.{each_weaker, each_in, each_by_in, in_take}
use Rattle.pq_key_code.specs.KeyCode.{past_code}
use Rattle.pq_schema.specs.declared.table.Access.{Access}
use Rattle.pq_schema.specs.declared.table.Access.TheVariants.{Primary}
use Rattle.pq_schema.specs.declared.table.Table.{Table}
use Rattle.pq_schema.specs.declared.query.Query.{Query}
use Rattle.pq_schema.specs.Relations.{table_of}
use Rattle.pq_schema.specs.Rows.{Rows, rows_of, types_of}
use Rattle.pq_schema.specs.Sequences.{sequence_of}
use Rattle.pq_schema.specs.Tables.{table_at}
use Rattle.pq_store.specs.Breaks.{IsAnswered}
use Rattle.pq_store.specs.Content.{Content, AreAnswers, entry, pairs_within}
use Rattle.pq_store.specs.Rounds.{ArePairsOf, IsPartAsked}
use Rattle.pq_store.specs.declared.damage.Broke.{Broke}
use Rattle.pq_store.specs.declared.damage.Broke.TheVariants.{Failed, NoMem, Damaged}
use Rattle.pq_store.specs.declared.damage.Damage.{Damage}
use Rattle.pq_store.specs.declared.store.Ends.{Ends}
use Rattle.pq_store.specs.declared.store.Pair.{Pair as StoredPair}
use Rattle.pq_calls.specs.World.{where_told}
use Rattle.pq_content.specs.Pairs.{Pair, HoldsRows, content_pairs}
use Rattle.pq_content.specs.Tables.{Keeps, values_of}
use Rattle.pq_plan.specs.Answer.{question}
use Rattle.pq_plan.specs.Running.{matching, limit_columns}
use Rattle.pq_plan.proofs.Kept.{row_fits}
use Rattle.pq_nodes.specs.Combos.{FitsTables}
use Rattle.pq_nodes.specs.Operators.{IsAsked, ShowsRead}
use Rattle.pq_operands.specs.Ties.{cells_tied}
use Rattle.pq_entries.specs.Entries.{AreOfRange, OfEachRange, AreRowsWithin, AreSequenceRows, IsUnread, OneShows, TellsPair, IsKeyThere, AreFirstRows, AreFirstValues, key_front, pair_of}
use Rattle.pq_entries.proofs.Answered.{read_answered}
use Rattle.pq_entries.proofs.Naming.{each_item}
use Rattle.pq_entries.proofs.Told.{part_long}
use Rattle.pq_entries.proofs.Zipped.{zipped_at}
use Rattle.pq_index_scan.specs.declared.limit.LimitRange.{LimitRange}
use Rattle.pq_scan.specs.Scanned.{AreReadOf}
use Rattle.pq_index_scan.specs.Ranged.{first_of_range, ends_behind, IsRangeOf, AreRowsBehind, IsPartBehind, FollowsPart, AddsRanged}
use Rattle.pq_index_scan.proofs.Following.{AreMatching, follow_few, follow_fit, next_ranged}
use Rattle.pq_index_scan.proofs.Ranging.{ends_as, range_table, none_match, has_matching}

-- ---- the answers of a round

-- one part for each input, place by place
parts_behind : (told : Option Content) (tables : List Table) (query : Query) (params : List Value) (range : LimitRange) (inputs : List (List (List Value))) (asks : List (Option Ends)) (parts : List (List StoredPair)) → asks ≡ map (ends_behind tables query params range) inputs → AllZip (ArePairsOf told range.n) asks parts → AllZip (IsPartAsked range.n) asks parts → AllZip (IsPartBehind told tables query params range) inputs parts
parts_behind told tables query params range inputs asks parts is are asked =
    each inputs parts
    (subst (λ (l : List (Option Ends)). AllZip (ArePairsOf told range.n) l parts) is are)
    (subst (λ (l : List (Option Ends)). AllZip (IsPartAsked range.n) l parts) is asked)
  where
    each : (inputs : List (List (List Value))) (parts : List (List StoredPair)) → AllZip (ArePairsOf told range.n) (map (ends_behind tables query params range) inputs) parts → AllZip (IsPartAsked range.n) (map (ends_behind tables query params range) inputs) parts → AllZip (IsPartBehind told tables query params range) inputs parts
    each [] [] are asked = tt
    each [] (part ∷ parts) are asked = absurd are
    each (input ∷ inputs) [] are asked = absurd are
    each (input ∷ inputs) (part ∷ parts) are asked = (record { asked = asked.0; are = are.0 }, each inputs parts are.1 asked.1)

pub all_behind : (told : Option Content) (tables : List Table) (query : Query) (params : List Value) (range : LimitRange) (inputs : List (List (List Value))) (asks : List (Option Ends)) → asks ≡ map (ends_behind tables query params range) inputs → (result : Result (List (List StoredPair)) Broke) → IfOk result (AllZip (ArePairsOf told range.n) asks) → IfOk result (AllZip (IsPartAsked range.n) asks) → IfOk result (AllZip (IsPartBehind told tables query params range) inputs)
all_behind told tables query params range inputs asks is (Err why) are asked = tt
all_behind told tables query params range inputs asks is (Ok parts) are asked = parts_behind told tables query params range inputs asks parts is are asked

-- the part of the input at a place, as it is seen
pub part_at : (told : Option Content) (tables : List Table) (query : Query) (params : List Value) (range : LimitRange) (inputs : List (List (List Value))) (parts items : List (List StoredPair)) (place : ℕ) (input : List (List Value)) (part now : List StoredPair) → AllZip (IsPartBehind told tables query params range) inputs parts → place < length inputs → input ≡ get_or inputs place input → items ≡ parts → part ≡ get_or items place part → now ≡ part → IsPartBehind told tables query params range input now
part_at told tables query params range inputs parts items place input part now behind low at same is seen =
    subst (IsPartBehind told tables query params range input) (sym seen)
    (zipped_at (IsPartBehind told tables query params range) inputs parts place input part behind low at (subst (λ (l : List (List StoredPair)). part ≡ get_or l place part) same is))

pub answered_at : (answers : List ℕ → Option (List ℕ) → Type 0) (inputs : List (List (List Value))) (parts items : List (List StoredPair)) (place : ℕ) (part now : List StoredPair) → AllByRecursion (AreAnswers answers) parts → length parts ≡ length inputs → place < length inputs → items ≡ parts → part ≡ get_or items place part → now ≡ part → AreAnswers answers now
answered_at answers inputs parts items place part now all long low same is seen =
    subst (AreAnswers answers) (sym seen)
    (each_item (AreAnswers answers) parts place part all (omega (arith, long, low)) (subst (λ (l : List (List StoredPair)). part ≡ get_or l place part) same is))

-- ---- one part

no_items : {X : Type 0} (xs : List X) → length xs ≡ 0 → xs ≡ []
no_items [] none = refl
no_items (x ∷ xs) none = absurd (omega (arith, none))

-- rows of a table that keeps its definition fit
rows_fit : (tables : List Table) (rows : Rows) (t : ℕ) → Keeps tables rows → (within : List (List Value)) → AllByRecursion (λ row. In row (rows_of t rows)) within → AllByRecursion (AllFit (types_of (table_at tables t))) within
rows_fit tables rows t keeps within all = each_weaker (λ row. In row (rows_of t rows)) (AllFit (types_of (table_at tables t))) (row_fits tables rows keeps.schema t) within all

-- the values are those of rows of the table, and these match
pub record PartNames (tables : List Table) (query : Query) (params : List Value) (range : LimitRange) (input : List (List Value)) (rows : Rows) (found : List (List Value)) : Type 0 where
  pub named : List (List Value)
  pub there : AllByRecursion (λ row. In row (rows_of range.number rows)) named
  pub values : found ≡ map (values_of (sequence_of (table_at tables range.number) range.access)) named
  pub matches : let q = question tables query rows params in IsPermutation (matching q range.rel (limit_columns q range.rel range.limit) input) named

-- an error of reading no pairs is want of memory
none_unread : (shows : Damage → Type 0) (why : Broke) → IsUnread (OneShows TellsPair []) why → IsUnread shows why
none_unread shows Failed h = absurd h
none_unread shows NoMem h = tt
none_unread shows (Damaged damage) h = absurd h.1

module _ (tables : List Table) (query : Query) (params : List Value) (range : LimitRange) (input : List (List Value)) (told : Option Content) (part : List StoredPair) (behind : IsPartBehind told tables query params range input part) where
  abbrev cells : List Value
  cells = cells_tied query params range.rel input range.first

  abbrev low : List ℕ
  low = first_of_range tables query params range input

  abbrev range_ends : Option Ends
  range_ends = Some (record { low = low; high = past_code low })

  ends_as_null : (b : Bool) → has_null cells ≡ b → ends_behind tables query params range input ≡ cond b None range_ends
  ends_as_null b is = ap (λ (c : Bool). cond c None range_ends) is

  -- nothing was asked, or the pairs are those of the range
  by_null : (P : Type 0) → (has_null cells ≡ true → part ≡ [] → P) → (has_null cells ≡ false → AreOfRange range.number range.access told low (past_code low) range.n part → P) → P
  by_null P none some = by (has_null cells) refl
    where
      by : (b : Bool) → has_null cells ≡ b → P
      by true null = none null (subst (λ (o : Option Ends). IsPartAsked range.n o part) (ends_as_null true null) behind.asked)
      by false plain =
          some plain record {
            ends = ends_as range.number (table_of tables query range.rel) range.access cells low (past_code low) refl refl;
            part = subst (λ (o : Option Ends). IsPartAsked range.n o part) (ends_as_null false plain) behind.asked;
            are = subst (λ (o : Option Ends). ArePairsOf told range.n o part) (ends_as_null false plain) behind.are;
          }

  pub part_few : length part ≤ range.n
  part_few = by_null (length part ≤ range.n)
      (λ null none. let same = ap (λ (l : List StoredPair). length l) none in omega (arith, same))
      (λ plain are. let few = are.part.few in let same = length-map part entry in omega (arith, few, same))

  pub part_front : All (λ (pair : StoredPair). length (key_front 0 range.access) ≤ length pair.key) part
  part_front = by_null (All (λ (pair : StoredPair). length (key_front 0 range.access) ≤ length pair.key) part)
      (λ null none. subst (λ (l : List StoredPair). All (λ (pair : StoredPair). length (key_front 0 range.access) ≤ length pair.key) l) (sym none) (λ i d less. absurd (omega (arith, less))))
      (λ plain are. part_long range.number range.access low (past_code low) range.n part are.ends are.part)

  pub part_unread : (why : Broke) → OfEachRange range.number range.access part (λ told low high limit. IsUnread (where_told (ShowsRead tables) told) why) → IsUnread (OneShows TellsPair (map entry part)) why → IsUnread (where_told (ShowsRead tables) told) why
  part_unread why each tells = by_null (IsUnread (where_told (ShowsRead tables) told) why)
      (λ null none. none_unread (where_told (ShowsRead tables) told) why (subst (λ (l : List StoredPair). IsUnread (OneShows TellsPair (map entry l)) why) none tells))
      (λ plain are. each told low (past_code low) range.n are)

  -- an error of reading it was answered
  pub part_answered : (answers : List ℕ → Option (List ℕ) → Type 0) → AreAnswers answers part → (why : Broke) → IsUnread (OneShows TellsPair (map entry part)) why → IsAnswered answers why
  part_answered answers all why tells = read_answered answers (map entry part) all TellsPair (λ pair damage h. h) {A = ℕ} (Err why) tells

  module _ (found : List (List Value)) (long : length found ≡ length part) where
    none_found : part ≡ [] → found ≡ []
    none_found none = no_items found (long ∙ ap (λ (l : List StoredPair). length l) none)

    abbrev read_of : (List ℕ → List ℕ → ℕ → List (List Value) → Content → Type 0) → Option Ends → Content → Type 0
    read_of within ends content = AreReadOf (λ low high. within low high range.n) ends found content

    nothing_read : (within : List ℕ → List ℕ → ℕ → List (List Value) → Content → Type 0) (o : Option Content) → found ≡ [] → IfSome o (read_of within None)
    nothing_read within None none = tt
    nothing_read within (Some content) none = none

    -- what is read of whatever range the part is of is read of the range behind the input
    pub part_read : (within : List ℕ → List ℕ → ℕ → List (List Value) → Content → Type 0) → OfEachRange range.number range.access part (λ told low high limit. IfSome told (within low high limit found)) → IfSome told (read_of within (ends_behind tables query params range input))
    part_read within each = by_null (IfSome told (read_of within (ends_behind tables query params range input)))
        (λ null none. subst (λ (o : Option Ends). IfSome told (read_of within o)) (sym (ends_as_null true null)) (nothing_read within told (none_found none)))
        (λ plain are. subst (λ (o : Option Ends). IfSome told (read_of within o)) (sym (ends_as_null false plain)) (each told low (past_code low) range.n are))

    pub part_there : OfEachRange range.number range.access part (λ told low high limit. AllByRecursion (IsKeyThere range.number (table_at tables range.number) range.access told) found) → AllByRecursion (IsKeyThere range.number (table_at tables range.number) range.access told) found
    part_there each = by_null (AllByRecursion (IsKeyThere range.number (table_at tables range.number) range.access told) found)
        (λ null none. subst (AllByRecursion (IsKeyThere range.number (table_at tables range.number) range.access told)) (sym (none_found none)) tt)
        (λ plain are. each told low (past_code low) range.n are)

    module _ (given : IsAsked tables query params) (is : IsRangeOf tables query range) (fits : FitsTables tables query (range.rel - 1) input) where
      -- the rows of the part match
      pub part_matches : range.access ≡ Primary → OfEachRange range.number range.access part (λ told low high limit. IfSome told (AreFirstRows range.number (table_at tables range.number) low high limit found)) → AreMatching told tables query params range.rel range.limit input found
      part_matches primary each rows others holds =
          let q = question tables query rows params in
          let matches = matching q range.rel (limit_columns q range.rel range.limit) input in
          by_null (IsPermutation matches found)
          (λ null none.
          subst (IsPermutation matches) (sym (none_found none))
          (subst (λ (l : List (List Value)). IsPermutation l []) (sym (none_match tables query params range input rows others given is fits holds.keeps holds.beside null)) (IsPermutation-refl [])))
          (λ plain are.
          let table = table_at tables range.number in
          let has = has_matching tables query params range input rows others given is fits holds.keeps holds.beside plain in
          let first = subst (λ (o : Option Content). IfSome o (AreFirstRows range.number table low (past_code low) range.n found)) holds.is (each told low (past_code low) range.n are) in
          let same : found ≡ take range.n has.within = first has.within (rows_fit tables rows range.number holds.keeps has.within has.there)
          (subst (λ (a : Access). pairs_within (content_pairs tables rows others) low (past_code low) ≡ map (pair_of range.number table a) has.within) primary has.pairs) in
          subst (IsPermutation matches) (sym same) has.matches)

      -- and its entries are those of rows that match
      pub part_names : OfEachRange range.number range.access part (λ told low high limit. IfSome told (AreFirstValues range.number (table_at tables range.number) range.access low high limit found)) → (rows : Rows) (others : List Pair) → HoldsRows told tables rows others → PartNames tables query params range input rows found
      part_names each rows others holds = by_null (PartNames tables query params range input rows found)
          (λ null none. record {
            named = [];
            there = tt;
            values = none_found none;
            matches = subst (λ (l : List (List Value)). IsPermutation l []) (sym (none_match tables query params range input rows others given is fits holds.keeps holds.beside null)) (IsPermutation-refl []);
          })
          (λ plain are.
          let table = table_at tables range.number in
          let has = has_matching tables query params range input rows others given is fits holds.keeps holds.beside plain in
          let first = subst (λ (o : Option Content). IfSome o (AreFirstValues range.number table range.access low (past_code low) range.n found)) holds.is (each told low (past_code low) range.n are) in record {
            named = take range.n has.within;
            there = each_by_in (λ row. In row (rows_of range.number rows)) (take range.n has.within) (λ row here. each_in (λ row. In row (rows_of range.number rows)) has.within has.there row (in_take range.n row has.within here));
            values = first has.within (rows_fit tables rows range.number holds.keeps has.within has.there) has.pairs;
            matches = has.matches;
          })

  -- ---- what its rows add, each behind the input

  module _ (given : IsAsked tables query params) (is : IsRangeOf tables query range) (fits : FitsTables tables query (range.rel - 1) input) (primary : range.access ≡ Primary) (before after : List (List (List Value))) (adds : FollowsPart tables range.number input part before after) where
    pub follows_few : length after ≤ length before + range.n
    follows_few =
        let few = part_few in
        let long = adds.long in
        subst (λ (l : List (List (List Value))). length l ≤ length before + range.n) (sym adds.is) (follow_few (λ (row : List Value). input ++ row ∷ []) before adds.rows range.n (omega (arith, few, long)))

    pub follows_fit : AllByRecursion (FitsTables tables query range.rel) before → AllByRecursion (FitsTables tables query range.rel) after
    follows_fit all =
        subst (AllByRecursion (FitsTables tables query range.rel)) (sym adds.is)
        (follow_fit tables query range.rel is.ready.is.relation.from_one input fits before adds.rows (subst (λ (own : Table). AllByRecursion (AllFit (types_of own)) adds.rows) (sym (range_table tables query range is)) adds.fit) all)

    pub follows_rows : IfSome told (AreRowsBehind tables query params range input adds.rows)
    follows_rows =
        subst (λ (a : Access). IfSome told (AreReadOf (λ low high. AreSequenceRows range.number (table_at tables range.number) a low high range.n) (ends_behind tables query params range input) adds.rows)) (sym primary)
        (part_read adds.rows adds.long (λ low high limit rows content. AreRowsWithin (table_at tables range.number) low high limit rows content)
        (subst (λ (a : Access). OfEachRange range.number a part (λ told low high limit. IfSome told (AreRowsWithin (table_at tables range.number) low high limit adds.rows))) (sym primary) adds.codes))

    pub follows_ranged : (first : List (List (List Value))) → AddsRanged told tables query params range.rel range.limit first [] before → AddsRanged told tables query params range.rel range.limit (first ++ input ∷ []) [] after
    follows_ranged first so_far =
        next_ranged told tables query params range.rel range.limit first input before after adds.rows
        (part_matches adds.rows adds.long given is fits primary
        (subst (λ (a : Access). OfEachRange range.number a part (λ told low high limit. IfSome told (AreFirstRows range.number (table_at tables range.number) low high limit adds.rows))) (sym primary) adds.first))
        adds.is so_far
