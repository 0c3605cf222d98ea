-- What a build makes of what a content stands for: the build of the index that a query wants, with the query's definition.
use Rattle.std.proofs.Common.{◌≡◌, ℕ, ◌+◌, ◌-◌, ◌<◌, ◌≤◌, ◌⊎◌, List, [], ◌∷◌, ◌++◌, length, take, get_or, Option, Some, None, refl, sym, ap, ◌∙◌, subst, append_assoc, arith, inl, inr}
use Rattle.std.specs.FinMap.{find}
use Rattle.std.proofs.Math.Seq.{get_or-append_seam}
use Rattle.std.proofs.lemmas.List.{length-append}
use Rattle.pq_key_code.specs.KeyCode.{catalog_key}
use Rattle.pq_schema.specs.declared.made.Definition.{Definition}
use Rattle.pq_schema.specs.declared.made.Definition.TheVariants.{OfQuery}
use Rattle.pq_schema.specs.declared.query.Query.{Query}
use Rattle.pq_schema.specs.declared.table.NewIndex.{NewIndex}
use Rattle.pq_schema.specs.Schema.{Schema, made_of, with_query, no_definition}
use Rattle.pq_schema.specs.Tables.{table_at}
use Rattle.pq_schema.specs.Valid.{IsValid, IsDefined}
use Rattle.pq_schema.specs.Valid.IsValid.{then_query}
use Rattle.pq_schema.proofs.Valid.{wanted_fits}
use Rattle.pq_store.specs.Breaks.{IsUndamaged}
use Rattle.pq_store.specs.Content.{key_cmp, Content}
use Rattle.pq_store.specs.declared.damage.Broke.{Broke}
use Rattle.pq_content.specs.Pairs.{Pair, content_pairs}
use Rattle.pq_content.specs.Tables.{IsTableNumber, Keeps, rows_of}
use Rattle.pq_content.proofs.Building.{keeps-index}
use Rattle.pq_content.proofs.Settling.{settles_to_itself}
use Rattle.pq_builds.specs.declared.build.Built.{Built}
use Rattle.pq_builds.specs.declared.build.Built.TheVariants.{Rows as Filled, TooMany}
use Rattle.pq_builds.specs.declared.target.NewQuery.{NewQuery}
use Rattle.pq_builds.specs.declared.target.Target.{Target}
use Rattle.pq_builds.specs.Stages.{ready_value}
use Rattle.pq_builds.specs.Standing.{Origin, IsTarget, IsNewIn, HoldsOrigin, FillsIndex, IsMarkedOrReady, Makes, Leaves, before, whole_content}
use Rattle.pq_builds.specs.Targets.{target_of}
use Rattle.pq_builds.proofs.Filled.{intent_filling}
use Rattle.pq_tallies.specs.Counters.{AreFewRows, counter_pairs}
use Rattle.pq_tallies.specs.Defined.{NumberedCounter, counters_in}
use Rattle.pq_tallies.proofs.Defined.{one_more_query}
use Rattle.pq_catalog.specs.Model.{Model}
use Rattle.pq_catalog.specs.Stands.{HoldsModel, Opens, IsFillingLast, content_of, value_at, catalog_pairs, others_of, pairs_counted, made_by, last_made, last_key, last_query, earlier_pairs, earlier_others}
use Rattle.pq_catalog.proofs.Catalogs.{are_catalog, pairs_length}
use Rattle.pq_catalog.proofs.Counted.{absent_beside, counted_space, others_beside}
use Rattle.pq_catalog.proofs.Definitions.{few_query, next_key_absent, query_pairs}
use Rattle.pq_catalog.proofs.Made.{small_of, types_at}
use Rattle.pq_planning.proofs.Shown.{wanted_next}
use Rattle.pq_catalog.proofs.Standing.{settled_opens}

-- the model with the query's definition and the index that it wants
abbrev pub next_schema : Schema → Query → NewIndex → Schema
next_schema schema query new = with_query schema query (Some new)

abbrev pub next_model : Model → Query → NewIndex → Model
next_model m query new = record m { schema = next_schema m.schema query new }

-- what a build begins with
abbrev pub origin_of : Model → NewIndex → Origin
origin_of m new = record { tables = m.schema.tables; rows = m.rows; others = others_of m; index = new.index }

-- and what it is of
abbrev pub target_for : Model → NewIndex → Target
target_for m new = target_of new.table new.number (table_at m.schema.tables new.table) new.index

abbrev pub query_for : Model → Query → NewIndex → NewQuery
query_for m query new = last_query (next_schema m.schema query new)

-- the last of some definitions
pub at_end : (front : List Definition) (last : Definition) → get_or (front ++ last ∷ []) (length (front ++ last ∷ []) - 1) no_definition ≡ last
at_end front last =
    let place : length (front ++ last ∷ []) - 1 ≡ length front = omega (arith, length-append front (last ∷ [])) in
    ap (λ (k : ℕ). get_or (front ++ last ∷ []) k no_definition) place ∙ get_or-append_seam front last [] no_definition

take_front : (front rest : List Pair) → take (length front) (front ++ rest) ≡ front
take_front [] rest = refl
take_front (pair ∷ front) rest = ap (λ (l : List Pair). pair ∷ l) (take_front front rest)

-- ---- the definitions

module _ (schema : Schema) (query : Query) (new : NewIndex) (valid : IsValid schema) (defined : IsDefined schema query (Some new)) where
  abbrev next : Schema
  next = next_schema schema query new

  small : length schema.definitions < 65535
  small = omega (arith, small_of schema valid)

  more : length schema.definitions + 1 ≡ length next.definitions
  more = omega (arith, length-append schema.definitions (OfQuery query (Some (made_of new)) ∷ []))

  pub there : IsTableNumber schema.tables new.table
  there = let fits = wanted_fits schema.tables query new defined.resolved defined.chosen in (fits.from_one, fits.there)

  pub absent : find key_cmp (last_key next) (catalog_pairs schema) ≡ None
  absent = subst (λ n. find key_cmp (catalog_key n) (catalog_pairs schema) ≡ None) more (next_key_absent (record { schema = schema; rows = [] }) small)

  pub pairs_next : catalog_pairs next ≡ catalog_pairs schema ++ (last_key next, ready_value (last_query next)) ∷ []
  pairs_next =
      subst (λ n. catalog_pairs next ≡ catalog_pairs schema ++ (catalog_key n, value_at next n) ∷ []) more
      (query_pairs schema query (Some new) valid defined)

  pub earlier_next : earlier_pairs next ≡ catalog_pairs schema
  earlier_next =
      let many : length next.definitions - 1 ≡ length (catalog_pairs schema) = omega (arith, more, pairs_length schema) in
      ap (take (length next.definitions - 1)) pairs_next
      ∙ ap (λ n. take n (catalog_pairs schema ++ (last_key next, ready_value (last_query next)) ∷ [])) many
      ∙ take_front (catalog_pairs schema) ((last_key next, ready_value (last_query next)) ∷ [])

  pub last_made_next : last_made next ≡ Some (made_of new)
  last_made_next = ap made_by (at_end schema.definitions (OfQuery query (Some (made_of new))))

  pub next_valid : IsValid next
  next_valid = then_query schema query (Some new) valid defined

-- ---- a model

module _ (m : Model) (query : Query) (new : NewIndex) (valid : IsValid m.schema) (keeps : Keeps m.schema.tables m.rows) (few : AreFewRows (counters_in m.schema) m.rows) (defined : IsDefined m.schema query (Some new)) where
  abbrev later : Schema
  later = next_schema m.schema query new

  pub target_is : IsTarget (origin_of m new) (target_for m new)
  target_is =
      let number = wanted_next m.schema.tables query new defined.chosen in
      record {
        number = there m.schema query new valid defined;
        next = omega (arith, number);
        types = refl;
        fillers = refl;
        parts = refl;
        sound = types_at m.schema new.table valid (there m.schema query new valid defined);
      }

  -- the definition's key is that of no counter
  absent_here : find key_cmp (last_key later) (others_of m) ≡ None
  absent_here = absent_beside m (last_key later) refl (absent m.schema query new valid defined)

  pub new_in : IsNewIn (origin_of m new) (last_query later)
  new_in = record { keeps = keeps; beside = others_beside m; key = refl; absent = absent_here }

  before_is : before (origin_of m new) ≡ content_of m
  unfolding content_of
  before_is = refl

  counted_next : counter_pairs (counters_in later) m.rows ≡ pairs_counted m
  counted_next = ap (λ (cs : List NumberedCounter). counter_pairs cs m.rows) (one_more_query m.schema query (Some new))

  others_next : others_of m ++ (last_key later, ready_value (last_query later)) ∷ [] ≡ others_of (next_model m query new)
  others_next =
      append_assoc (pairs_counted m) (catalog_pairs m.schema) ((last_key later, ready_value (last_query later)) ∷ [])
      ∙ (λ i. sym counted_next i ++ sym (pairs_next m.schema query new valid defined) i)

  earlier_now : earlier_others (next_model m query new) ≡ others_of m
  earlier_now = λ i. counted_next i ++ earlier_next m.schema query new valid defined i

  whole_is : whole_content (origin_of m new) (target_for m new) (last_query later) (ready_value (last_query later)) ≡ content_of (next_model m query new)
  unfolding content_of
  whole_is = ap (content_pairs later.tables m.rows) others_next

  next_few : AreFewRows (counters_in later) m.rows
  next_few = few_query m query (Some new) few

  pub next_keeps : Keeps later.tables m.rows
  next_keeps = keeps-index m.schema.tables m.rows new.table new.index (there m.schema query new valid defined) keeps

  -- a content of the model is what the build begins with
  pub holds_origin : {old : Option Content} → old ≡ Some (content_of m) → HoldsOrigin (origin_of m new) (target_for m new) (last_query later) old
  holds_origin told = record {
    holds = record { keeps = keeps; beside = others_beside m; is = told ∙ ap (λ (c : Content). Some c) (sym before_is) };
    target_is = target_is;
    key = refl;
    absent = absent_here;
  }

  -- where nothing was made
  pub before_holds : {now : Option Content} → now ≡ Some (before (origin_of m new)) → HoldsModel now m
  before_holds is = record { valid = valid; keeps = keeps; few = few; told = is ∙ ap (λ (c : Content). Some c) before_is }

  -- where all was made
  pub whole_holds : {now : Option Content} → now ≡ Some (whole_content (origin_of m new) (target_for m new) (last_query later) (ready_value (last_query later))) → HoldsModel now (next_model m query new)
  whole_holds is = record { valid = next_valid m.schema query new valid defined; keeps = next_keeps; few = next_few; told = is ∙ ap (λ (c : Content). Some c) whole_is }

  -- while the index is being filled
  pub filling_last : (content : Content) → FillsIndex (origin_of m new) (target_for m new) (last_query later) content → IsFillingLast (next_model m query new) content
  filling_last content filling = record {
    made = made_of new;
    last = last_made_next m.schema query new valid defined;
    filling = rw earlier_now filling;
  }

  pub filling_opens : {now : Option Content} (content : Content) → now ≡ Some content → FillsIndex (origin_of m new) (target_for m new) (last_query later) content → Opens now (next_model m query new)
  filling_opens content is filling = record {
    valid = next_valid m.schema query new valid defined;
    keeps = next_keeps;
    few = next_few;
    pairs = content;
    settles = record {
      pairs = content;
      told = is;
      settles = settles_to_itself content (intent_filling later.tables m.rows (pairs_counted m) (catalog_pairs m.schema) (made_of new) (last_query later) content (counted_space m) (are_catalog m.schema) refl filling);
    };
    holds = inr (filling_last content filling);
  }

  -- from the mark on
  pub marked_opens : {now : Option Content} → IsMarkedOrReady (origin_of m new) (target_for m new) (last_query later) now → Opens now (next_model m query new)
  marked_opens (inl h) = filling_opens h.0 h.1 h.2
  marked_opens (inr is) = settled_opens (whole_holds is)

  -- wherever the build stops
  pub leaves_opens : {now : Option Content} → Leaves (origin_of m new) (target_for m new) (last_query later) now → Opens now m ⊎ Opens now (next_model m query new)
  leaves_opens (inl is) = inl (settled_opens (before_holds is))
  leaves_opens (inr made) = inr (marked_opens made)

  -- and where it doesn't
  pub makes_next : {now : Option Content} (count : ℕ) → Makes (origin_of m new) (target_for m new) (last_query later) (Filled count) now → HoldsModel now (next_model m query new)
  makes_next count made = whole_holds made.2

  pub makes_nothing : {now : Option Content} → Makes (origin_of m new) (target_for m new) (last_query later) TooMany now → HoldsModel now m
  makes_nothing made = before_holds made.1

-- ---- the clauses of a build

-- over what a model's content is, of a target and a definition that are those of the query
module _ (m : Model) (query : Query) (new : NewIndex) (valid : IsValid m.schema) (keeps : Keeps m.schema.tables m.rows) (few : AreFewRows (counters_in m.schema) m.rows) (defined : IsDefined m.schema query (Some new))
    (target : Target) (made : NewQuery) (target_same : target ≡ target_for m new) (made_same : made ≡ query_for m query new) (old now : Option Content) (told : old ≡ Some (content_of m)) where
  holds_build : HoldsOrigin (origin_of m new) target made old
  holds_build =
      subst (λ (t : Target). HoldsOrigin (origin_of m new) t made old) (sym target_same)
      (subst (λ (q : NewQuery). HoldsOrigin (origin_of m new) (target_for m new) q old) (sym made_same) (holds_origin m query new valid keeps few defined told))

  makes_own : (built : Built) → ((origin : Origin) → HoldsOrigin origin target made old → Makes origin target made built now) → Makes (origin_of m new) (target_for m new) (query_for m query new) built now
  makes_own built all =
      subst (λ (t : Target). Makes (origin_of m new) t (query_for m query new) built now) target_same
      (subst (λ (q : NewQuery). Makes (origin_of m new) target q built now) made_same (all (origin_of m new) holds_build))

  -- it was made over so many rows
  pub build_made : (count : ℕ) → ((origin : Origin) → HoldsOrigin origin target made old → Makes origin target made (Filled count) now)
      → (length (rows_of new.table m.rows) ≡ count) × (length (rows_of new.table m.rows) ≤ 1000000) × HoldsModel now (next_model m query new)
  build_made count all = let r = makes_own (Filled count) all in (r.0, r.1, makes_next m query new valid keeps few defined count r)

  -- its table has too many
  pub build_refused : ((origin : Origin) → HoldsOrigin origin target made old → Makes origin target made TooMany now) → (1000000 < length (rows_of new.table m.rows)) × HoldsModel now m
  build_refused all = let r = makes_own TooMany all in (r.0, makes_nothing m query new valid keeps few defined r)

  -- it broke off
  pub build_stopped : ((origin : Origin) → HoldsOrigin origin target made old → Leaves origin target made now) → Opens now m ⊎ Opens now (next_model m query new)
  build_stopped all =
      leaves_opens m query new valid keeps few defined
      (subst (λ (t : Target). Leaves (origin_of m new) t (query_for m query new) now) target_same
      (subst (λ (q : NewQuery). Leaves (origin_of m new) target q now) made_same (all (origin_of m new) holds_build)))

  pub build_sound : (broke : Broke) → ((origin : Origin) → HoldsOrigin origin target made old → IsUndamaged broke) → IsUndamaged broke
  build_sound broke all = all (origin_of m new) holds_build
