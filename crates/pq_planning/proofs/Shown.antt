-- What SHOW shows of a valid schema.
use Rattle.std.proofs.Common.{◌≡◌, ℕ, zero, suc, ◌+◌, ◌-◌, ◌<◌, ◌≤◌, Bool, true, false, cond, List, [], ◌∷◌, ◌++◌, length, Option, Some, None, Result, Ok, Err, refl, sym, ap, ◌∙◌, subst, arith, add-zero, add-one, append-nil}
use Rattle.std.specs.Prelude.{All, nat_le, is_some, option_map}
use Rattle.std.specs.List.{AllByRecursion, flat_map, range_with_len}
use Rattle.std.proofs.lemmas.Grind.{flat_map-append}
use Rattle.std.proofs.lemmas.List.{length-append, length-set}
use Rattle.std.proofs.lemmas.Option.{same_Some}
use Rattle.pq_base.specs.declared.number.Choice.{Choice}
use Rattle.pq_base.specs.declared.number.Choice.TheVariants.{Whole, Stop}
use Rattle.pq_base.specs.declared.refusal.Refusal.{Refusal}
use Rattle.pq_base.specs.declared.refusal.Refusal.TheVariants as refusal
use Rattle.pq_base.proofs.Members.{each_append}
use Rattle.pq_schema.specs.Candidates.{Candidate, candidates, least}
use Rattle.pq_schema.specs.Definitions.{altered_table, column_of, counter_of_def}
use Rattle.pq_schema.specs.Relations.{relation_at, table_of, tied_set, order_rest}
use Rattle.pq_schema.specs.Resolved.{IsResolved}
use Rattle.pq_schema.specs.Schema.{Schema, def_of, with_added, with_new_column, with_new_index, with_wanted, made_of}
use Rattle.pq_schema.specs.Sequences.{serving_access, new_index}
use Rattle.pq_schema.specs.Sound.{IsMade, AreMade}
use Rattle.pq_schema.specs.Tables.{table_at}
use Rattle.pq_schema.specs.Valid.{IsValid}
use Rattle.pq_schema.specs.Valid.IsValid.{empty, then_table, then_query, then_column, then_counter}
use Rattle.pq_schema.specs.Wanted.{ChosenCandidate, IsWanted, is_large, too_many_indexes, index_at, index_of, with_index, chosen_of}
use Rattle.pq_schema.specs.declared.made.Def.{Def}
use Rattle.pq_schema.specs.declared.made.Def.TheVariants as def
use Rattle.pq_schema.specs.declared.made.Definition.{Definition}
use Rattle.pq_schema.specs.declared.made.Definition.TheVariants.{OfTable, OfQuery, OfColumn, OfCounter}
use Rattle.pq_schema.specs.declared.query.Query.{Query}
use Rattle.pq_schema.specs.declared.table.Index.{Index}
use Rattle.pq_schema.specs.declared.table.KeyPart.{KeyPart}
use Rattle.pq_schema.specs.declared.table.NewIndex.{NewIndex}
use Rattle.pq_schema.specs.declared.table.Table.{Table}
use Rattle.pq_schema.proofs.Soundness.{all_made}
use Rattle.pq_schema.proofs.Valid.{column_parts, counter_parts, valid_made, wanted_fits}
use Rattle.pq_print.specs.declared.report.Line.{Line}
use Rattle.pq_planning.specs.Lines.{AreOf, AreInside, AreShown, IsMadeOf, IsShowable, IsLined}
use Rattle.pq_planning.proofs.Lists.{each_by, each_weaker}

-- the columns of the indexes of a table are there
pub inside_of : (tables : List Table) (number : ℕ) (table : Table) → IsMade tables number table → AreInside table.columns table.indexes
inside_of tables number table made =
    each_weaker (λ (index : Index). All (λ (part : KeyPart). part.col < length table.columns) index.cols) (λ (index : Index). AreOf table.columns index.cols)
    (λ index all. each_by (λ (part : KeyPart). part.col < length table.columns) index.cols all) table.indexes
    (each_by (λ (index : Index). All (λ (part : KeyPart). part.col < length table.columns) index.cols) table.indexes made.indexes)

are_shown : (tables : List Table) → AreMade tables → AreShown tables
are_shown tables made =
    each_by (λ (table : Table). (length table.indexes ≤ 16) × AreInside table.columns table.indexes) tables
    (all_made (λ (table : Table). (length table.indexes ≤ 16) × AreInside table.columns table.indexes) tables (λ number table one. (one.few_indexes, inside_of tables number table one)) made)

-- ---- the index that a query made

same_wanted : (x y : Option NewIndex) (r : Result (Option NewIndex) Refusal) → r ≡ Ok x → r ≡ Ok y → x ≡ y
same_wanted x y r is also = cc

some_wanted : (served full : Bool) (n new : NewIndex) → cond served (Ok None) (cond full (Err too_many_indexes) (Ok (Some n))) ≡ Ok (Some new) → n ≡ new
some_wanted true full n new is = absurd (cc)
some_wanted false true n new is = absurd (cc)
some_wanted false false n new is = same_Some n new (same_wanted (Some n) (Some new) (Ok (Some n)) refl is)

abbrev wanted_in : Result ChosenCandidate Refusal → Option NewIndex
wanted_in (Ok chosen) = chosen.wanted
wanted_in (Err why) = None

module _ (tables : List Table) (query : Query) (new : NewIndex) where
  -- it is the next one of its table
  abbrev IsNext : Type 0
  IsNext = new.number ≡ length (table_at tables new.table).indexes + 1

  next_at : (p : ℕ) → index_at tables query p ≡ Ok (Some new) → IsNext
  next_at p is =
      let table = table_of tables query p in
      let n : NewIndex = record { table = (relation_at query p).table; number = length table.indexes + 1; index = new_index table (tied_set query p) (order_rest query p) } in
      subst (λ (x : NewIndex). x.number ≡ length (table_at tables x.table).indexes + 1)
      (some_wanted (is_some (serving_access table (tied_set query p) (order_rest query p))) (nat_le 16 (length table.indexes)) n new is) refl

  next_of : (choice : Choice) → index_of tables query choice ≡ Ok (Some new) → IsNext
  next_of Whole is = absurd (cc)
  next_of (Stop p) is = next_at p is

  with_found : (best c : Candidate) (index : Result (Option NewIndex) Refusal) → with_index c index ≡ Ok (record { best = best; wanted = Some new }) → index ≡ Ok (Some new)
  with_found best c (Ok wanted) is = ap (λ (w : Option NewIndex). Ok w) (ap wanted_in is)
  with_found best c (Err why) is = absurd (cc)

  large_found : (large : Bool) (why : Refusal) (best c : Candidate) (index : Result (Option NewIndex) Refusal) → cond large (Err why) (with_index c index) ≡ Ok (record { best = best; wanted = Some new }) → index ≡ Ok (Some new)
  large_found true why best c index is = absurd (cc)
  large_found false why best c index is = with_found best c index is

  chosen_found : (o : Option Candidate) (best : Candidate) → chosen_of tables query o ≡ Ok (record { best = best; wanted = Some new }) → IsNext
  chosen_found None best is = absurd (cc)
  chosen_found (Some c) best is = next_of c.choice (large_found (is_large c.bound) (refusal.BoundLarge c.bound.ops c.bound.entries) best c (index_of tables query c.choice) is)

  pub wanted_next : IsWanted tables query (Some new) → IsNext
  wanted_next wanted = chosen_found (least (candidates tables query)) wanted.best wanted.chosen

-- ---- definitions

length_wanted : (tables : List Table) (wanted : Option NewIndex) → length (with_wanted tables wanted) ≡ length tables
length_wanted tables None = refl
length_wanted tables (Some new) = length-set tables (new.table - 1) (with_new_index (table_at tables new.table) new.index)

made_wanted : (tables : List Table) (query : Query) (wanted : Option NewIndex) → IsResolved tables query → IsWanted tables query wanted
    → IsMadeOf (with_wanted tables wanted) (def.Query (option_map made_of wanted))
made_wanted tables query None resolved wanted = tt
made_wanted tables query (Some new) resolved wanted =
    let fits = wanted_fits tables query new resolved wanted in
    let next = wanted_next tables query new wanted in
    let long = length-set tables (new.table - 1) (with_new_index (table_at tables new.table) new.index) in
    ((fits.from_one, omega (arith, fits.there, long)), omega (arith, next, fits.room))

-- what a definition made is of a table that is there, where there are as many tables or more
made_more : (tables more : List Table) → length tables ≤ length more → (d : Def) → IsMadeOf tables d → IsMadeOf more d
made_more tables more long (def.Table t made) is = (is.0, omega (arith, is.1, long))
made_more tables more long (def.Query None) is = tt
made_more tables more long (def.Query (Some made)) is = ((is.0.0, omega (arith, is.0.1, long)), is.1)
made_more tables more long (def.Added t col) is = tt
made_more tables more long def.Counter is = tt

abbrev AreMadeOf : List Table → List Definition → Type 0
AreMadeOf tables definitions = AllByRecursion (λ definition. IsMadeOf tables (def_of definition)) definitions

all_more : (tables more : List Table) → length tables ≤ length more → (definitions : List Definition) → AreMadeOf tables definitions → AreMadeOf more definitions
all_more tables more long definitions all =
    each_weaker (λ (d : Definition). IsMadeOf tables (def_of d)) (λ (d : Definition). IsMadeOf more (def_of d)) (λ d is. made_more tables more long (def_of d) is) definitions all

defined_made : (schema : Schema) → IsValid schema → AreMadeOf schema.tables schema.definitions
defined_made _ empty = tt
defined_made _ (then_table schema d table valid is_def made) =
    let more : List Table = schema.tables ++ table ∷ [] in
    let long : length more ≡ length schema.tables + 1 = omega (arith, length-append schema.tables (table ∷ [])) in
    each_append (λ (d : Definition). IsMadeOf more (def_of d)) schema.definitions (OfTable (length schema.tables + 1) (length table.columns) (length table.indexes) ∷ [])
    (all_more schema.tables more (omega (arith, long)) schema.definitions (defined_made schema valid)) ((omega arith, omega (arith, long)), tt)
defined_made _ (then_query schema query wanted valid defined) =
    let more = with_wanted schema.tables wanted in
    let long : length more ≡ length schema.tables = length_wanted schema.tables wanted in
    each_append (λ (d : Definition). IsMadeOf more (def_of d)) schema.definitions (OfQuery query (option_map made_of wanted) ∷ [])
    (all_more schema.tables more (omega (arith, long)) schema.definitions (defined_made schema valid)) (made_wanted schema.tables query wanted defined.resolved defined.chosen, tt)
defined_made _ (then_column schema d next valid is) =
    let parts = column_parts schema d next is.accepted in
    let number = altered_table schema d in
    let table = table_at schema.tables number in
    let more = with_added schema.tables number (column_of d.column) d.filler in
    let long : length more ≡ length schema.tables = length-set schema.tables (number - 1) (with_new_column table (column_of d.column) d.filler) in
    subst (λ (s : Schema). AreMadeOf s.tables s.definitions) parts.1
    (each_append (λ (one : Definition). IsMadeOf more (def_of one)) schema.definitions (OfColumn number (length table.columns) ∷ [])
    (all_more schema.tables more (omega (arith, long)) schema.definitions (defined_made schema valid)) (tt, tt))
defined_made _ (then_counter schema d next valid is) =
    subst (λ (s : Schema). AreMadeOf s.tables s.definitions) (counter_parts schema d next is.accepted).1
    (each_append (λ (one : Definition). IsMadeOf schema.tables (def_of one)) schema.definitions (OfCounter (counter_of_def schema d) ∷ [])
    (defined_made schema valid) (tt, tt))

-- the columns of the index that a query wants are there
pub is_lined : (tables : List Table) (query : Query) (wanted : Option NewIndex) → IsResolved tables query → IsWanted tables query wanted → IsLined tables wanted
is_lined tables query None resolved wanted = tt
is_lined tables query (Some new) resolved wanted =
    let fits = wanted_fits tables query new resolved wanted in
    ((fits.from_one, fits.there), each_by (λ (part : KeyPart). part.col < length (table_at tables new.table).columns) new.index.cols fits.inside)

pub is_shown : (schema : Schema) → IsValid schema → IsShowable schema
is_shown schema valid = record {
  tables = are_shown schema.tables (valid_made valid);
  definitions = defined_made schema valid;
}

range_more : (a n : ℕ) → range_with_len a (n + 1) ≡ range_with_len a n ++ (a + n) ∷ []
range_more a zero = ap (λ k. k ∷ []) (sym (add-zero a))
range_more a (suc n) =
    let last : a + 1 + n ≡ a + suc n = omega arith in
    ap (range_with_len a) (add-one (suc n)) ∙ ap (λ ks. a ∷ ks) (ap (range_with_len (a + 1)) (sym (add-one n)) ∙ range_more (a + 1) n ∙ ap (λ k. range_with_len (a + 1) n ++ k ∷ []) last)

-- one more of the numbers from 1
pub lines_more : (f : ℕ → List Line) (n number : ℕ) → number ≡ 1 + n → flat_map f (range_with_len 1 n) ++ f number ≡ flat_map f (range_with_len 1 (n + 1))
lines_more f n number is =
    sym (ap (flat_map f) (range_more 1 n) ∙ flat_map-append f (range_with_len 1 n) ((1 + n) ∷ [])
    ∙ ap (λ (last : List Line). flat_map f (range_with_len 1 n) ++ last) (append-nil (f (1 + n)) ∙ ap f (sym is)))
