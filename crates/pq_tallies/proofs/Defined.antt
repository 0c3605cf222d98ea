-- The counters of a schema: they are over its tables and in order, and each definition adds its own.
use Rattle.std.proofs.Common.{◌≡◌, ℕ, zero, suc, ◌+◌, ◌-◌, ◌<◌, ◌≤◌, Bool, true, false, cond, ◌==◌, inl, List, [], ◌∷◌, ◌++◌, length, map, filter, get_or, refl, sym, ap, ◌∙◌, subst, arith}
use Rattle.std.specs.List.{AllByRecursion}
use Rattle.std.specs.Prelude.{Option, option_map}
use Rattle.std.proofs.lemmas.List.{append-nil, append_assoc}
use Rattle.std.proofs.lemmas.List.Elements.{All-from_recursion}
use Rattle.pq_base.specs.Members.{In}
use Rattle.pq_base.specs.declared.value.Value.{Value}
use Rattle.pq_base.proofs.Members.{in_left, in_right, each_append}
use Rattle.pq_schema.specs.declared.counter.Counter.{Counter}
use Rattle.pq_schema.specs.declared.made.Definition.{Definition}
use Rattle.pq_schema.specs.declared.made.Definition.TheVariants.{OfTable, OfQuery, OfColumn, OfCounter}
use Rattle.pq_schema.specs.declared.query.Query.{Query}
use Rattle.pq_schema.specs.declared.table.Column.{Column}
use Rattle.pq_schema.specs.declared.table.NewIndex.{NewIndex}
use Rattle.pq_schema.specs.declared.table.Table.{Table}
use Rattle.pq_schema.specs.Counters.{IsMadeCounter, IsCounterNumber}
use Rattle.pq_schema.specs.Schema.{Schema, IsCounterDefinition, no_definition, counter_of, is_counter_of, counters_from, counters_of, made_of, with_table, with_query, with_column, with_counter}
use Rattle.pq_schema.specs.Tables.{table_at}
use Rattle.pq_schema.specs.Valid.{IsValid}
use Rattle.pq_schema.proofs.Counters.{counter_made}
use Rattle.pq_schema.proofs.Valid.{valid_small}
use Rattle.pq_tallies.specs.Defined.{NumberedCounter, with_number, numbered_of, numbered_from, counters_in, counter_numbered, IsCounter, AreInOrder, AreCounters}

-- the definition at a place
abbrev at : List Definition → ℕ → Definition
at ds i = get_or ds i no_definition

-- ---- what holds of each

-- what holds of each counter among definitions, with its number, holds of each of the numbered ones
module _ (P : NumberedCounter → Type 0) where
  each_own : (number : ℕ) (d : Definition) → (IsCounterDefinition d → P (with_number number (counter_of d))) → AllByRecursion P (numbered_of number d)
  each_own number (OfTable table columns made) f = tt
  each_own number (OfQuery query made) f = tt
  each_own number (OfColumn table col) f = tt
  each_own number (OfCounter counter) f = (f tt, tt)

  each_from : (number : ℕ) (ds : List Definition) → ((i : ℕ) → i < length ds → IsCounterDefinition (at ds i) → P (with_number (number + i) (counter_of (at ds i)))) → AllByRecursion P (numbered_from number ds)
  each_from number [] f = tt
  each_from number (d ∷ ds) f =
      each_append P (numbered_of number d) (numbered_from (number + 1) ds)
      (each_own number d (λ is. subst (λ (n : ℕ). P (with_number n (counter_of d))) (first number) (f 0 (omega arith) is)))
      (each_from (number + 1) ds (λ i less is. subst (λ (n : ℕ). P (with_number n (counter_of (at ds i)))) (later number i) (f (suc i) (omega arith) is)))
    where
      first : (n : ℕ) → n + 0 ≡ n
      first n = omega arith

      later : (n i : ℕ) → n + suc i ≡ n + 1 + i
      later n i = omega arith

-- ---- over the tables of a valid schema

counter_is : (tables : List Table) (number : ℕ) (counter : Counter) → number ≤ 65535 → IsMadeCounter tables counter → IsCounter tables (with_number number counter)
counter_is tables number counter small made = record {
  number = omega arith;
  table = (made.from_one, made.there);
  inside = made.cols.inside;
  few = made.cols.few;
}

each_is : (schema : Schema) → IsValid schema → AllByRecursion (IsCounter schema.tables) (counters_in schema)
each_is schema valid = each_from (IsCounter schema.tables) 1 schema.definitions (λ i less is.
    let few = (valid_small valid).definitions in
    let before : 1 + i - 1 ≡ i = omega arith in
    let number : IsCounterNumber schema (1 + i) = record {
      from_one = omega arith;
      there = omega arith;
      counter = subst (λ (k : ℕ). IsCounterDefinition (at schema.definitions k)) (sym before) is;
    } in
    let made = subst (λ (k : ℕ). IsMadeCounter schema.tables (counter_of (at schema.definitions k))) before (counter_made schema (1 + i) valid number) in
    counter_is schema.tables (1 + i) (counter_of (at schema.definitions i)) (omega arith) made)

in_order : (number : ℕ) (ds : List Definition) → AreInOrder (numbered_from number ds)
in_order number [] = tt
in_order number (d ∷ ds) = by d (in_order (number + 1) ds)
  where
    by : (e : Definition) → AreInOrder (numbered_from (number + 1) ds) → AreInOrder (numbered_of number e ++ numbered_from (number + 1) ds)
    by (OfTable table columns made) rest = rest
    by (OfQuery query made) rest = rest
    by (OfColumn table col) rest = rest
    by (OfCounter counter) rest = (each_from (λ (other : NumberedCounter). number < other.number) (number + 1) ds (λ i less is. omega arith), rest)

few_from : (number : ℕ) (ds : List Definition) → length (numbered_from number ds) ≤ length ds
few_from number [] = omega arith
few_from number (d ∷ ds) = by d (few_from (number + 1) ds)
  where
    by : (e : Definition) → length (numbered_from (number + 1) ds) ≤ length ds → length (numbered_of number e ++ numbered_from (number + 1) ds) ≤ suc (length ds)
    by (OfTable table columns made) rest = omega arith
    by (OfQuery query made) rest = omega arith
    by (OfColumn table col) rest = omega arith
    by (OfCounter counter) rest = omega arith

pub schema_counters : (schema : Schema) → IsValid schema → AreCounters schema.tables (counters_in schema)
schema_counters schema valid = record {
  each = All-from_recursion (IsCounter schema.tables) (counters_in schema) (each_is schema valid);
  order = in_order 1 schema.definitions;
  few = let few = (valid_small valid).definitions in let most = few_from 1 schema.definitions in omega arith;
}

-- ---- by their numbers

own_in : (number : ℕ) (d : Definition) → IsCounterDefinition d → In (with_number (number + 0) (counter_of d)) (numbered_of number d)
own_in number (OfTable table columns made) is = absurd is
own_in number (OfQuery query made) is = absurd is
own_in number (OfColumn table col) is = absurd is
own_in number (OfCounter counter) is = inl (ap (λ (n : ℕ). with_number n counter) same)
  where
    same : number ≡ number + 0
    same = omega arith

in_from : (number : ℕ) (ds : List Definition) (i : ℕ) → i < length ds → IsCounterDefinition (at ds i) → In (with_number (number + i) (counter_of (at ds i))) (numbered_from number ds)
in_from number [] i less is = absurd (omega arith)
in_from number (d ∷ ds) zero less is = in_left (with_number (number + 0) (counter_of d)) (numbered_of number d) (numbered_from (number + 1) ds) (own_in number d is)
in_from number (d ∷ ds) (suc i) less is =
    let same : number + 1 + i ≡ number + suc i = omega arith in
    in_right (with_number (number + suc i) (counter_of (at ds i))) (numbered_of number d) (numbered_from (number + 1) ds)
    (subst (λ (n : ℕ). In (with_number n (counter_of (at ds i))) (numbered_from (number + 1) ds)) same (in_from (number + 1) ds i (omega arith) is))

pub numbered_in : (schema : Schema) (number : ℕ) → IsCounterNumber schema number → In (counter_numbered schema number) (counters_in schema)
numbered_in schema number is =
    let one = is.from_one in
    let there = is.there in
    let same : 1 + (number - 1) ≡ number = omega arith in
    subst (λ (n : ℕ). In (with_number n (counter_of (at schema.definitions (number - 1)))) (counters_in schema)) same (in_from 1 schema.definitions (number - 1) (omega arith) is.counter)

-- ---- those of a table

-- whether a counter is of a table
abbrev is_of : ℕ → NumberedCounter → Bool
is_of table counter = counter.table == table

of_table_from : (table : ℕ) (f : ℕ → NumberedCounter) (number : ℕ) (ds : List Definition) → ((i : ℕ) → f (number + i) ≡ with_number (number + i) (counter_of (at ds i))) → map f (counters_from table number ds) ≡ filter (λ counter. counter.table == table) (numbered_from number ds)
of_table_from table f number [] same = refl
of_table_from table f number (d ∷ ds) same = by d (same 0) (of_table_from table f (number + 1) ds (λ i. subst (λ (n : ℕ). f n ≡ with_number n (counter_of (at ds i))) (later i) (same (suc i))))
  where
    later : (i : ℕ) → number + suc i ≡ number + 1 + i
    later i = omega arith

    first : number + 0 ≡ number
    first = omega arith

    by : (e : Definition) → f (number + 0) ≡ with_number (number + 0) (counter_of e) → map f (counters_from table (number + 1) ds) ≡ filter (is_of table) (numbered_from (number + 1) ds)
        → map f (cond (is_counter_of table e) (number ∷ counters_from table (number + 1) ds) (counters_from table (number + 1) ds)) ≡ filter (is_of table) (numbered_of number e ++ numbered_from (number + 1) ds)
    by (OfTable of columns made) own rest = rest
    by (OfQuery query made) own rest = rest
    by (OfColumn of col) own rest = rest
    by (OfCounter counter) own rest =
        let here : f number ≡ with_number number counter = subst (λ (n : ℕ). f n ≡ with_number n counter) first own in
        elim (counter.table == table) as (λ b. map f (cond b (number ∷ counters_from table (number + 1) ds) (counters_from table (number + 1) ds)) ≡ cond b (with_number number counter ∷ filter (is_of table) (numbered_from (number + 1) ds)) (filter (is_of table) (numbered_from (number + 1) ds))) [
          | true ↦ λ i. here i ∷ rest i
          | false ↦ rest
        ]

pub counters_of_table : (schema : Schema) (table : ℕ) → map (counter_numbered schema) (counters_of schema table) ≡ filter (λ counter. counter.table == table) (counters_in schema)
counters_of_table schema table = of_table_from table (counter_numbered schema) 1 schema.definitions (λ i. ap (λ (k : ℕ). with_number (1 + i) (counter_of (at schema.definitions k))) (before i))
  where
    before : (i : ℕ) → 1 + i - 1 ≡ i
    before i = omega arith

-- ---- one more definition

numbered_last : (number : ℕ) (ds : List Definition) (d : Definition) → numbered_from number (ds ++ d ∷ []) ≡ numbered_from number ds ++ numbered_of (number + length ds) d
numbered_last number [] d =
    let same : number ≡ number + 0 = omega arith in
    append-nil (numbered_of number d) ∙ ap (λ (n : ℕ). numbered_of n d) same
numbered_last number (e ∷ ds) d =
    let same : number + 1 + length ds ≡ number + suc (length ds) = omega arith in
    let own = numbered_of number e in
    let rest = numbered_from (number + 1) ds in
    ap (λ (l : List NumberedCounter). own ++ l) (numbered_last (number + 1) ds d)
    ∙ ap (λ (n : ℕ). own ++ (rest ++ numbered_of n d)) same
    ∙ sym (append_assoc own rest (numbered_of (number + suc (length ds)) d))

pub one_more_table : (schema : Schema) (table : Table) → counters_in (with_table schema table) ≡ counters_in schema
one_more_table schema table = numbered_last 1 schema.definitions (OfTable (length schema.tables + 1) (length table.columns) (length table.indexes)) ∙ append-nil (counters_in schema)

pub one_more_query : (schema : Schema) (query : Query) (wanted : Option NewIndex) → counters_in (with_query schema query wanted) ≡ counters_in schema
one_more_query schema query wanted = numbered_last 1 schema.definitions (OfQuery query (option_map made_of wanted)) ∙ append-nil (counters_in schema)

pub one_more_column : (schema : Schema) (table : ℕ) (column : Column) (filler : Value) → counters_in (with_column schema table column filler) ≡ counters_in schema
one_more_column schema table column filler = numbered_last 1 schema.definitions (OfColumn table (length (table_at schema.tables table).columns)) ∙ append-nil (counters_in schema)

pub one_more_counter : (schema : Schema) (counter : Counter) → counters_in (with_counter schema counter) ≡ counters_in schema ++ with_number (length schema.definitions + 1) counter ∷ []
one_more_counter schema counter =
    let same : 1 + length schema.definitions ≡ length schema.definitions + 1 = omega arith in
    numbered_last 1 schema.definitions (OfCounter counter)
    ∙ ap (λ (n : ℕ). counters_in schema ++ with_number n counter ∷ []) same
