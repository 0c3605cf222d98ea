-- The counters of a schema, as more definitions come.
use Rattle.std.proofs.Common.{◌≡◌, ◌==◌, ℕ, suc, ◌+◌, ◌-◌, ◌<◌, ◌≤◌, Bool, true, false, if◌then◌else◌, inl, inr, List, [], ◌∷◌, ◌++◌, length, get_or, set, position, option_map, Option, Some, None, refl, sym, ap, ◌∙◌, subst, arith, length-append}
use Rattle.std.specs.Prelude.{All, IfSome, nat_le, unwrap_or}
use Rattle.std.specs.List.{AllByRecursion}
use Rattle.std.proofs.lemmas.Bool.{leb-false, eqb-true, cases_eq, false≢true}
use Rattle.std.proofs.lemmas.Option.{none-some, same_Some}
use Rattle.std.proofs.lemmas.List.{length-set, get_or_push, get_or-set_same, get_or-set_other}
use Rattle.std.proofs.lemmas.List.Elements.{All-nil, All-push, All-get_or, All-weaker, All-from_recursion}
use Rattle.std.proofs.lemmas.List.Quantifiers.{position-Some}
use Rattle.pq_base.specs.Answers.{or_else}
use Rattle.pq_base.specs.declared.count_word.TheConstants as count_word
use Rattle.pq_base.specs.declared.refusal.Refusal.TheVariants as refusal
use Rattle.pq_base.specs.declared.value.Value.{Value}
use Rattle.pq_schema.specs.declared.counter.Counter.{Counter}
use Rattle.pq_schema.specs.declared.definition.CounterDef.{CounterDef}
use Rattle.pq_schema.specs.declared.made.Definition.{Definition}
use Rattle.pq_schema.specs.declared.made.Definition.TheVariants.{OfTable, OfQuery, OfColumn, OfCounter}
use Rattle.pq_schema.specs.declared.table.Column.{Column}
use Rattle.pq_schema.specs.declared.table.NewIndex.{NewIndex}
use Rattle.pq_schema.specs.declared.table.Table.{Table}
use Rattle.pq_schema.specs.ColumnNames.{places_of, names_refusal}
use Rattle.pq_schema.specs.Counters.{IsMadeCounter, IsCounterNumber, IsNumberOf, AreRising}
use Rattle.pq_schema.specs.Definitions.{refused_if, is_outside, column_of, definition_refusal, altered_table, altered_schema, counting_refusal, counter_refusal, counter_of_def}
use Rattle.pq_schema.specs.Schema.{Schema, IsCounterDefinition, no_definition, counter_of, counter_at, counters_from, counters_of, definition_at, find_counter, find_table, is_counter, is_counter_of, made_of, number_of, with_added, with_counter, with_new_column, with_new_index, with_wanted}
use Rattle.pq_schema.specs.Tables.{no_table, table_at}
use Rattle.pq_schema.specs.Valid.{IsValid}
use Rattle.pq_schema.specs.Valid.IsValid.{empty, then_table, then_query, then_column, then_counter}
use Rattle.pq_schema.proofs.Accepted.{key_columns, neither, not_refused}
use Rattle.pq_schema.proofs.Numbered.{table_there}
use Rattle.pq_schema.proofs.Valid.{column_parts, column_takes, counter_parts, table_before, wanted_there}

-- ---- a counter that is found

named_counter : (name : List ℕ) (definition : Definition) → is_counter name definition ≡ true → IsCounterDefinition definition
named_counter name (OfTable table columns made) is = absurd (false≢true is)
named_counter name (OfQuery query made) is = absurd (false≢true is)
named_counter name (OfColumn table col) is = absurd (false≢true is)
named_counter name (OfCounter counter) is = tt

pub found_counter : (schema : Schema) (name : List ℕ) (number : ℕ) → find_counter schema name ≡ Some number → IsCounterNumber schema number
found_counter schema name number found = by (position (is_counter name) schema.definitions) refl found
  where
    by : (o : Option ℕ) → position (is_counter name) schema.definitions ≡ o → option_map number_of o ≡ Some number → IsCounterNumber schema number
    by None is some = absurd (none-some number some)
    by (Some place) is some =
        let at = position-Some (is_counter name) schema.definitions place no_definition is in
        let same : place + 1 ≡ number = same_Some _ _ some in
        let within = at.0 in
        let before : number - 1 ≡ place = omega (arith, same) in
        record {
          from_one = omega (arith, same);
          there = omega (arith, same, within);
          counter = subst (λ k. IsCounterDefinition (get_or schema.definitions k no_definition)) (sym before) (named_counter name (get_or schema.definitions place no_definition) at.1);
        }

-- ---- a counter that is defined

-- the counter is over its table, which has less than four others
record IsTaken (s : Schema) (counter : Counter) : Type 0 where
  counter_made : IsMadeCounter s.tables counter
  room : length (counters_of s counter.table) < 4

counted_made : (s : Schema) (def : CounterDef) (found : Option ℕ) → find_table s def.table ≡ found → counting_refusal s def found ≡ None
    → IsTaken s (record { name = def.name; table = unwrap_or found 0; cols = places_of (table_at s.tables (unwrap_or found 0)).columns def.cols })
counted_made s def None at none = absurd (none-some (refusal.NoTable def.table) (sym none))
counted_made s def (Some number) at none =
    let columns = (table_at s.tables number).columns in
    let many = nat_le 4 (length (counters_of s number)) in
    let names = names_refusal columns def.cols in
    let count = refused_if (is_outside (length def.cols) 4) (refusal.Count count_word.LIMIT_COLUMNS) in
    let first = neither (refused_if many (refusal.Count count_word.COUNTERS)) (or_else names count) none in
    let second = neither names count first.1 in
    let there = subst (λ o. IfSome o (λ number. (1 ≤ number) × (number ≤ length s.tables))) at (table_there s def.table) in
    record {
      counter_made = record {
        from_one = there.0;
        there = there.1;
        cols = key_columns columns def.cols second.0 (not_refused (is_outside (length def.cols) 4) (refusal.Count count_word.LIMIT_COLUMNS) second.1);
      };
      room = leb-false 4 (length (counters_of s number)) (not_refused many (refusal.Count count_word.COUNTERS) first.0);
    }

counter_taken : (s : Schema) (def : CounterDef) → counter_refusal s def ≡ None → IsTaken s (counter_of_def s def)
counter_taken s def none =
    counted_made s def (find_table s def.table) refl (neither (definition_refusal s def.name) (counting_refusal s def (find_table s def.table)) none).1

-- ---- tables with more columns

-- there are as many tables or more, and each has as many columns or more
record AreWider (before now : List Table) : Type 0 where
  long : length before ≤ length now
  each : (k : ℕ) → 1 ≤ k → k ≤ length before → length (table_at before k).columns ≤ length (table_at now k).columns

wider_self : (tables : List Table) → AreWider tables tables
wider_self tables = record { long = omega arith; each = λ k one there. omega arith }

wider_table : (tables : List Table) (table : Table) → AreWider tables (tables ++ table ∷ [])
wider_table tables table = record {
  long = let long = length-append tables (table ∷ []) in omega (arith, long);
  each = λ k one there. let same = ap (λ (t : Table). length t.columns) (table_before tables table k one (omega (arith, there))) in omega (arith, same);
}

-- one table of them changed
wider_set : (tables : List Table) (place : ℕ) (changed : Table) → 1 ≤ place → length (table_at tables place).columns ≤ length changed.columns → AreWider tables (set tables (place - 1) changed)
wider_set tables place changed one_at more =
    let long = length-set tables (place - 1) changed in
    record {
      long = omega (arith, long);
      each = λ k one there. elim (cases_eq k place) [
        | inl same ↦
            let here : table_at (set tables (place - 1) changed) place ≡ changed = get_or-set_same tables (place - 1) changed no_table (omega (arith, same, one, there)) in
            subst (λ n. length (table_at tables n).columns ≤ length (table_at (set tables (place - 1) changed) n).columns) (sym same)
            (subst (λ (t : Table). length (table_at tables place).columns ≤ length t.columns) (sym here) more)
        | inr other ↦
            let kept : table_at (set tables (place - 1) changed) k ≡ table_at tables k = get_or-set_other tables (place - 1) (k - 1) changed no_table (λ e. other (omega (arith, e, one, one_at))) in
            let width = ap (λ (t : Table). length t.columns) kept in
            omega (arith, width)
      ];
    }

wider_wanted : (tables : List Table) (wanted : Option NewIndex) → IfSome wanted (λ new. (1 ≤ new.table) × (new.table ≤ length tables)) → AreWider tables (with_wanted tables wanted)
wider_wanted tables None there = wider_self tables
wider_wanted tables (Some new) there =
    wider_set tables new.table (with_new_index (table_at tables new.table) new.index) there.0 (omega arith)

wider_added : (tables : List Table) (number : ℕ) (column : Column) (filler : Value) → 1 ≤ number → AreWider tables (with_added tables number column filler)
wider_added tables number column filler one =
    let long = length-append (table_at tables number).columns (column ∷ []) in
    wider_set tables number (with_new_column (table_at tables number) column filler) one (omega (arith, long))

-- the counters keep their tables and columns
counter_wider : (before now : List Table) → AreWider before now → (counter : Counter) → IsMadeCounter before counter → IsMadeCounter now counter
counter_wider before now wider counter made =
    let more = wider.each counter.table made.from_one made.there in
    let was = length (table_at before counter.table).columns in
    let is = length (table_at now counter.table).columns in
    record {
      from_one = made.from_one;
      there = let there = made.there in let long = wider.long in omega (arith, there, long);
      cols = record {
        some = made.cols.some;
        few = made.cols.few;
        inside = All-weaker (λ col. col < was) (λ col. col < is) (λ col lt. omega (arith, lt, more)) counter.cols made.cols.inside;
        different = made.cols.different;
      };
    }

-- ---- the counters of a valid schema

abbrev HasCounter : List Table → Definition → Type 0
HasCounter tables (OfTable table columns made) = Unit {0}
HasCounter tables (OfQuery query made) = Unit {0}
HasCounter tables (OfColumn table col) = Unit {0}
HasCounter tables (OfCounter counter) = IsMadeCounter tables counter

has_wider : (before now : List Table) → AreWider before now → (definition : Definition) → HasCounter before definition → HasCounter now definition
has_wider before now wider (OfTable table columns made) is = tt
has_wider before now wider (OfQuery query made) is = tt
has_wider before now wider (OfColumn table col) is = tt
has_wider before now wider (OfCounter counter) is = counter_wider before now wider counter is

-- one more definition
have_more : (before now : List Table) (definitions : List Definition) (last : Definition) → AreWider before now → All (HasCounter before) definitions → HasCounter now last → All (HasCounter now) (definitions ++ last ∷ [])
have_more before now definitions last wider all own =
    All-push (HasCounter now) definitions last (All-weaker (HasCounter before) (HasCounter now) (has_wider before now wider) definitions all) own

valid_counters : {s : Schema} → IsValid s → All (HasCounter s.tables) s.definitions
valid_counters empty = All-nil (HasCounter [])
valid_counters (then_table s def table v d made) =
    have_more s.tables (s.tables ++ table ∷ []) s.definitions (OfTable (length s.tables + 1) (length table.columns) (length table.indexes)) (wider_table s.tables table) (valid_counters v) tt
valid_counters (then_query s query wanted v d) =
    have_more s.tables (with_wanted s.tables wanted) s.definitions (OfQuery query (option_map made_of wanted)) (wider_wanted s.tables wanted (wanted_there s.tables query wanted d.resolved d.chosen)) (valid_counters v) tt
valid_counters (then_column s def next v is) =
    let parts = column_parts s def next is.accepted in
    let number = altered_table s def in
    subst (λ (x : Schema). All (HasCounter x.tables) x.definitions) parts.1
    (have_more s.tables (altered_schema s def).tables s.definitions (OfColumn number (length (table_at s.tables number).columns)) (wider_added s.tables number (column_of def.column) def.filler (column_takes s def parts.0).from_one) (valid_counters v) tt)
valid_counters (then_counter s def next v is) =
    let parts = counter_parts s def next is.accepted in
    subst (λ (x : Schema). All (HasCounter x.tables) x.definitions) parts.1
    (have_more s.tables s.tables s.definitions (OfCounter (counter_of_def s def)) (wider_self s.tables) (valid_counters v) (counter_taken s def parts.0).counter_made)

counter_in : (tables : List Table) (definition : Definition) → IsCounterDefinition definition → HasCounter tables definition → IsMadeCounter tables (counter_of definition)
counter_in tables (OfTable table columns made) is has = absurd is
counter_in tables (OfQuery query made) is has = absurd is
counter_in tables (OfColumn table col) is has = absurd is
counter_in tables (OfCounter counter) is has = has

pub counter_made : (s : Schema) (number : ℕ) → IsValid s → IsCounterNumber s number → IsMadeCounter s.tables (counter_at s number)
counter_made s number v is =
    let one = is.from_one in
    let there = is.there in
    counter_in s.tables (definition_at s number) is.counter
    (All-get_or (HasCounter s.tables) s.definitions (number - 1) no_definition (omega (arith, one, there)) (valid_counters v))

-- where a counter is defined there is a table
pub counter_over_table : (s : Schema) (counter : Counter) → IsValid (with_counter s counter) → 1 ≤ length s.tables
counter_over_table s counter v =
    let last = All-get_or (HasCounter s.tables) (s.definitions ++ OfCounter counter ∷ []) (length s.definitions) no_definition (omega (arith, length-append s.definitions (OfCounter counter ∷ []))) (valid_counters v) in
    let made : IsMadeCounter s.tables counter = subst (HasCounter s.tables) (get_or_push s.definitions (OfCounter counter) no_definition (length s.definitions) refl) last in
    let one = made.from_one in
    let there = made.there in
    omega (arith, one, there)

-- ---- the counters of a table

-- the number of a counter among definitions that are numbered from a number on
record IsFrom (table from : ℕ) (definitions : List Definition) (number : ℕ) : Type 0 where
  low : from ≤ number
  high : number < from + length definitions
  of_table : is_counter_of table (get_or definitions (number - from) no_definition) ≡ true

is_later : (table from : ℕ) (definition : Definition) (definitions : List Definition) (number : ℕ) → IsFrom table (from + 1) definitions number → IsFrom table from (definition ∷ definitions) number
is_later table from definition definitions number is =
    let low = is.low in
    let high = is.high in
    let place : number - from ≡ suc (number - (from + 1)) = omega (arith, low) in
    record {
      low = omega (arith, low);
      high = omega (arith, high);
      of_table = ap (λ i. is_counter_of table (get_or (definition ∷ definitions) i no_definition)) place ∙ is.of_table;
    }

rec_weaker : (P Q : ℕ → Type 0) → ((n : ℕ) → P n → Q n) → (ns : List ℕ) → AllByRecursion P ns → AllByRecursion Q ns
rec_weaker P Q weaker [] all = tt
rec_weaker P Q weaker (n ∷ ns) all = (weaker n all.0, rec_weaker P Q weaker ns all.1)

numbers_from : (table from : ℕ) (definitions : List Definition) → AllByRecursion (IsFrom table from definitions) (counters_from table from definitions)
numbers_from table from [] = tt
numbers_from table from (definition ∷ definitions) =
    by (is_counter_of table definition) refl
    (rec_weaker (IsFrom table (from + 1) definitions) (IsFrom table from (definition ∷ definitions)) (is_later table from definition definitions) (counters_from table (from + 1) definitions) (numbers_from table (from + 1) definitions))
  where
    here : is_counter_of table definition ≡ true → IsFrom table from (definition ∷ definitions) from
    here is =
        let place : from - from ≡ 0 = omega arith in
        record { low = omega arith; high = omega arith; of_table = ap (λ i. is_counter_of table (get_or (definition ∷ definitions) i no_definition)) place ∙ is }

    by : (b : Bool) → is_counter_of table definition ≡ b → AllByRecursion (IsFrom table from (definition ∷ definitions)) (counters_from table (from + 1) definitions)
        → AllByRecursion (IsFrom table from (definition ∷ definitions)) (if b then from ∷ counters_from table (from + 1) definitions else counters_from table (from + 1) definitions)
    by true is rest = (here is, rest)
    by false is rest = rest

of_counter : (table : ℕ) (definition : Definition) → is_counter_of table definition ≡ true → IsCounterDefinition definition × ((counter_of definition).table ≡ table)
of_counter table (OfTable of columns made) is = absurd (false≢true is)
of_counter table (OfQuery query made) is = absurd (false≢true is)
of_counter table (OfColumn of col) is = absurd (false≢true is)
of_counter table (OfCounter counter) is = (tt, eqb-true counter.table table is)

number_from : (s : Schema) (table number : ℕ) → IsFrom table 1 s.definitions number → IsNumberOf s table number
number_from s table number is =
    let low = is.low in
    let high = is.high in
    let of = of_counter table (definition_at s number) is.of_table in
    record { number_is = record { from_one = low; there = omega (arith, high); counter = of.0 }; table_is = of.1 }

pub counter_numbers : (s : Schema) (table : ℕ) → All (IsNumberOf s table) (counters_of s table)
counter_numbers s table =
    All-from_recursion (IsNumberOf s table) (counters_of s table)
    (rec_weaker (IsFrom table 1 s.definitions) (IsNumberOf s table) (number_from s table) (counters_of s table) (numbers_from table 1 s.definitions))

-- each is below those behind it
rise_from : (table from : ℕ) (definitions : List Definition) → AreRising (counters_from table from definitions)
rise_from table from [] = tt
rise_from table from (definition ∷ definitions) = by (is_counter_of table definition) (rise_from table (from + 1) definitions)
  where
    behind : AllByRecursion (λ other. from < other) (counters_from table (from + 1) definitions)
    behind = rec_weaker (IsFrom table (from + 1) definitions) (λ other. from < other) (λ n is. let low = is.low in omega (arith, low)) (counters_from table (from + 1) definitions) (numbers_from table (from + 1) definitions)

    by : (b : Bool) → AreRising (counters_from table (from + 1) definitions) → AreRising (if b then from ∷ counters_from table (from + 1) definitions else counters_from table (from + 1) definitions)
    by true rest = (behind, rest)
    by false rest = rest

pub counters_rise : (s : Schema) (table : ℕ) → AreRising (counters_of s table)
counters_rise s table = rise_from table 1 s.definitions

-- ---- how many they are

abbrev one_if : Bool → ℕ
one_if true = 1
one_if false = 0

count_last : (table from : ℕ) (definitions : List Definition) (last : Definition) → length (counters_from table from (definitions ++ last ∷ [])) ≡ length (counters_from table from definitions) + one_if (is_counter_of table last)
count_last table from [] last = by (is_counter_of table last)
  where
    by : (b : Bool) → length (if b then from ∷ [] else []) ≡ 0 + one_if b
    by true = refl
    by false = refl
count_last table from (definition ∷ definitions) last = by (is_counter_of table definition) (count_last table (from + 1) definitions last)
  where
    by : (b : Bool) → length (counters_from table (from + 1) (definitions ++ last ∷ [])) ≡ length (counters_from table (from + 1) definitions) + one_if (is_counter_of table last)
        → length (if b then from ∷ counters_from table (from + 1) (definitions ++ last ∷ []) else counters_from table (from + 1) (definitions ++ last ∷ []))
        ≡ length (if b then from ∷ counters_from table (from + 1) definitions else counters_from table (from + 1) definitions) + one_if (is_counter_of table last)
    by true rest = omega (arith, rest)
    by false rest = rest

-- a definition of another kind is none of them
count_same : (table : ℕ) (definitions : List Definition) (last : Definition) → is_counter_of table last ≡ false → length (counters_from table 1 definitions) ≤ 4 → length (counters_from table 1 (definitions ++ last ∷ [])) ≤ 4
count_same table definitions last other few =
    let more = count_last table 1 definitions last in
    let none = ap one_if other in
    omega (arith, more, none, few)

count_more : (s : Schema) (counter : Counter) (table : ℕ) → IsTaken s counter → length (counters_of s table) ≤ 4 → length (counters_of (with_counter s counter) table) ≤ 4
count_more s counter table taken few = by (counter.table == table) refl
  where
    by : (b : Bool) → (counter.table == table) ≡ b → length (counters_of (with_counter s counter) table) ≤ 4
    by true is =
        let more = count_last table 1 s.definitions (OfCounter counter) in
        let one = ap one_if is in
        let room = subst (λ n. length (counters_of s n) < 4) (eqb-true counter.table table is) taken.room in
        omega (arith, more, one, room)
    by false is = count_same table s.definitions (OfCounter counter) is few

pub few_counters : {s : Schema} (table : ℕ) → IsValid s → length (counters_of s table) ≤ 4
few_counters table empty = omega arith
few_counters table (then_table s def made_table v d made) =
    count_same table s.definitions (OfTable (length s.tables + 1) (length made_table.columns) (length made_table.indexes)) refl (few_counters table v)
few_counters table (then_query s query wanted v d) = count_same table s.definitions (OfQuery query (option_map made_of wanted)) refl (few_counters table v)
few_counters table (then_column s def next v is) =
    let number = altered_table s def in
    subst (λ (x : Schema). length (counters_of x table) ≤ 4) (column_parts s def next is.accepted).1
    (count_same table s.definitions (OfColumn number (length (table_at s.tables number).columns)) refl (few_counters table v))
few_counters table (then_counter s def next v is) =
    let parts = counter_parts s def next is.accepted in
    subst (λ (x : Schema). length (counters_of x table) ≤ 4) parts.1
    (count_more s (counter_of_def s def) table (counter_taken s def parts.0) (few_counters table v))
