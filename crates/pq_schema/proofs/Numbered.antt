-- Numbers found by name, as more definitions come.
use Rattle.std.proofs.Common.{◌≡◌, ℕ, suc, ◌+◌, ◌-◌, ◌≤◌, Bool, true, false, cond, if◌then◌else◌, not, ◌||◌, List, [], ◌∷◌, ◌++◌, length, set, get_or, position, Option, Some, None, is_some, option_map, refl, sym, ap, ◌∙◌, subst, true≢false, arith}
use Rattle.std.specs.Prelude.{nat_lt, IfSome}
use Rattle.std.proofs.lemmas.List.{length-set}
use Rattle.std.proofs.lemmas.List.Folds.{position_or_len-set}
use Rattle.std.proofs.lemmas.List.Quantifiers.{position-Some}
use Rattle.std.specs.List.{position_or_len}
use Rattle.std.specs.Str.{bytes_eq}
use Rattle.std.specs.HashMap.{HashMap, get}
use Rattle.std.specs.String.{string_bytes, string_eq}
use Rattle.std.specs.Map.{lookup}
use Rattle.std.specs.declared.string.String.{String}
use Rattle.std.proofs.lemmas.Slice.Eq.{bytes_eq-Decides}
use Rattle.pq_schema.specs.declared.counter.Counter.{Counter}
use Rattle.pq_schema.specs.declared.made.Definition.{Definition}
use Rattle.pq_schema.specs.declared.made.Definition.TheVariants.{OfTable, OfQuery, OfColumn, OfCounter}
use Rattle.pq_schema.specs.declared.query.Query.{Query}
use Rattle.pq_base.specs.declared.value.Value.{Value}
use Rattle.pq_schema.specs.declared.table.Column.{Column}
use Rattle.pq_schema.specs.declared.table.NewIndex.{NewIndex}
use Rattle.pq_schema.specs.declared.table.Table.{Table}
use Rattle.pq_schema.specs.Numbered.{text_is, AreNumbered, HasSameNumbers, PutsNumber}
use Rattle.pq_schema.specs.Schema.{Schema, empty_schema, find_table, find_query, find_counter, is_table, is_query, is_taken, number_of, with_table, with_query, with_column, with_counter, with_wanted, with_added, with_new_index, with_new_column, made_of}
use Rattle.pq_schema.specs.Tables.{no_table, table_at}
use Rattle.pq_schema.specs.Valid.{IsSound}

-- ---- the first place, by recursion

abbrev place : {X : Type 0} → (X → Bool) → List X → Option ℕ
place p [] = None
place p (x ∷ xs) = if p x then Some 0 else option_map suc (place p xs)

mapped : (n len : ℕ) → cond (nat_lt (1 + n) (suc len)) (Some (1 + n)) None ≡ option_map suc (cond (nat_lt n len) (Some n) None)
mapped n len = grind (arith)

place_is : {X : Type 0} (p : X → Bool) (xs : List X) → position p xs ≡ place p xs
place_is p [] = refl
place_is p (x ∷ xs) = by (p x) (place_is p xs)
  where
    by : (b : Bool) → position p xs ≡ place p xs → cond (nat_lt (cond (not b) (1 + position_or_len p xs) 0) (length (x ∷ xs))) (Some (cond (not b) (1 + position_or_len p xs) 0)) None ≡ (if b then Some 0 else option_map suc (place p xs))
    by true rest = grind (arith)
    by false rest = mapped (position_or_len p xs) (length xs) ∙ ap (option_map suc) rest

-- the first answer, or else the second
abbrev first_of : {A : Type 0} → Option A → Option A → Option A
first_of (Some a) other = Some a
first_of None other = other

place_last : {X : Type 0} (p : X → Bool) (xs : List X) (x : X) → place p (xs ++ x ∷ []) ≡ first_of (place p xs) (if p x then Some (length xs) else None)
place_last p [] x = refl
place_last p (y ∷ ys) x = by (p y) (p x) (place p ys) (place_last p ys x)
  where
    by : (b c : Bool) (r : Option ℕ) → place p (ys ++ x ∷ []) ≡ first_of r (if c then Some (length ys) else None)
        → (if b then Some 0 else option_map suc (place p (ys ++ x ∷ []))) ≡ first_of (if b then Some 0 else option_map suc r) (if c then Some (suc (length ys)) else None)
    by true c r e = refl
    by false c (Some i) e = ap (option_map suc) e
    by false true None e = ap (option_map suc) e
    by false false None e = ap (option_map suc) e

position_last : {X : Type 0} (p : X → Bool) (xs : List X) (x : X) → position p (xs ++ x ∷ []) ≡ first_of (position p xs) (if p x then Some (length xs) else None)
position_last p xs x = place_is p (xs ++ x ∷ []) ∙ place_last p xs x ∙ ap (λ r. first_of r (if p x then Some (length xs) else None)) (sym (place_is p xs))

-- ---- one more

never : {A : Type 0} (n : ℕ) → Some n ≡ None → A
never n is = absurd (cc)

-- the last one gets the next number, where none before it has its name
numbers_more : {X : Type 0} (p : X → Bool) (xs : List X) (x : X) (named : Bool) (before after : Option ℕ) → option_map number_of (position p xs) ≡ before → p x ≡ named → (named ≡ true → before ≡ None)
    → after ≡ (if named then Some (number_of (length xs)) else before) → option_map number_of (position p (xs ++ x ∷ [])) ≡ after
numbers_more p xs x named before after law same free put =
    ap (option_map number_of) (position_last p xs x)
    ∙ ap (λ b. option_map number_of (first_of (position p xs) (if b then Some (length xs) else None))) same
    ∙ by before (position p xs) named law free
    ∙ sym put
  where
    by : (o i : Option ℕ) (b : Bool) → option_map number_of i ≡ o → (b ≡ true → o ≡ None) → option_map number_of (first_of i (if b then Some (length xs) else None)) ≡ (if b then Some (number_of (length xs)) else o)
    by o (Some i) true has none = never (number_of i) (has ∙ none refl)
    by o None true has none = refl
    by o (Some i) false has none = has
    by o None false has none = has

-- one that the test leaves out changes nothing
numbers_same : {X : Type 0} (p : X → Bool) (xs : List X) (x : X) → p x ≡ false → option_map number_of (position p (xs ++ x ∷ [])) ≡ option_map number_of (position p xs)
numbers_same p xs x off =
    ap (option_map number_of) (position_last p xs x ∙ ap (λ b. first_of (position p xs) (if b then Some (length xs) else None)) off ∙ alone (position p xs))
  where
    alone : (i : Option ℕ) → first_of i None ≡ i
    alone (Some i) = refl
    alone None = refl

-- ---- names

same_name : (a b : List ℕ) → bytes_eq a b ≡ true → a ≡ b
same_name a b is = (bytes_eq-Decides a b).0 is

-- ---- names in maps

-- the key of what is found passes the test
hit : {K X : Type 0} (t : K → Bool) (es : List (K × X)) (x : X) → lookup t es ≡ Some x → (k : K) × (t k ≡ true)
hit t [] x is = absurd (cc)
hit {K = K} {X = X} t (e ∷ es) x is = by (t e.0) refl is (λ rest. hit t es x rest)
  where
    by : (b : Bool) → t e.0 ≡ b → cond b (Some e.1) (lookup t es) ≡ Some x → (lookup t es ≡ Some x → (k : K) × (t k ≡ true)) → (k : K) × (t k ≡ true)
    by true h found rest = (e.0, h)
    by false h found rest = rest found

-- maps that agree at each key have the same under each name
pub same_texts : {A X S : Type 0} (old new : HashMap (String A) X S) → ((key : String A) → get string_eq new key ≡ get string_eq old key) → HasSameNumbers old.entries new.entries
same_texts {A = A} {X = X} old new same name = by (lookup (text_is name) new.entries) (lookup (text_is name) old.entries) refl refl
  where
    at : (key : String A) → text_is name key ≡ true → lookup (text_is name) new.entries ≡ lookup (text_is name) old.entries
    at key is = subst (λ n. lookup (text_is n) new.entries ≡ lookup (text_is n) old.entries) (sym (same_name name (string_bytes key) is)) (same key)

    by : (o p : Option X) → lookup (text_is name) new.entries ≡ o → lookup (text_is name) old.entries ≡ p → lookup (text_is name) new.entries ≡ lookup (text_is name) old.entries
    by None None e f = e ∙ sym f
    by (Some x) p e f = let k = hit (text_is name) new.entries x e in at k.0 k.1
    by None (Some x) e f = let k = hit (text_is name) old.entries x f in at k.0 k.1

-- ---- the steps

position_set : {X : Type 0} (p : X → Bool) (xs : List X) (i : ℕ) (x d : X) → p x ≡ p (get_or xs i d) → position p (set xs i x) ≡ position p xs
position_set p xs i x d same = λ j. cond (nat_lt (position_or_len-set p xs i x d same j) (length-set xs i x j)) (Some (position_or_len-set p xs i x d same j)) None

-- an index more leaves the tables' names
pub wanted_places : (tables : List Table) (wanted : Option NewIndex) (name : List ℕ) → position (is_table name) (with_wanted tables wanted) ≡ position (is_table name) tables
wanted_places tables None name = refl
wanted_places tables (Some new) name = position_set (is_table name) tables (new.table - 1) (with_new_index (table_at tables new.table) new.index) no_table refl

-- nor does a column more
pub added_places : (tables : List Table) (number : ℕ) (column : Column) (filler : Value) (name : List ℕ) → position (is_table name) (with_added tables number column filler) ≡ position (is_table name) tables
added_places tables number column filler name = position_set (is_table name) tables (number - 1) (with_new_column (table_at tables number) column filler) no_table refl

-- the parts of a catalog are those of a sound schema, with its numbers
pub catalog_as : {A : Type 0} (s : Schema) (tables : List Table) (definitions : List Definition) (tns qns : List (String A × ℕ)) → tables ≡ s.tables → definitions ≡ s.definitions → IsSound s → AreNumbered s tns qns
    → IsSound (record { tables = tables; definitions = definitions }) × AreNumbered (record { tables = tables; definitions = definitions }) tns qns
catalog_as s tables definitions tns qns e f sound numbered =
    let next : Schema = record { tables = tables; definitions = definitions } in
    let same : s ≡ next = λ i. record { tables = sym e i; definitions = sym f i } in
    (subst IsSound same sound, subst (λ (x : Schema). AreNumbered x tns qns) same numbered)

pub none_numbered : {A : Type 0} → AreNumbered {A = A} empty_schema [] []
none_numbered = record { table = λ name. refl; query = λ name. refl }

module _ {A : Type 0} (schema : Schema) (tables queries : List (String A × ℕ)) (numbered : AreNumbered schema tables queries) where
  pub same_numbered : (tables' queries' : List (String A × ℕ)) → HasSameNumbers tables tables' → HasSameNumbers queries queries' → AreNumbered schema tables' queries'
  same_numbered tables' queries' ts qs = record {
    table = λ name. numbered.table name ∙ sym (ts name);
    query = λ name. numbered.query name ∙ sym (qs name);
  }

  -- a name that is not taken has no number
  neither : (o p q : Option ℕ) → (is_some o || (is_some p || is_some q)) ≡ false → (o ≡ None) × (p ≡ None)
  neither None None q free = (refl, refl)
  neither None (Some n) q free = absurd (true≢false free)
  neither (Some n) p q free = absurd (true≢false free)

  pub no_table_number : (name : List ℕ) → is_taken schema name ≡ false → lookup (text_is name) tables ≡ None
  no_table_number name free = sym (numbered.table name) ∙ (neither (find_table schema name) (find_query schema name) (find_counter schema name) free).0

  pub no_query_number : (name : List ℕ) → is_taken schema name ≡ false → lookup (text_is name) queries ≡ None
  no_query_number name free = sym (numbered.query name) ∙ (neither (find_table schema name) (find_query schema name) (find_counter schema name) free).1

  pub table_numbered : (key : List ℕ) (table : Table) (next : List (String A × ℕ)) → key ≡ table.name → is_taken schema table.name ≡ false → PutsNumber key (length schema.tables + 1) tables next → AreNumbered (with_table schema table) next queries
  table_numbered key table next keyed free put = record {
    table = λ name. numbers_more (is_table name) schema.tables table (bytes_eq key name) (lookup (text_is name) tables) (lookup (text_is name) next) (numbered.table name) (sym (ap (λ k. bytes_eq k name) keyed))
        (λ is. subst (λ n. lookup (text_is n) tables ≡ None) (sym keyed ∙ same_name key name is) (no_table_number table.name free)) (put name);
    query = λ name. numbers_same (is_query name) schema.definitions (OfTable (length schema.tables + 1) (length table.columns) (length table.indexes)) refl ∙ numbered.query name;
  }

  pub query_numbered : (key : List ℕ) (query : Query) (wanted : Option NewIndex) (next : List (String A × ℕ)) → key ≡ query.name → is_taken schema query.name ≡ false → PutsNumber key (length schema.definitions + 1) queries next → AreNumbered (with_query schema query wanted) tables next
  query_numbered key query wanted next keyed free put = record {
    table = λ name. ap (option_map number_of) (wanted_places schema.tables wanted name) ∙ numbered.table name;
    query = λ name. numbers_more (is_query name) schema.definitions (OfQuery query (option_map made_of wanted)) (bytes_eq key name) (lookup (text_is name) queries) (lookup (text_is name) next) (numbered.query name) (sym (ap (λ k. bytes_eq k name) keyed))
        (λ is. subst (λ n. lookup (text_is n) queries ≡ None) (sym keyed ∙ same_name key name is) (no_query_number query.name free)) (put name);
  }

  pub column_numbered : (number : ℕ) (column : Column) (filler : Value) → AreNumbered (with_column schema number column filler) tables queries
  column_numbered number column filler = record {
    table = λ name. ap (option_map number_of) (added_places schema.tables number column filler name) ∙ numbered.table name;
    query = λ name. numbers_same (is_query name) schema.definitions (OfColumn number (length (table_at schema.tables number).columns)) refl ∙ numbered.query name;
  }

  pub counter_numbered : (counter : Counter) → AreNumbered (with_counter schema counter) tables queries
  counter_numbered counter = record {
    table = numbered.table;
    query = λ name. numbers_same (is_query name) schema.definitions (OfCounter counter) refl ∙ numbered.query name;
  }

-- the number of a table that is found is one of theirs
pub table_there : (schema : Schema) (name : List ℕ) → IfSome (find_table schema name) (λ number. (1 ≤ number) × (number ≤ length schema.tables))
table_there schema name = by (position (is_table name) schema.tables) refl
  where
    by : (r : Option ℕ) → position (is_table name) schema.tables ≡ r → IfSome (option_map number_of r) (λ number. (1 ≤ number) × (number ≤ length schema.tables))
    by None is = tt
    by (Some i) is = let within = (position-Some (is_table name) schema.tables i no_table is).0 in (omega arith, omega (arith, within))
