-- One more table, or more indexes, leave the rows as they are.
use Rattle.std.proofs.Common.{◌≡◌, ℕ, ◌-◌, ◌<◌, true, false, cond, ◌&&◌, ◌==◌, ◌⊎◌, inl, inr, List, [], ◌∷◌, ◌++◌, length, Option, refl, sym, ap, ◌∙◌, subst, arith, ◌≤◌}
use Rattle.std.specs.Prelude.{filter, IsSome}
use Rattle.std.specs.List.{AllByRecursion}
use Rattle.std.specs.List as lists
use Rattle.std.proofs.lemmas.Bool.{eqb-true, cases_lt}
use Rattle.std.proofs.lemmas.List.{get_or_append_left, length-append}
use Rattle.pq_base.specs.declared.value.Value.{Value}
use Rattle.pq_base.specs.Values.{AllFit}
use Rattle.pq_schema.specs.declared.table.Limit.{Limit}
use Rattle.pq_schema.specs.declared.table.Table.{Table}
use Rattle.pq_schema.specs.Tables.{table_at, no_table}
use Rattle.std.specs.FinMap.{from_entries}
use Rattle.pq_content.specs.Pairs.{Pair, pairs_of_row, row_pairs, content_pairs}
use Rattle.pq_store.specs.Content.{key_cmp}
use Rattle.pq_content.specs.Tables.{Rows, rows_of, types_of, key_of, cells, agrees, has_key, row_at, group_of, IsTableNumber, AreApart, IsWithinLimit, HasParent, Keeps, stored_code}
use Rattle.pq_content.proofs.Keeping.{number_of_found}
use Rattle.pq_base.proofs.Members.{each_weaker, each_both}

-- each row's table is one of the tables
abbrev pub EachKnown : List Table → Rows → Type 0
EachKnown tables rows = AllByRecursion (λ (e : ℕ × List Value). IsTableNumber tables e.0) rows

-- ---- one more table

pub table_at-more : (tables : List Table) (table : Table) (t : ℕ) → IsTableNumber tables t → table_at (tables ++ table ∷ []) t ≡ table_at tables t
table_at-more tables table t is = get_or_append_left tables (table ∷ []) no_table (t - 1) (let low = is.0 in let high = is.1 in omega arith)

pub row_at-more : (tables : List Table) (table : Table) (rows : Rows) (t : ℕ) (key : List Value) → IsTableNumber tables t → row_at (tables ++ table ∷ []) rows t key ≡ row_at tables rows t key
row_at-more tables table rows t key is = ap (λ (x : Table). lists.find (agrees x.key key) (rows_of t rows)) (table_at-more tables table t is)

pub has_key-more : (tables : List Table) (table : Table) (t : ℕ) (key : List Value) (f : ℕ × List Value) → IsTableNumber tables t → has_key (tables ++ table ∷ []) t key f ≡ has_key tables t key f
has_key-more tables table t key f is = ap (λ (x : Table). (f.0 == t) && agrees x.key key f.1) (table_at-more tables table t is)

pub row_pairs-more : (tables : List Table) (table : Table) (rows : Rows) → EachKnown tables rows → row_pairs (tables ++ table ∷ []) rows ≡ row_pairs tables rows
row_pairs-more tables table [] known = refl
row_pairs-more tables table (e ∷ es) known =
    λ i. pairs_of_row e.0 (table_at-more tables table e.0 known.0 i) e.1 ++ row_pairs-more tables table es known.1 i

pub pairs-more : (tables : List Table) (table : Table) (rows : Rows) (others : List Pair) → EachKnown tables rows → content_pairs (tables ++ table ∷ []) rows others ≡ content_pairs tables rows others
unfolding content_pairs
pairs-more tables table rows others known = ap (λ (l : List Pair). from_entries {R = key_cmp} (l ++ others)) (row_pairs-more tables table rows known)

number-more : (tables : List Table) (table : Table) (t : ℕ) → IsTableNumber tables t → IsTableNumber (tables ++ table ∷ []) t
number-more tables table t is = (is.0, let high = is.1 in omega (arith, length-append tables (table ∷ [])))

number_cases : (tables : List Table) (table : Table) (t : ℕ) → IsTableNumber (tables ++ table ∷ []) t → IsTableNumber tables t ⊎ (length tables < t)
number_cases tables table t is = elim (cases_lt (length tables) t) [ inl above ↦ inr above | inr below ↦ inl (is.0, below) ]

-- no row is of a table that is not there
no_rows : (tables : List Table) (rows : Rows) (t : ℕ) → EachKnown tables rows → length tables < t → rows_of t rows ≡ []
no_rows tables [] t known above = refl
no_rows tables (e ∷ es) t known above =
    elim (e.0 == t) as (λ b. (e.0 == t) ≡ b → cond b (e.1 ∷ rows_of t es) (rows_of t es) ≡ []) [
      | true ↦ λ is. let same = eqb-true e.0 t is in let high = known.0.1 in absurd (omega arith)
      | false ↦ λ _. no_rows tables es t known.1 above
    ] refl

each_within_none : (t : ℕ) (rows : Rows) (limits : List Limit) → rows_of t rows ≡ [] → AllByRecursion (IsWithinLimit t rows) limits
each_within_none t rows [] none = tt
each_within_none t rows (limit ∷ limits) none =
    ((λ values plain. let is : length (group_of t limit.cols values rows) ≡ 0 = ap (λ (l : List (List Value)). length (filter (agrees limit.cols values) l)) none in omega arith), each_within_none t rows limits none)

apart-more : (tables : List Table) (table : Table) (rows : Rows) → EachKnown tables rows → AreApart tables rows → AreApart (tables ++ table ∷ []) rows
apart-more tables table [] known apart = tt
apart-more tables table (e ∷ es) known apart =
    let key = λ (ts : List Table). key_of (table_at ts e.0) e.1 in
    let own : key (tables ++ table ∷ []) ≡ key tables = ap (λ (x : Table). key_of x e.1) (table_at-more tables table e.0 known.0) in
    (each_weaker (λ (f : ℕ × List Value). has_key tables e.0 (key tables) f ≡ false) (λ (f : ℕ × List Value). has_key (tables ++ table ∷ []) e.0 (key (tables ++ table ∷ [])) f ≡ false) (λ f h. has_key-more tables table e.0 (key (tables ++ table ∷ [])) f known.0 ∙ ap (λ (k : List Value). has_key tables e.0 k f) own ∙ h) es apart.0, apart-more tables table es known.1 apart.1)

pub keeps-more : (tables : List Table) (table : Table) (rows : Rows) → Keeps tables rows → Keeps (tables ++ table ∷ []) rows
keeps-more tables table rows keeps =
    let more : List Table = tables ++ table ∷ [] in
    record {
      schema = record {
        known = each_weaker (λ (e : ℕ × List Value). IsTableNumber tables e.0) (λ (e : ℕ × List Value). IsTableNumber more e.0) (λ e is. number-more tables table e.0 is) rows keeps.known;
        fit = each_both (λ (e : ℕ × List Value). IsTableNumber tables e.0) (λ (e : ℕ × List Value). AllFit (types_of (table_at tables e.0)) e.1) (λ (e : ℕ × List Value). AllFit (types_of (table_at more e.0)) e.1) (λ e is fits. subst (λ (x : Table). AllFit (types_of x) e.1) (sym (table_at-more tables table e.0 is)) fits) rows keeps.known keeps.fit;
        apart = apart-more tables table rows keeps.known keeps.apart;
        limits = λ t is. elim (number_cases tables table t is) [
          | inl old ↦ subst (λ (x : Table). AllByRecursion (IsWithinLimit t rows) x.limits) (sym (table_at-more tables table t old)) (keeps.limits t old)
          | inr new ↦ each_within_none t rows (table_at more t).limits (no_rows tables rows t keeps.known new)
        ];
        foreign = each_both (λ (e : ℕ × List Value). IsTableNumber tables e.0) (λ (e : ℕ × List Value). AllByRecursion (HasParent tables rows e.1) (table_at tables e.0).foreign) (λ (e : ℕ × List Value). AllByRecursion (HasParent more rows e.1) (table_at more e.0).foreign) (λ e is parents.
            subst (λ (x : Table). AllByRecursion (HasParent more rows e.1) x.foreign) (sym (table_at-more tables table e.0 is)) (each_weaker (HasParent tables rows e.1) (HasParent more rows e.1) (λ foreign there plain. let key = cells foreign.cols e.1 in subst (λ (o : Option (List Value)). IsSome o) (sym (row_at-more tables table rows foreign.table key (number_of_found tables rows foreign.table key keeps.known (there plain)))) (there plain)) (table_at tables e.0).foreign parents)) rows keeps.known keeps.foreign;
      };
      short = each_both (λ (e : ℕ × List Value). IsTableNumber tables e.0) (λ (e : ℕ × List Value). length (stored_code (table_at tables e.0) e.1) ≤ 4096) (λ (e : ℕ × List Value). length (stored_code (table_at more e.0) e.1) ≤ 4096) (λ e is short. subst (λ (x : Table). length (stored_code x e.1) ≤ 4096) (sym (table_at-more tables table e.0 is)) short) rows keeps.known keeps.short;
    }
