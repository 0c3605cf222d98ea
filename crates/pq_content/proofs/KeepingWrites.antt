-- Rows that keep their definitions, after a delete and after an update.
use Rattle.std.proofs.Common.{◌≡◌, ℕ, ◌≤◌, Bool, true, false, cond, not, ◌&&◌, ◌==◌, inl, inr, List, [], ◌∷◌, length, Option, Some, None, refl, sym, ap, ◌∙◌, subst, arith}
use Rattle.std.specs.Prelude.{filter, IsSome, is_some}
use Rattle.std.specs.List as lists
use Rattle.std.specs.List.{AllByRecursion}
use Rattle.std.proofs.lemmas.Bool.{eqb-true, eq-eqb, and_parts}
use Rattle.pq_base.specs.declared.value.Value.{Value}
use Rattle.pq_base.specs.Values.{AllFit, has_null}
use Rattle.pq_schema.specs.declared.table.Foreign.{Foreign}
use Rattle.pq_schema.specs.declared.table.Limit.{Limit}
use Rattle.pq_schema.specs.declared.table.Table.{Table}
use Rattle.pq_schema.specs.Tables.{table_at}
use Rattle.pq_content.specs.Tables.{Rows, rows_of, types_of, key_of, cells, agrees, same_values, has_key, row_at, rows_without, group_of, IsTableNumber, AreApart, IsWithinLimit, HasParent, HasRoom, MayChangeRow, MayRefer, IsUnreferenced, Keeps, stored_code}
use Rattle.pq_content.proofs.Keeping.{none_has_key, found_still, within_still, row_found}
use Rattle.pq_base.proofs.Members.{in_from_contains, each_in, each_by_in, in_filter, each_filter, fewer_kept, one_less_kept, find-filter, in_from_find, each_weaker, each_both}
use Rattle.pq_base.specs.Members.{In}
use Rattle.pq_content.proofs.Values.{same_from_test, same_values_itself}

-- the rows of a table that are left
pub rows_of-without : (tables : List Table) (rows : Rows) (t u : ℕ) (key : List Value) → rows_of u (rows_without tables t key rows) ≡ filter (λ row. not ((u == t) && agrees (table_at tables t).key key row)) (rows_of u rows)
rows_of-without tables [] t u key = refl
rows_of-without tables (e ∷ es) t u key =
    let p = agrees (table_at tables t).key key in
    let kept = rows_without tables t key es in
    let q = λ (row : List Value). not ((u == t) && p row) in
    elim (e.0 == u) as (λ b. (e.0 == u) ≡ b → rows_of u (cond (not (has_key tables t key e)) (e ∷ kept) kept) ≡ filter q (cond b (e.1 ∷ rows_of u es) (rows_of u es))) [
      | true ↦ λ is.
          ap (λ (n : ℕ). rows_of u (cond (not ((n == t) && p e.1)) (e ∷ kept) kept)) (eqb-true e.0 u is)
          ∙ elim (q e.1) as (λ b. rows_of u (cond b (e ∷ kept) kept) ≡ cond b (e.1 ∷ filter q (rows_of u es)) (filter q (rows_of u es))) [
            | true ↦ ap (λ b. cond b (e.1 ∷ rows_of u kept) (rows_of u kept)) is ∙ ap (λ l. e.1 ∷ l) (rows_of-without tables es t u key)
            | false ↦ rows_of-without tables es t u key
          ]
      | false ↦ λ is.
          elim (has_key tables t key e) as (λ b. rows_of u (cond (not b) (e ∷ kept) kept) ≡ filter q (rows_of u es)) [
            | true ↦ rows_of-without tables es t u key
            | false ↦ ap (λ b. cond b (e.1 ∷ rows_of u kept) (rows_of u kept)) is ∙ rows_of-without tables es t u key
          ]
    ] refl

AreApart-filter : (tables : List Table) (p : ℕ × List Value → Bool) (rows : Rows) → AreApart tables rows → AreApart tables (filter p rows)
AreApart-filter tables p [] h = tt
AreApart-filter tables p (e ∷ es) h =
    let rest = AreApart-filter tables p es h.1 in
    elim (p e) as (λ b. AreApart tables (cond b (e ∷ filter p es) (filter p es))) [ true ↦ (each_filter p _ es h.0, rest) | false ↦ rest ]

-- a group of what is left is no larger
group_without : (tables : List Table) (rows : Rows) (t u : ℕ) (key : List Value) (cols : List ℕ) (values : List Value) → length (group_of u cols values (rows_without tables t key rows)) ≤ length (group_of u cols values rows)
group_without tables rows t u key cols values =
    let q = λ (row : List Value). not ((u == t) && agrees (table_at tables t).key key row) in
    subst (λ (l : List (List Value)). length (filter (agrees cols values) l) ≤ length (group_of u cols values rows)) (sym (rows_of-without tables rows t u key)) (fewer_kept q (agrees cols values) (rows_of u rows))

within_without : (tables : List Table) (rows : Rows) (t u : ℕ) (key : List Value) (limit : Limit) → IsWithinLimit u rows limit → IsWithinLimit u (rows_without tables t key rows) limit
within_without tables rows t u key limit within values plain =
    let less = group_without tables rows t u key limit.cols values in
    let most = within values plain in
    omega arith

-- a row with another key is found as before
pub row_at-without : (tables : List Table) (rows : Rows) (t u : ℕ) (key k : List Value) → ((u == t) && same_values k key) ≡ false → row_at tables (rows_without tables t key rows) u k ≡ row_at tables rows u k
row_at-without tables rows t u key k other =
    let p = agrees (table_at tables u).key k in
    let q = λ (row : List Value). not ((u == t) && agrees (table_at tables t).key key row) in
    ap (lists.find p) (rows_of-without tables rows t u key) ∙ find-filter q p (rows_of u rows) (λ row found. passes row found)
  where
    passes : (row : List Value) → agrees (table_at tables u).key k row ≡ true → not ((u == t) && agrees (table_at tables t).key key row) ≡ true
    passes row found =
        elim (u == t) as (λ b. (u == t) ≡ b → (b && same_values k key) ≡ false → not (b && agrees (table_at tables t).key key row) ≡ true) [
          | true ↦ λ is other.
              let same : key_of (table_at tables t) row ≡ k = ap (λ (n : ℕ). key_of (table_at tables n) row) (sym (eqb-true u t is)) ∙ same_from_test (key_of (table_at tables u) row) k found in
              ap (λ (x : List Value). not (same_values x key)) same ∙ ap not other
          | false ↦ λ _ _. refl
        ] refl other

-- a row is in the group of its own values
in_group : (rows : Rows) (e : ℕ × List Value) (cols : List ℕ) → In e rows → group_of e.0 cols (cells cols e.1) rows ≡ [] → ⊥
in_group [] e cols i none = i
in_group (f ∷ es) e cols (inl same) none =
    let Q = λ (x : ℕ × List Value). group_of x.0 cols (cells cols x.1) (f ∷ es) ≡ [] in
    let here : Q f = subst Q (sym same) none in
    let own : group_of f.0 cols (cells cols f.1) (f ∷ es) ≡ f.1 ∷ group_of f.0 cols (cells cols f.1) es =
    ap (λ b. filter (agrees cols (cells cols f.1)) (cond b (f.1 ∷ rows_of f.0 es) (rows_of f.0 es))) (eq-eqb f.0 f.0 refl)
    ∙ ap (λ b. cond b (f.1 ∷ group_of f.0 cols (cells cols f.1) es) (group_of f.0 cols (cells cols f.1) es)) (same_values_itself (cells cols f.1)) in
    let both : f.1 ∷ group_of f.0 cols (cells cols f.1) es ≡ [] = sym own ∙ here in
    cc
in_group (f ∷ es) e cols (inr later) none =
    let p = agrees cols (cells cols e.1) in
    elim (f.0 == e.0) as (λ b. filter p (cond b (f.1 ∷ rows_of e.0 es) (rows_of e.0 es)) ≡ [] → ⊥) [
      | true ↦ λ none. elim (p f.1) as (λ c. cond c (f.1 ∷ filter p (rows_of e.0 es)) (filter p (rows_of e.0 es)) ≡ [] → ⊥) [
        | true ↦ λ none. absurd cc
        | false ↦ λ none. in_group es e cols later none
      ] none
      | false ↦ λ none. in_group es e cols later none
    ] none

-- a row that no row names may go
pub keeps_delete : (tables : List Table) (rows : Rows) (t : ℕ) (key : List Value) → Keeps tables rows → IsUnreferenced tables rows t key → Keeps tables (rows_without tables t key rows)
keeps_delete tables rows t key keeps free =
    let p = λ (e : ℕ × List Value). not (has_key tables t key e) in
    let left : Rows = rows_without tables t key rows in
    let parent = λ (e : ℕ × List Value) (i : In e rows) (f : Foreign) (j : In f (table_at tables e.0).foreign) (there : HasParent tables rows e.1 f) (plain : has_null (cells f.cols e.1) ≡ false).
    let k = cells f.cols e.1 in
    elim ((f.table == t) && same_values k key) as (λ b. ((f.table == t) && same_values k key) ≡ b → IsSome (row_at tables left f.table k)) [
      | true ↦ λ is.
          let parts = and_parts (f.table == t) (same_values k key) is in
          let none : f.table ≡ t → group_of e.0 f.cols key rows ≡ [] = each_in (λ (g : Foreign). g.table ≡ t → group_of e.0 g.cols key rows ≡ []) (table_at tables e.0).foreign (free e.0 (each_in (λ (x : ℕ × List Value). IsTableNumber tables x.0) rows keeps.known e i)) f j in
          absurd (in_group rows e f.cols i (ap (λ (v : List Value). group_of e.0 f.cols v rows) (same_from_test k key parts.1) ∙ none (eqb-true f.table t parts.0)))
      | false ↦ λ other. subst (λ (o : Option (List Value)). IsSome o) (sym (row_at-without tables rows t f.table key k other)) (there plain)
    ] refl in
    record {
      schema = record {
        known = each_filter p _ rows keeps.known;
        fit = each_filter p _ rows keeps.fit;
        apart = AreApart-filter tables p rows keeps.apart;
        limits = λ u is. each_weaker (IsWithinLimit u rows) (IsWithinLimit u left) (λ limit within. within_without tables rows t u key limit within) (table_at tables u).limits (keeps.limits u is);
        foreign = each_by_in (λ (e : ℕ × List Value). AllByRecursion (HasParent tables left e.1) (table_at tables e.0).foreign) left (λ e i.
            let there : In e rows = (in_filter p e rows i).0 in
            each_by_in (HasParent tables left e.1) (table_at tables e.0).foreign (λ f j. parent e there f j (each_in (HasParent tables rows e.1) (table_at tables e.0).foreign (each_in (λ (x : ℕ × List Value). AllByRecursion (HasParent tables rows x.1) (table_at tables x.0).foreign) rows keeps.foreign e there) f j)));
      };
      short = each_filter p _ rows keeps.short;
    }

-- ---- an update

own_found : (tables : List Table) (rows : Rows) (t u : ℕ) (new k : List Value) → t ≡ u → key_of (table_at tables t) new ≡ k → IsSome (row_at tables ((t, new) ∷ rows) u k)
own_found tables rows t u new k number key =
    let P : ℕ → Type 0 = λ n. IsSome (row_at tables ((t, new) ∷ rows) n k) in
    let p = agrees (table_at tables t).key k in
    let own : p new ≡ true = ap (λ (v : List Value). same_values v k) key ∙ same_values_itself k in
    let found : row_at tables ((t, new) ∷ rows) t k ≡ Some new =
    ap (λ b. lists.find p (cond b (new ∷ rows_of t rows) (rows_of t rows))) (eq-eqb t t refl)
    ∙ ap (λ b. cond b (Some new) (row_at tables rows t k)) own in
    subst P number (ap is_some found)

-- a row that was found has another in its place, or is found still
replaced_found : (tables : List Table) (rows : Rows) (t u : ℕ) (key new k : List Value) → key_of (table_at tables t) new ≡ key → IsSome (row_at tables rows u k) → IsSome (row_at tables ((t, new) ∷ rows_without tables t key rows) u k)
replaced_found tables rows t u key new k own there =
    let kept = rows_without tables t key rows in
    elim ((u == t) && same_values k key) as (λ b. ((u == t) && same_values k key) ≡ b → IsSome (row_at tables ((t, new) ∷ kept) u k)) [
      | true ↦ λ is.
          let parts = and_parts (u == t) (same_values k key) is in
          own_found tables kept t u new k (sym (eqb-true u t parts.0)) (own ∙ sym (same_from_test k key parts.1))
      | false ↦ λ other. found_still tables kept (t, new) u k (subst (λ (o : Option (List Value)). IsSome o) (sym (row_at-without tables rows t u key k other)) there)
    ] refl

-- the group of the new row has room where the old row left it
room_left : (tables : List Table) (rows : Rows) (t : ℕ) (old new : List Value) (limit : Limit) → In old (rows_of t rows) → IsWithinLimit t rows limit → MayChangeRow t rows old new limit → HasRoom t (rows_without tables t (key_of (table_at tables t) old) rows) new limit
room_left tables rows t old new limit there within (inl same) plain =
    let key = key_of (table_at tables t) old in
    let p = λ (row : List Value). not ((t == t) && agrees (table_at tables t).key key row) in
    let q = agrees limit.cols (cells limit.cols new) in
    let keeps : q old ≡ true = ap (λ (v : List Value). same_values v (cells limit.cols new)) same ∙ same_values_itself (cells limit.cols new) in
    let drops : p old ≡ false = ap (λ b. not (b && same_values key key)) (eq-eqb t t refl) ∙ ap not (same_values_itself key) in
    let less = one_less_kept p q (rows_of t rows) old there keeps drops in
    let left : length (group_of t limit.cols (cells limit.cols new) (rows_without tables t key rows)) ≡ length (filter q (filter p (rows_of t rows))) = ap (λ (l : List (List Value)). length (filter q l)) (rows_of-without tables rows t t key) in
    let most = within (cells limit.cols new) plain in
    omega arith
room_left tables rows t old new limit there within (inr room) plain =
    let less = group_without tables rows t t (key_of (table_at tables t) old) limit.cols (cells limit.cols new) in
    let some = room plain in
    omega arith

-- a new row that fits, is short and has the old row's key, and whose changes have room and parents
pub keeps_update : (tables : List Table) (rows : Rows) (t : ℕ) (old new : List Value) → Keeps tables rows → row_at tables rows t (key_of (table_at tables t) old) ≡ Some old → key_of (table_at tables t) old ≡ key_of (table_at tables t) new → AllFit (types_of (table_at tables t)) new → length (stored_code (table_at tables t) new) ≤ 4096 → AllByRecursion (MayChangeRow t rows old new) (table_at tables t).limits → AllByRecursion (MayRefer tables rows old new) (table_at tables t).foreign → Keeps tables ((t, new) ∷ rows_without tables t (key_of (table_at tables t) old) rows)
keeps_update tables rows t old new keeps found same fits short changes names =
    let key = key_of (table_at tables t) old in
    let p = λ (e : ℕ × List Value). not (has_key tables t key e) in
    let left : Rows = rows_without tables t key rows in
    let now : Rows = (t, new) ∷ left in
    let of_old = row_found tables rows t key old keeps found in
    let in_rows : In (t, old) rows = in_from_contains rows (t, old) of_old.there in
    let in_table : In old (rows_of t rows) = in_from_find (agrees (table_at tables t).key key) (rows_of t rows) old found in
    let parents : (e : ℕ × List Value) → In e rows → AllByRecursion (HasParent tables rows e.1) (table_at tables e.0).foreign = λ e i. each_in (λ (x : ℕ × List Value). AllByRecursion (HasParent tables rows x.1) (table_at tables x.0).foreign) rows keeps.foreign e i in
    let still = λ (row : List Value) (f : Foreign) (there : HasParent tables rows row f) (plain : has_null (cells f.cols row) ≡ false). replaced_found tables rows t f.table key new (cells f.cols row) (sym same) (there plain) in
    let named : (f : Foreign) → HasParent tables rows old f → MayRefer tables rows old new f → HasParent tables now new f = λ f own may. elim may [
      | inl stays ↦ still new f (subst (λ (v : List Value). has_null v ≡ false → IsSome (row_at tables rows f.table v)) stays own)
      | inr there ↦ still new f there
    ] in
    record {
      schema = record {
        known = (of_old.number, each_filter p _ rows keeps.known);
        fit = (fits, each_filter p _ rows keeps.fit);
        apart = (
          none_has_key tables left t (key_of (table_at tables t) new) (ap (row_at tables left t) (sym same) ∙ gone key),
          AreApart-filter tables p rows keeps.apart,
        );
        limits = λ u is. each_by_in (IsWithinLimit u now) (table_at tables u).limits (λ limit i.
            let within : IsWithinLimit u rows limit = each_in (IsWithinLimit u rows) (table_at tables u).limits (keeps.limits u is) limit i in
            within_still left t u new limit (λ number. room_left tables rows t old new limit in_table (subst (λ (n : ℕ). IsWithinLimit n rows limit) (sym number) within) (each_in (MayChangeRow t rows old new) (table_at tables t).limits changes limit (subst (λ (n : ℕ). In limit (table_at tables n).limits) (sym number) i))) (within_without tables rows t u key limit within));
        foreign = (
          each_both (HasParent tables rows old) (MayRefer tables rows old new) (HasParent tables now new) named (table_at tables t).foreign (parents (t, old) in_rows) names,
          each_by_in (λ (e : ℕ × List Value). AllByRecursion (HasParent tables now e.1) (table_at tables e.0).foreign) left (λ e i. each_weaker (HasParent tables rows e.1) (HasParent tables now e.1) (λ f there. still e.1 f there) (table_at tables e.0).foreign (parents e ((in_filter p e rows i).0))),
        );
      };
      short = (short, each_filter p _ rows keeps.short);
    }
  where
    gone : (key : List Value) → row_at tables (rows_without tables t key rows) t key ≡ None
    gone key = ap (lists.find (agrees (table_at tables t).key key)) (rows_of-without tables rows t t key) ∙ none_left (rows_of t rows)
      where
        none_left : (xs : List (List Value)) → lists.find (agrees (table_at tables t).key key) (filter (λ row. not ((t == t) && agrees (table_at tables t).key key row)) xs) ≡ None
        none_left [] = refl
        none_left (x ∷ xs) =
            let p = agrees (table_at tables t).key key in
            let kept = filter (λ row. not ((t == t) && p row)) xs in
            ap (λ b. lists.find p (cond (not (b && p x)) (x ∷ kept) kept)) (eq-eqb t t refl)
            ∙ elim (p x) as (λ b. p x ≡ b → lists.find p (cond (not b) (x ∷ kept) kept) ≡ None) [
              | true ↦ λ _. none_left xs
              | false ↦ λ is. ap (λ b. cond b (Some x) (lists.find p kept)) is ∙ none_left xs
            ] refl
