-- Rows that keep their definitions: what is found among them, and one more row.
use Rattle.std.proofs.Common.{◌≡◌, ℕ, suc, ◌<◌, ◌≤◌, true, false, cond, ◌&&◌, ◌==◌, List, [], ◌∷◌, length, Some, None, refl, sym, ap, ◌∙◌, subst, arith}
use Rattle.std.specs.Prelude.{filter, Contains, IsSome}
use Rattle.std.specs.List.{AllByRecursion}
use Rattle.std.specs.List as lists
use Rattle.std.specs.Option.{option_to_list}
use Rattle.std.proofs.lemmas.Bool.{eqb-true, eq-eqb, false≢true}
use Rattle.std.proofs.lemmas.Option.{none-some, same_Some}
use Rattle.pq_base.specs.declared.value.Value.{Value}
use Rattle.pq_base.specs.Values.{AllFit, has_null}
use Rattle.pq_schema.specs.declared.table.Foreign.{Foreign}
use Rattle.pq_schema.specs.declared.table.Limit.{Limit}
use Rattle.pq_schema.specs.declared.table.Table.{Table}
use Rattle.pq_schema.specs.Tables.{table_at}
use Rattle.pq_content.specs.Tables.{Rows, rows_of, types_of, key_of, cells, agrees, has_key, row_at, group_of, IsTableNumber, AreApart, IsWithinLimit, HasParent, HasRoom, IsFound, Keeps, stored_code}
use Rattle.pq_content.proofs.Values.{same_from_test}
use Rattle.pq_base.proofs.Members.{each_weaker, each_both}

-- ---- the row with a key

-- no row has a key that is not found
pub none_has_key : (tables : List Table) (rows : Rows) (t : ℕ) (key : List Value) → row_at tables rows t key ≡ None → AllByRecursion (λ f. has_key tables t key f ≡ false) rows
none_has_key tables [] t key none = tt
none_has_key tables (e ∷ es) t key none =
    let p = agrees (table_at tables t).key key in
    elim (e.0 == t) as (λ b. lists.find p (cond b (e.1 ∷ rows_of t es) (rows_of t es)) ≡ None → ((b && p e.1) ≡ false) × AllByRecursion (λ f. has_key tables t key f ≡ false) es) [
      | true ↦ λ none. elim (p e.1) as (λ c. cond c (Some e.1) (row_at tables es t key) ≡ None → (c ≡ false) × AllByRecursion (λ f. has_key tables t key f ≡ false) es) [
        | true ↦ λ none. absurd (none-some e.1 (sym none))
        | false ↦ λ none. (refl, none_has_key tables es t key none)
      ] none
      | false ↦ λ none. (refl, none_has_key tables es t key none)
    ] none

pub none_grouped : (tables : List Table) (rows : Rows) (t : ℕ) (key : List Value) → AllByRecursion (λ f. has_key tables t key f ≡ false) rows → group_of t (table_at tables t).key key rows ≡ []
none_grouped tables [] t key h = refl
none_grouped tables (e ∷ es) t key h =
    let p = agrees (table_at tables t).key key in
    elim (e.0 == t) as (λ b. (b && p e.1) ≡ false → filter p (cond b (e.1 ∷ rows_of t es) (rows_of t es)) ≡ []) [
      | true ↦ λ is. ap (λ c. cond c (e.1 ∷ filter p (rows_of t es)) (filter p (rows_of t es))) is ∙ none_grouped tables es t key h.1
      | false ↦ λ is. none_grouped tables es t key h.1
    ] h.0

-- the rows with a key are the one that is found, if there is one
pub rows_with_key : (tables : List Table) (rows : Rows) (t : ℕ) (key : List Value) → AreApart tables rows → group_of t (table_at tables t).key key rows ≡ option_to_list (row_at tables rows t key)
rows_with_key tables [] t key apart = refl
rows_with_key tables (e ∷ es) t key apart =
    let p = agrees (table_at tables t).key key in
    elim (e.0 == t) as (λ b. (e.0 == t) ≡ b → filter p (cond b (e.1 ∷ rows_of t es) (rows_of t es)) ≡ option_to_list (lists.find p (cond b (e.1 ∷ rows_of t es) (rows_of t es)))) [
      | true ↦ λ is. elim (p e.1) as (λ c. p e.1 ≡ c → cond c (e.1 ∷ filter p (rows_of t es)) (filter p (rows_of t es)) ≡ option_to_list (cond c (Some e.1) (row_at tables es t key))) [
        | true ↦ λ own.
            let number : e.0 ≡ t = eqb-true e.0 t is in
            let same : key_of (table_at tables t) e.1 ≡ key = same_from_test (key_of (table_at tables t) e.1) key own in
            let P : ℕ → Type 0 = λ n. AllByRecursion (λ f. has_key tables n (key_of (table_at tables n) e.1) f ≡ false) es in
            let later : AllByRecursion (λ f. has_key tables t key f ≡ false) es = subst (λ (k : List Value). AllByRecursion (λ f. has_key tables t k f ≡ false) es) same (subst P number apart.0) in
            ap (λ (l : List (List Value)). e.1 ∷ l) (none_grouped tables es t key later)
        | false ↦ λ _. rows_with_key tables es t key apart.1
      ] refl
      | false ↦ λ _. rows_with_key tables es t key apart.1
    ] refl

-- a row that is found is there, and has the key
pub record IsThere (rows : Rows) (table : Table) (t : ℕ) (key row : List Value) : Type 0 where
  pub there : Contains rows (t, row)
  pub key_is : key_of table row ≡ key

contains_later : {X : Type 0} (x y : X) (xs : List X) → Contains xs y → Contains (x ∷ xs) y
contains_later x y xs h = (suc h.0, omega arith, h.2)

-- what holds of each row holds of one that is found
pub found_among : (P : ℕ × List Value → Type 0) (tables : List Table) (rows : Rows) (t : ℕ) (key row : List Value) → AllByRecursion P rows → row_at tables rows t key ≡ Some row → P (t, row) × IsThere rows (table_at tables t) t key row
found_among P tables [] t key row all found = absurd (none-some row found)
found_among P tables (e ∷ es) t key row all found =
    let p = agrees (table_at tables t).key key in
    let G : Type 0 = P (t, row) × IsThere (e ∷ es) (table_at tables t) t key row in
    let later : row_at tables es t key ≡ Some row → G = λ found.
    let r = found_among P tables es t key row all.1 found in
    (r.0, record { there = contains_later e (t, row) es r.1.there; key_is = r.1.key_is }) in
    elim (e.0 == t) as (λ b. (e.0 == t) ≡ b → lists.find p (cond b (e.1 ∷ rows_of t es) (rows_of t es)) ≡ Some row → G) [
      | true ↦ λ is. elim (p e.1) as (λ c. p e.1 ≡ c → cond c (Some e.1) (row_at tables es t key) ≡ Some row → G) [
        | true ↦ λ own found.
            let one : e.1 ≡ row = same_Some e.1 row found in
            let both : e ≡ (t, row) = λ i. (eqb-true e.0 t is i, one i) in (
              subst P both all.0,
              record {
                there = (0, omega arith, both);
                key_is = same_from_test (key_of (table_at tables t) row) key (subst (λ (r : List Value). p r ≡ true) one own);
              },
            )
        | false ↦ λ _. later
      ] refl
      | false ↦ λ _. later
    ] refl found

-- a table of which a row is found is one of the tables
pub number_of_found : (tables : List Table) (rows : Rows) (t : ℕ) (key : List Value) → AllByRecursion (λ (e : ℕ × List Value). IsTableNumber tables e.0) rows → IsSome (row_at tables rows t key) → IsTableNumber tables t
number_of_found tables rows t key known some =
    let o = row_at tables rows t key in
    elim o as (λ r. o ≡ r → IsSome r → IsTableNumber tables t) [
      | None ↦ λ _ h. absurd (false≢true h)
      | Some row ↦ λ is _. (found_among (λ (e : ℕ × List Value). IsTableNumber tables e.0) tables rows t key row known is).0
    ] refl some

pub row_found : (tables : List Table) (rows : Rows) (t : ℕ) (key row : List Value) → Keeps tables rows → row_at tables rows t key ≡ Some row → IsFound tables rows t key row
row_found tables rows t key row keeps found =
    let known = found_among (λ (e : ℕ × List Value). IsTableNumber tables e.0) tables rows t key row keeps.known found in
    let fits = found_among (λ (e : ℕ × List Value). AllFit (types_of (table_at tables e.0)) e.1) tables rows t key row keeps.fit found in
    let short = found_among (λ (e : ℕ × List Value). length (stored_code (table_at tables e.0) e.1) ≤ 4096) tables rows t key row keeps.short found in
    record { there = known.1.there; number = known.0; fits = fits.0; key_is = known.1.key_is; short = short.0 }

-- ---- one more row

-- a row that is found is still found
pub found_still : (tables : List Table) (rows : Rows) (e : ℕ × List Value) (t : ℕ) (key : List Value) → IsSome (row_at tables rows t key) → IsSome (row_at tables (e ∷ rows) t key)
found_still tables rows e t key some =
    let p = agrees (table_at tables t).key key in
    elim (e.0 == t) as (λ b. IsSome (lists.find p (cond b (e.1 ∷ rows_of t rows) (rows_of t rows)))) [
      | true ↦ elim (p e.1) as (λ c. IsSome (cond c (Some e.1) (row_at tables rows t key))) [ true ↦ refl | false ↦ some ]
      | false ↦ some
    ]

pub within_still : (rows : Rows) (t u : ℕ) (row : List Value) (limit : Limit) → (t ≡ u → HasRoom t rows row limit) → IsWithinLimit u rows limit → IsWithinLimit u ((t, row) ∷ rows) limit
within_still rows t u row limit room within values plain =
    let p = agrees limit.cols values in
    let group = group_of u limit.cols values rows in
    elim (t == u) as (λ b. (t == u) ≡ b → length (filter p (cond b (row ∷ rows_of u rows) (rows_of u rows))) ≤ limit.n) [
      | true ↦ λ is. elim (p row) as (λ c. p row ≡ c → length (cond c (row ∷ group) group) ≤ limit.n) [
        | true ↦ λ agree.
            let number : t ≡ u = eqb-true t u is in
            let same : cells limit.cols row ≡ values = same_from_test (cells limit.cols row) values agree in
            let less : length (group_of t limit.cols (cells limit.cols row) rows) < limit.n = room number (ap has_null same ∙ plain) in
            let here : length group < limit.n = subst (λ (v : List Value). length (group_of u limit.cols v rows) < limit.n) same (subst (λ (n : ℕ). length (group_of n limit.cols (cells limit.cols row) rows) < limit.n) number less) in
            omega arith
        | false ↦ λ _. within values plain
      ] refl
      | false ↦ λ _. within values plain
    ] refl

-- a row that fits, is short, has a new key, has room in its groups and has its parents
pub keeps_insert : (tables : List Table) (rows : Rows) (t : ℕ) (row : List Value) → Keeps tables rows → IsTableNumber tables t → AllFit (types_of (table_at tables t)) row → length (stored_code (table_at tables t) row) ≤ 4096 → row_at tables rows t (key_of (table_at tables t) row) ≡ None → AllByRecursion (HasRoom t rows row) (table_at tables t).limits → AllByRecursion (HasParent tables rows row) (table_at tables t).foreign → Keeps tables ((t, row) ∷ rows)
keeps_insert tables rows t row keeps number fits short none room parents =
    let now : Rows = (t, row) ∷ rows in
    let parents_still : (r : List Value) (fs : List Foreign) → AllByRecursion (HasParent tables rows r) fs → AllByRecursion (HasParent tables now r) fs =
    λ r fs h. each_weaker (HasParent tables rows r) (HasParent tables now r) (λ f there plain. found_still tables rows (t, row) f.table (cells f.cols r) (there plain)) fs h in
    record {
      schema = record {
        known = (number, keeps.known);
        fit = (fits, keeps.fit);
        apart = (none_has_key tables rows t (key_of (table_at tables t) row) none, keeps.apart);
        limits = λ u is. elim (t == u) as (λ b. (t == u) ≡ b → AllByRecursion (IsWithinLimit u now) (table_at tables u).limits) [
          | true ↦ λ same.
              let one : t ≡ u = eqb-true t u same in
              each_both (HasRoom t rows row) (IsWithinLimit u rows) (IsWithinLimit u now) (λ limit free within. within_still rows t u row limit (λ _. free) within) (table_at tables u).limits (subst (λ (n : ℕ). AllByRecursion (HasRoom t rows row) (table_at tables n).limits) one room) (keeps.limits u is)
          | false ↦ λ other.
              each_weaker (IsWithinLimit u rows) (IsWithinLimit u now) (λ limit within. within_still rows t u row limit (λ one. absurd (false≢true (sym other ∙ subst (λ (n : ℕ). (t == n) ≡ true) one (eq-eqb t t refl)))) within) (table_at tables u).limits (keeps.limits u is)
        ] refl;
        foreign = (parents_still row (table_at tables t).foreign parents, each_weaker (λ (e : ℕ × List Value). AllByRecursion (HasParent tables rows e.1) (table_at tables e.0).foreign) (λ (e : ℕ × List Value). AllByRecursion (HasParent tables now e.1) (table_at tables e.0).foreign) (λ e h. parents_still e.1 (table_at tables e.0).foreign h) rows keeps.foreign);
      };
      short = (short, keeps.short);
    }
