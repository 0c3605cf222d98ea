-- What a get of a row's key answers.
use Rattle.std.proofs.Common.{◌≡◌, ℕ, true, false, cond, ◌&&◌, ◌==◌, List, [], ◌∷◌, ◌++◌, Some, option_map, refl, ap, ◌∙◌, subst, append_assoc}
use Rattle.std.specs.List as lists
use Rattle.std.specs.List.{AllByRecursion}
use Rattle.std.specs.Cmp.Lexicographic.{nat_list_cmp_total}
use Rattle.std.specs.FinMap.{find, get, get-from_entries}
use Rattle.std.proofs.lemmas.Bool.{eqb-true}
use Rattle.pq_base.specs.declared.value.Value.{Value}
use Rattle.pq_base.specs.Values.{AllFit}
use Rattle.pq_schema.specs.declared.table.Table.{Table}
use Rattle.pq_schema.specs.Tables.{table_at}
use Rattle.pq_content.specs.Pairs.{Pair, AreBeside, entries_from, row_pairs, content_pairs}
use Rattle.pq_key_code.specs.KeyCode.{row_key}
use Rattle.pq_store.specs.Content.{key_cmp}
use Rattle.pq_content.specs.Tables.{Rows, AllOfKinds, rows_of, types_of, key_types, key_of, agrees, row_at, stored_code}
use Rattle.pq_content.proofs.Find.{find_rest}
use Rattle.pq_content.proofs.Keys.{not_beside, no_entry, row_ties}
use Rattle.pq_content.proofs.Values.{key_of_kinds}

-- each row fits the columns of its table
abbrev pub EachFits : List Table → Rows → Type 0
EachFits tables rows = AllByRecursion (λ (e : ℕ × List Value). AllFit (types_of (table_at tables e.0)) e.1) rows

found_row : (tables : List Table) (rows : Rows) (others : List Pair) (t : ℕ) (key : List Value) → EachFits tables rows → AllOfKinds (key_types (table_at tables t)) key → AreBeside others → find key_cmp (row_key t key) (row_pairs tables rows ++ others) ≡ option_map (stored_code (table_at tables t)) (row_at tables rows t key)
found_row tables [] others t key fits key_kinds beside = not_beside others (row_key t key) beside refl
found_row tables (e ∷ es) others t key fits key_kinds beside =
    let q = row_key t key in
    let table = table_at tables e.0 in
    let own = entries_from e.0 1 table table.indexes e.1 in
    let rest = row_pairs tables es in
    let code = stored_code (table_at tables t) in
    let later = option_map code (row_at tables es t key) in
    let is_key = agrees (table_at tables t).key key in
    let tail : find key_cmp q (own ++ rest ++ others) ≡ later =
    ap (find key_cmp q) (append_assoc own rest others)
    ∙ find_rest key_cmp q own (rest ++ others) (no_entry t e.0 1 table table.indexes e.1 key)
    ∙ found_row tables es others t key fits.1 key_kinds beside in
    let own_kinds : e.0 ≡ t → AllOfKinds (key_types (table_at tables t)) (key_of table e.1) =
    λ is. subst (λ (n : ℕ). AllOfKinds (key_types (table_at tables n)) (key_of table e.1)) is (key_of_kinds table e.1 fits.0) in
    ap (λ b. cond b (Some (stored_code table e.1)) (find key_cmp q (own ++ rest ++ others))) (row_ties t e.0 (key_types (table_at tables t)) key (key_of table e.1) key_kinds own_kinds)
    ∙ ap (cond ((e.0 == t) && agrees table.key key e.1) (Some (stored_code table e.1))) tail
    ∙ elim (e.0 == t) as (λ b. (e.0 == t) ≡ b → cond (b && agrees table.key key e.1) (Some (stored_code table e.1)) later ≡ option_map code (lists.find is_key (cond b (e.1 ∷ rows_of t es) (rows_of t es)))) [
      | true ↦ λ is.
          ap (λ (n : ℕ). cond (agrees (table_at tables n).key key e.1) (Some (stored_code (table_at tables n) e.1)) later) (eqb-true e.0 t is)
          ∙ elim (is_key e.1) as (λ b. cond b (Some (code e.1)) later ≡ option_map code (cond b (Some e.1) (row_at tables es t key))) [ true ↦ refl | false ↦ refl ]
      | false ↦ λ _. refl
    ] refl

-- a get of a row's key answers the code of the row with this key
pub get_row : (tables : List Table) (rows : Rows) (others : List Pair) (t : ℕ) (key : List Value) → EachFits tables rows → AllOfKinds (key_types (table_at tables t)) key → AreBeside others → get (content_pairs tables rows others) (row_key t key) ≡ option_map (stored_code (table_at tables t)) (row_at tables rows t key)
unfolding content_pairs
get_row tables rows others t key fits key_kinds beside =
    get-from_entries nat_list_cmp_total (row_pairs tables rows ++ others) _
    ∙ found_row tables rows others t key fits key_kinds beside
