-- What the changes of a delete make of a content.
use Rattle.std.proofs.Common.{◌≡◌, ℕ, true, false, cond, not, ◌==◌, List, [], ◌∷◌, ◌++◌, Option, Some, None, is_some, filter, flat_map, All, refl, sym, ap, ◌∙◌, subst}
use Rattle.std.specs.List.{AllByRecursion}
use Rattle.std.specs.List as lists
use Rattle.std.specs.Cmp.Lexicographic.{nat_list_cmp_total}
use Rattle.std.specs.FinMap.{find, get-from_entries}
use Rattle.std.proofs.lemmas.Bool.{false≢true, and_from, and_parts, not-false, eq-eqb, eqb-true}
use Rattle.std.proofs.lemmas.List.Elements.{All-weaker, All-from_recursion}
use Rattle.std.proofs.lemmas.Option.{same_Some}
use Rattle.pq_base.specs.declared.value.Value.{Value}
use Rattle.pq_base.specs.Values.{AllFit}
use Rattle.pq_schema.specs.declared.table.Table.{Table}
use Rattle.pq_schema.specs.Tables.{table_at}
use Rattle.pq_content.specs.Pairs.{Pair, AreBeside, changed_content, removals, pairs_of_row, row_pairs, content_pairs}
use Rattle.pq_store.specs.Content.{key_cmp}
use Rattle.pq_content.specs.Tables.{Rows, rows_of, types_of, key_of, agrees, has_key, row_at, rows_without, AreApart, Keeps}
use Rattle.pq_content.proofs.Changes.{same_content, get-changed}
use Rattle.pq_content.proofs.Find.{find-or_else, or_else, find_none_in, find_kept_in, find_rest}
use Rattle.pq_content.proofs.Gets.{EachFits}
use Rattle.pq_content.proofs.Keeping.{row_found}
use Rattle.pq_base.proofs.Members.{each_weaker}
use Rattle.pq_content.proofs.Owners.{pairs_share, beside_apart}
use Rattle.pq_content.proofs.Values.{same_values_decides}
use Rattle.pq_content.proofs.Writes.{after-removals}

-- the tables have this row, and no other with its key
abbrev pub IsOnly : List Table → Rows → ℕ → List Value → Type 0
IsOnly tables rows t row = AllByRecursion (λ (e : ℕ × List Value). has_key tables t (key_of (table_at tables t) row) e ≡ true → e ≡ (t, row)) rows

-- a row that is found is the only one with its key
pub only_row : (tables : List Table) (rows : Rows) (t : ℕ) (row : List Value) → AreApart tables rows → row_at tables rows t (key_of (table_at tables t) row) ≡ Some row → IsOnly tables rows t row
only_row tables [] t row apart found = tt
only_row tables (e ∷ es) t row apart found =
    let key = key_of (table_at tables t) row in
    let p = agrees (table_at tables t).key key in
    elim (e.0 == t) as (λ b. (e.0 == t) ≡ b → lists.find p (cond b (e.1 ∷ rows_of t es) (rows_of t es)) ≡ Some row → IsOnly tables (e ∷ es) t row) [
      | true ↦ λ is. elim (p e.1) as (λ c. p e.1 ≡ c → cond c (Some e.1) (row_at tables es t key) ≡ Some row → IsOnly tables (e ∷ es) t row) [
        | true ↦ λ own found.
            let one : e.1 ≡ row = same_Some e.1 row found in
            let here : e ≡ (t, row) = λ i. (eqb-true e.0 t is i, one i) in
            let later : AllByRecursion (λ (f : ℕ × List Value). has_key tables t key f ≡ false) es = subst (λ (f : ℕ × List Value). AllByRecursion (λ (g : ℕ × List Value). has_key tables f.0 (key_of (table_at tables f.0) f.1) g ≡ false) es) here apart.0 in
            ((λ _. here), each_weaker (λ (f : ℕ × List Value). has_key tables t key f ≡ false) (λ (f : ℕ × List Value). has_key tables t key f ≡ true → f ≡ (t, row)) (λ f other own. absurd (false≢true (sym other ∙ own))) es later)
        | false ↦ λ other found. ((λ own. absurd (false≢true (sym other ∙ (and_parts (e.0 == t) (p e.1) own).1))), only_row tables es t row apart.1 found)
      ] refl
      | false ↦ λ other found. ((λ own. absurd (false≢true (sym other ∙ (and_parts (e.0 == t) (p e.1) own).0))), only_row tables es t row apart.1 found)
    ] refl found

own_key : (tables : List Table) (t : ℕ) (row : List Value) (e : ℕ × List Value) → (e.0 ≡ t) × (key_of (table_at tables e.0) e.1 ≡ key_of (table_at tables t) row) → has_key tables t (key_of (table_at tables t) row) e ≡ true
own_key tables t row e h =
    let key : key_of (table_at tables t) e.1 ≡ key_of (table_at tables t) row = ap (λ (n : ℕ). key_of (table_at tables n) e.1) (sym h.0) ∙ h.1 in
    and_from _ _ (eq-eqb e.0 t h.0) ((same_values_decides (key_of (table_at tables t) e.1) (key_of (table_at tables t) row)).1 key)

-- a row with another key has no pair at a key of the row's pairs
apart_from : (tables : List Table) (t : ℕ) (row : List Value) (e : ℕ × List Value) (q v : List ℕ) → AllFit (types_of (table_at tables t)) row → AllFit (types_of (table_at tables e.0)) e.1 → find key_cmp q (pairs_of_row t (table_at tables t) row) ≡ Some v → not (has_key tables t (key_of (table_at tables t) row) e) ≡ true → find key_cmp q (pairs_of_row e.0 (table_at tables e.0) e.1) ≡ None
apart_from tables t row e q v fits fits' found passes =
    let theirs = find key_cmp q (pairs_of_row e.0 (table_at tables e.0) e.1) in
    elim theirs as (λ o. theirs ≡ o → o ≡ None) [
      | None ↦ λ _. refl
      | Some w ↦ λ is. absurd (false≢true (sym (ap not (own_key tables t row e (pairs_share e.0 t (table_at tables e.0) (table_at tables t) e.1 row q w v (ap (table_at tables)) fits' fits is found))) ∙ passes))
    ] refl

-- the removals of a row's pair and its entries remove the row
pub delete_only : (tables : List Table) (rows : Rows) (others : List Pair) (t : ℕ) (row : List Value) → IsOnly tables rows t row → EachFits tables rows → AllFit (types_of (table_at tables t)) row → AreBeside others → changed_content (removals (pairs_of_row t (table_at tables t) row)) (content_pairs tables rows others) ≡ content_pairs tables (rows_without tables t (key_of (table_at tables t) row) rows) others
unfolding content_pairs
delete_only tables rows others t row only each fits beside =
    let key = key_of (table_at tables t) row in
    let old = pairs_of_row t (table_at tables t) row in
    let f = λ (e : ℕ × List Value). pairs_of_row e.0 (table_at tables e.0) e.1 in
    let p = λ (e : ℕ × List Value). not (has_key tables t key e) in
    let kept = filter p rows in
    let own : All (λ (e : ℕ × List Value). has_key tables t key e ≡ true → e ≡ (t, row)) rows = All-from_recursion (λ (e : ℕ × List Value). has_key tables t key e ≡ true → e ≡ (t, row)) rows only in
    let all_fit : All (λ (e : ℕ × List Value). AllFit (types_of (table_at tables e.0)) e.1) rows = All-from_recursion (λ (e : ℕ × List Value). AllFit (types_of (table_at tables e.0)) e.1) rows each in
    let at_key = λ (q : List ℕ) (o : Option (List ℕ)) (is : find key_cmp q old ≡ o). elim o as (λ o. find key_cmp q old ≡ o → cond (is_some o) None (find key_cmp q (flat_map f rows ++ others)) ≡ find key_cmp q (flat_map f kept ++ others)) [
      | None ↦ λ none.
          find-or_else key_cmp q (flat_map f rows) others
          ∙ ap (λ (r : Option (List ℕ)). or_else r (find key_cmp q others)) (sym (find_kept_in key_cmp f p q rows (All-weaker (λ (e : ℕ × List Value). has_key tables t key e ≡ true → e ≡ (t, row)) (λ (e : ℕ × List Value). p e ≡ false → find key_cmp q (f e) ≡ None) (λ e mine dropped. ap (λ (x : ℕ × List Value). find key_cmp q (f x)) (mine (not-false (has_key tables t key e) dropped)) ∙ none) rows own)))
          ∙ sym (find-or_else key_cmp q (flat_map f kept) others)
      | Some v ↦ λ found.
          sym (find_rest key_cmp q (flat_map f kept) others (find_none_in key_cmp f p q rows (All-weaker (λ (e : ℕ × List Value). AllFit (types_of (table_at tables e.0)) e.1) (λ (e : ℕ × List Value). p e ≡ true → find key_cmp q (f e) ≡ None) (λ e fits' passes. apart_from tables t row e q v fits fits' found passes) rows all_fit))
          ∙ beside_apart others t (table_at tables t) row q v beside found)
    ] is in
    same_content _ _ (λ q.
    get-changed (removals old) (content_pairs tables rows others) q
    ∙ after-removals old q _
    ∙ ap (λ (o : Option (List ℕ)). cond (is_some (find key_cmp q old)) None o) (get-from_entries nat_list_cmp_total (row_pairs tables rows ++ others) q)
    ∙ at_key q (find key_cmp q old) refl
    ∙ sym (get-from_entries nat_list_cmp_total (row_pairs tables kept ++ others) q))

-- a row that is found by its key
pub delete_row : (tables : List Table) (rows : Rows) (others : List Pair) (t : ℕ) (key row : List Value) → Keeps tables rows → AreBeside others → row_at tables rows t key ≡ Some row → changed_content (removals (pairs_of_row t (table_at tables t) row)) (content_pairs tables rows others) ≡ content_pairs tables (rows_without tables t key rows) others
delete_row tables rows others t key row keeps beside found =
    let of_row = row_found tables rows t key row keeps found in
    let own = key_of (table_at tables t) row in
    let here : row_at tables rows t own ≡ Some row = ap (row_at tables rows t) of_row.key_is ∙ found in
    delete_only tables rows others t row (only_row tables rows t row keeps.apart here) keeps.fit of_row.fits beside
    ∙ ap (λ (k : List Value). content_pairs tables (rows_without tables t k rows) others) of_row.key_is
