-- RUN after RUN, each with the cursor that the report before it has, gives the pages of a query.
use Rattle.std.proofs.Common.{◌≡◌, ◌⊎◌, ℕ, zero, suc, ◌+◌, ◌<◌, ◌≤◌, Bool, cond, inl, inr, List, [], ◌∷◌, ◌++◌, length, map, flat_map, take, Option, Some, None, Result, Ok, Err, option_map, refl, sym, ap, ◌∙◌, subst, arith}
use Rattle.std.specs.Prelude.{is_some}
use Rattle.std.specs.Ordering.{is_lt}
use Rattle.std.specs.List.{AllByRecursion, list_all}
use Rattle.std.proofs.lemmas.Bool.{eq-eqb, ne_eqb}
use Rattle.std.proofs.lemmas.Option.{none-some, same_Some}
use Rattle.pq_base.specs.Members.{In}
use Rattle.pq_base.specs.Values.{AllFit}
use Rattle.pq_base.specs.declared.refusal.Refusal.{Refusal}
use Rattle.pq_base.specs.declared.value.Value.{Value}
use Rattle.pq_base.proofs.Members.{each_in, each_by_in, in_filter, in_flat_map, in_map, in_take}
use Rattle.pq_base.proofs.Sorts.{each-sort_by}
use Rattle.pq_schema.specs.Candidates.{stop_size}
use Rattle.pq_schema.specs.Schema.{find_query, query_at}
use Rattle.pq_schema.specs.declared.query.Query.{Query}
use Rattle.pq_nodes.specs.Combos.{IsCombo, position_types}
use Rattle.pq_nodes.proofs.Fitting.{combo_fits, position_fits}
use Rattle.pq_nodes.proofs.Making.{combo_push, no_rows_combo}
use Rattle.pq_plan.specs.Answer.{Question, answered, by_position, combos, holds, past, position, product, rows_at, stopped, whole}
use Rattle.pq_running.specs.Running.{Running, running_with, running_of, begins_after, cursor_of, cursor_start, next_of, or_begins, page_size, params_refusal}
use Rattle.pq_running.proofs.Begins.{begins_behind, begins_passed}
use Rattle.pq_runnable.proofs.Staying.{err_not_ok}
use Rattle.pq_running.specs.Running.{last_of}
use Rattle.pq_print.specs.declared.report.Line.{Line}
use Rattle.pq_print.specs.declared.report.Report.{Report}
use Rattle.pq_catalog.specs.Model.{Model}
use Rattle.pq_laws.specs.Pages.{ArePages, AreRuns, IsPaged, last, last_run, line_of, next, next_in, next_run, question_of}
use Rattle.pq_reports.specs.Step.{page_of}
use Rattle.pq_laws.proofs.Paging.{in_last, pages_each, pages_end, some, some_last, sound, taken}
use Rattle.pq_statement.proofs.Found.{of_number}

-- ---- a combination of the answer has a row for each relation

module _ (q : Question) where
  product_combos : (i : ℕ) → AllByRecursion (IsCombo q i) (product q i)
  product_combos zero = no_rows_combo q
  product_combos (suc i) = each_by_in (IsCombo q (suc i)) (product q (suc i)) (λ d here.
      let f = in_flat_map (λ combo. map (λ row. combo ++ row ∷ []) (rows_at q (suc i))) d (product q i) here in
      let m = in_map (λ (row : List Value). f.0 ++ row ∷ []) d (rows_at q (suc i)) f.2 in
      subst (IsCombo q (suc i)) m.2 (combo_push q i f.0 m.0 (each_in (IsCombo q i) (product q i) (product_combos i) f.0 f.1) m.1))

  abbrev count : ℕ
  count = length q.query.relations

  whole_combos : AllByRecursion (IsCombo q count) (whole q)
  whole_combos = each-sort_by (by_position q) (position q) (IsCombo q count) (combos q) (each_by_in (IsCombo q count) (combos q) (λ d here.
      each_in (IsCombo q count) (product q count) (product_combos count) d (in_filter (λ combo. list_all (holds q.params combo) q.query.preds) d (product q count) here).0))

  in_past : (after : Option (List Value)) (combo : List (List Value)) → In combo (past q after (whole q)) → In combo (whole q)
  in_past None combo here = here
  in_past (Some at) combo here = (in_filter (λ combo. is_lt (by_position q at (position q combo))) combo (whole q) here).0

-- ---- the runs of a query with PAGINATE k

abbrev running_in : Running → Result Running Refusal → Running
running_in other (Ok running) = running
running_in other (Err why) = other

module _ (m : Model) (name : List ℕ) (params : List Value) (number k : ℕ) (found : find_query m.schema name ≡ Some number) (paged : IsPaged m (query_at m.schema number) k) where
  abbrev query : Query
  query = query_at m.schema number

  abbrev q : Question
  q = question_of m query params

  abbrev run : Option (List Value) → Running
  run at = running_with number query params at

  abbrev Begins : Option (List ℕ) → Option (List Value) → Type 0
  Begins cursor at = cursor_start m.schema.tables number query params cursor ≡ Ok at

  -- what is run where it begins there
  begun_run : (cursor : Option (List ℕ)) (at : Option (List Value)) → Begins cursor at → running_of m.schema name params cursor ≡ Ok (run at)
  begun_run cursor at begins = of_number m.schema name params cursor number (Ok at) found begins

  run_is : (cursor : Option (List ℕ)) (at : Option (List Value)) (running : Running) → Begins cursor at → running_of m.schema name params cursor ≡ Ok running → run at ≡ running
  run_is cursor at running begins is = ap (running_in (run at)) (sym (begun_run cursor at begins) ∙ is)

  page_is : (at : Option (List Value)) → answered q at ≡ take k (past q at (whole q))
  page_is at = ap (λ (s : Option ℕ). stopped q s at (whole q)) (ap stop_size paged.size)

  page_combo : (at : Option (List Value)) (combo : List (List Value)) → In combo (answered q at) → In combo (whole q)
  page_combo at combo here = in_past q at combo (in_take k combo (past q at (whole q)) (subst (In combo) (page_is at) here))

  -- the cursor of a combination is read as its position
  again : params_refusal query.params params ≡ None → (at : Option (List Value)) (combo : List (List Value)) → last_of (answered q at) ≡ Some combo → Begins (Some (cursor_of m.schema.tables m.rows (run at) combo)) (Some (position q combo))
  again free at combo is =
      let here : In combo (whole q) = page_combo at combo (in_last (answered q at) combo is) in
      let combo_is : IsCombo q (count q) combo = each_in (IsCombo q (count q)) (whole q) (whole_combos q) combo here in
      let fits : AllFit (position_types m.schema.tables query) (position q combo) =
      position_fits m.schema.tables query (sound m query params k paged) paged.resolved m.rows params combo
      (combo_fits m.schema.tables query m.rows params (sound m query params k paged) paged.keeps.schema (count q) (omega arith) combo combo_is) in
      begins_passed m.schema.tables number query params (Some (cursor_of m.schema.tables m.rows (run at) combo)) free
      ∙ begins_behind m.schema.tables number query (cursor_of m.schema.tables m.rows (run at) combo) (ap (λ (s : Option ℕ). is_some s) (ap page_size paged.size)) (position q combo) (record { fits = fits; is = refl })

  -- ---- the end of a report

  abbrev next_at : Option (List Value) → Option ℕ → Option (List ℕ)
  next_at at size = next_of m.schema.tables m.rows (run at) size (answered q at)

  sized : (at : Option (List Value)) → next_at at (page_size query.stop) ≡ next_at at (Some k)
  sized at = ap (next_at at) (ap page_size paged.size)

  full_or_few : (at : Option (List Value)) → (length (answered q at) < k) ⊎ (length (answered q at) ≡ k)
  full_or_few at = subst (λ (l : List (List (List Value))). (length l < k) ⊎ (length l ≡ k)) (sym (page_is at)) (first (taken k (past q at (whole q))))
    where
      first : (length (take k (past q at (whole q))) < k) ⊎ ((length (take k (past q at (whole q))) ≡ k) × (k ≤ length (past q at (whole q)))) → (length (take k (past q at (whole q))) < k) ⊎ (length (take k (past q at (whole q))) ≡ k)
      first (inl few) = inl few
      first (inr full) = inr full.0

  abbrev cursor_at : Option (List Value) → List (List Value) → List ℕ
  cursor_at at combo = cursor_of m.schema.tables m.rows (run at) combo

  none_few : (at : Option (List Value)) → length (answered q at) < k → next_at at (Some k) ≡ None
  none_few at few = ap (λ (b : Bool). cond b (option_map (cursor_at at) (last_of (answered q at))) None) (ne_eqb (length (answered q at)) k (λ same. absurd (omega (arith, few, same))))

  some_full : (at : Option (List Value)) (combo : List (List Value)) → length (answered q at) ≡ k → last_of (answered q at) ≡ Some combo → next_at at (Some k) ≡ Some (cursor_at at combo)
  some_full at combo full is =
      ap (λ (b : Bool). cond b (option_map (cursor_at at) (last_of (answered q at))) None) (eq-eqb (length (answered q at)) k full) ∙ ap (option_map (cursor_at at)) is

  last_full : (at : Option (List Value)) → length (answered q at) ≡ k → (combo : List (List Value)) × (last_of (answered q at) ≡ Some combo)
  last_full at full = let one = some m query params k paged in some_last (answered q at) (omega (arith, one, full))

  few_none : (at : Option (List Value)) → next_at at (page_size query.stop) ≡ None → length (answered q at) < k
  few_none at is = by (full_or_few at)
    where
      by : (length (answered q at) < k) ⊎ (length (answered q at) ≡ k) → length (answered q at) < k
      by (inl few) = few
      by (inr full) = let l = last_full at full in absurd (none-some (cursor_at at l.0) (sym is ∙ sized at ∙ some_full at l.0 full l.1))

  full_some : (at : Option (List Value)) (text : List ℕ) → next_at at (page_size query.stop) ≡ Some text
      → (combo : List (List Value)) × (length (answered q at) ≡ k) × (last_of (answered q at) ≡ Some combo) × (text ≡ cursor_at at combo)
  full_some at text is = by (full_or_few at)
    where
      by : (length (answered q at) < k) ⊎ (length (answered q at) ≡ k) → (combo : List (List Value)) × (length (answered q at) ≡ k) × (last_of (answered q at) ≡ Some combo) × (text ≡ cursor_at at combo)
      by (inl few) = absurd (none-some text (sym (none_few at few) ∙ sym (sized at) ∙ is))
      by (inr full) = let l = last_full at full in (l.0, full, l.1, same_Some text (cursor_at at l.0) (sym is ∙ sized at ∙ some_full at l.0 full l.1))

  -- ---- the pages behind a position

  abbrev lines_of : Report → List Line
  lines_of report = report.lines

  -- the pages that these reports have
  record Reported (at : Option (List Value)) (reports : List Report) : Type 0 where
    pages : List (List (List (List Value)))
    are : ArePages q k at pages
    lines : flat_map lines_of reports ≡ flat_map (map (line_of query)) pages

  module _ (free : params_refusal query.params params ≡ None) where
    reported : (cursor : Option (List ℕ)) (at : Option (List Value)) (reports : List Report) → Begins cursor at → AreRuns m name params cursor reports → Reported at reports
    reported _ at _ begins (last_run cursor n running is ends) =
        let same = run_is cursor at running begins is in
        let few = few_none at (ap (λ (r : Running). next_in (page_of m n r).end) same ∙ ends) in
        record {
          pages = answered q at ∷ [];
          are = last at few;
          lines = ap (λ (r : Running). lines_of (page_of m n r) ++ []) (sym same);
        }
    reported _ at _ begins (next_run cursor n running text reports is ends more) =
        let same = run_is cursor at running begins is in
        let full = full_some at text (ap (λ (r : Running). next_in (page_of m n r).end) same ∙ ends) in
        let rest = reported (Some text) (Some (position q full.0)) reports (subst (λ (t : List ℕ). Begins (Some t) (Some (position q full.0))) (sym full.3) (again free at full.0 full.2)) more in
        record {
          pages = answered q at ∷ rest.pages;
          are = next at full.0 rest.pages full.1 full.2 rest.are;
          lines = λ i. lines_of (page_of m n (sym same i)) ++ rest.lines i;
        }

    -- and the reports that these pages have
    reports_of : (cursor : Option (List ℕ)) (at : Option (List Value)) (pages : List (List (List (List Value)))) → Begins cursor at → ArePages q k at pages → (reports : List Report) × AreRuns m name params cursor reports
    reports_of cursor _ _ begins (last at few) =
        (page_of m 1 (run at) ∷ [], last_run cursor 1 (run at) (begun_run cursor at begins) (sized at ∙ none_few at few))
    reports_of cursor _ _ begins (next at combo pages full is more) =
        let rest = reports_of (Some (cursor_at at combo)) (Some (position q combo)) pages (again free at combo is) more in
        (page_of m 1 (run at) ∷ rest.0, next_run cursor 1 (run at) (cursor_at at combo) rest.0 (begun_run cursor at begins) (sized at ∙ some_full at combo full is) rest.1)

    first_begins : Begins None None
    first_begins = begins_passed m.schema.tables number query params None free

  -- parameters that are refused are run by none
  refused_run : (why : Refusal) → params_refusal query.params params ≡ Some why → (cursor : Option (List ℕ)) (running : Running) → running_of m.schema name params cursor ≡ Ok running → ⊥
  unfolding cursor_start
  refused_run why refused cursor running is =
      let begins : cursor_start m.schema.tables number query params cursor ≡ Err why = ap (λ (o : Option Refusal). or_begins o (begins_after m.schema.tables number query cursor)) refused in
      err_not_ok why running (sym (of_number m.schema name params cursor number (Err why) found begins) ∙ is)

  none_run : (why : Refusal) → params_refusal query.params params ≡ Some why → (cursor : Option (List ℕ)) (reports : List Report) → AreRuns m name params cursor reports → ⊥
  none_run why refused _ _ (last_run cursor n running is ends) = refused_run why refused cursor running is
  none_run why refused _ _ (next_run cursor n running text reports is ends more) = refused_run why refused cursor running is

  pub runs_all : (reports : List Report) → AreRuns m name params None reports → flat_map lines_of reports ≡ map (line_of query) (whole q)
  runs_all reports are = by (params_refusal query.params params) refl
    where
      by : (o : Option Refusal) → params_refusal query.params params ≡ o → flat_map lines_of reports ≡ map (line_of query) (whole q)
      by None free = let r = reported free None None reports (first_begins free) are in r.lines ∙ pages_each m query params k paged (line_of query) r.pages r.are
      by (Some why) refused = absurd (none_run why refused None reports are)

  pub runs_end : params_refusal query.params params ≡ None → (reports : List Report) × AreRuns m name params None reports
  runs_end free = let p = pages_end m query params k paged in reports_of free None None p.0 (first_begins free) p.1
