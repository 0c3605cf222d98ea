-- A page that was run is what the step of RUN gives, and the answer of a query that is run once what that of SELECT gives.
use Rattle.std.proofs.Common.{◌≡◌, ℕ, ◌≤◌, List, [], length, map, Option, Some, None, Ok, refl, sym, ap, ◌∙◌, subst, inl, arith}
use Rattle.std.specs.Prelude.{IfSome}
use Rattle.std.specs.List.{AllByRecursion}
use Rattle.std.proofs.lemmas.List.{length-map}
use Rattle.std.proofs.lemmas.Simd.{map-map}
use Rattle.pq_base.specs.declared.number.Bound.{Bound}
use Rattle.pq_base.specs.declared.value.Value.{Value}
use Rattle.pq_base.specs.Values.{AllFit}
use Rattle.pq_base.specs.declared.value.ColType.{ColType}
use Rattle.pq_schema.specs.Schema.{Schema}
use Rattle.pq_schema.specs.Valid.{IsValid}
use Rattle.pq_schema.specs.declared.query.Query.{Query}
use Rattle.pq_schema.proofs.Valid.{valid_made}
use Rattle.pq_print.specs.declared.report.End.TheVariants.{Rows as RowsEnd}
use Rattle.pq_print.specs.declared.report.Line.TheVariants.{Row}
use Rattle.pq_print.specs.declared.report.Report.{Report}
use Rattle.pq_store.specs.Breaks.{IfDamaged}
use Rattle.pq_store.specs.Content.{Content}
use Rattle.pq_store.specs.Counts.{Counts}
use Rattle.pq_store.specs.declared.damage.Broke.{Broke}
use Rattle.pq_store.specs.declared.damage.Broke.TheVariants as broke
use Rattle.pq_calls.specs.World.{where_told}
use Rattle.pq_plan.specs.Answer.{answer, selected_values}
use Rattle.pq_plan.specs.declared.physical.Physical.{Physical}
use Rattle.pq_nodes.specs.Combos.{selected_types}
use Rattle.pq_nodes.specs.Operators.{IsAsked, IsSoundOverRows, ShowsRead}
use Rattle.pq_exec.specs.Execution.{RisesByUsed, RisesWithin}
use Rattle.pq_planning.specs.Planned.{IsComputed, IsOnce}
use Rattle.pq_planning.specs.Planning.{PlannedDefinition}
use Rattle.pq_planning.specs.declared.planning.PlannedQuery.{PlannedQuery}
use Rattle.pq_running.specs.Running.{Running, next_of, page_combos, page_size, query_bound}
use Rattle.pq_pages.specs.Paging.{IsAnswerOf, IsAnswerOver, IsOnceIn, IsPageIn, IsPageOf, IsPageOver}
use Rattle.pq_pages.specs.declared.page.Page.{Page}
use Rattle.pq_reports.specs.Evidence.{TellsEvidence}
use Rattle.pq_reports.specs.Refusing.{IsUnread}
use Rattle.pq_reports.specs.Making.{IsWithinAsked, MakesAction, TellsOnceIn}
use Rattle.pq_reports.specs.Matches.{Matches}
use Rattle.pq_reports.specs.Telling.{TellsAction}
use Rattle.pq_catalog.specs.Kept.{IsKeptPlan}
use Rattle.pq_catalog.specs.Model.{Model}
use Rattle.pq_catalog.proofs.Kept.{compiled_kept}
use Rattle.pq_intent.specs.Spending.{TakesAtMost}
use Rattle.pq_reports.specs.Promise.{BrokenStatement, DoneStatement, IsBound, IsWithinFixed}
use Rattle.pq_step.specs.Paged.{page_report}
use Rattle.pq_catalog.specs.Stands.{Stands, others_of}
use Rattle.pq_statement.specs.Actions.{Action, Runs, Selects, action_bound, action_schema}
use Rattle.pq_reports.specs.Step.{Step, action_step, answer_of, page_of, report_step}
use Rattle.pq_reports.proofs.Promises.{broken_kept, of_each, of_told, shown_for, within_step}
use Rattle.pq_write.proofs.Writing.{settled_rows}

-- ---- rows of a query

-- an action that tells of rows on a query's bound, and changes nothing
record TellsRows (number : ℕ) (query : Query) (schema : Schema) (action : Action) (report : Model → Report) : Type 0 where
  pub step_is : (m : Model) → action_step m number action ≡ report_step m (report m)
  pub bound_is : action_bound schema action ≡ Some (query_bound schema.tables query)
  pub schema_is : schema ≡ action_schema schema action
  pub unread : (told : Report) → IsUnread number (Ok action) told

module _ (number : ℕ) (query : Query) (schema : Schema) (action : Action) (report : Model → Report) (tells : TellsRows number query schema action report) where
  abbrev most : Bound
  most = query_bound schema.tables query

  within_rows : (before later : Counts) → RisesWithin most before later → TakesAtMost most before later
  within_rows before later rises = record { ops = rises.few_ops; entries = rises.few_entries }

  rows_match : (m : Model) (page : Page) → record (report m) { used = page.used } ≡ page_report number page → page.used.ops ≤ page.bound.ops → page.used.entries ≤ page.bound.entries
      → Matches (action_step m number action).report (page_report number page)
  rows_match m page same few_ops few_entries =
      let bound_is : (report m).bound ≡ page.bound = ap (λ (r : Report). r.bound) same in
      let most_ops = ap (λ (b : Bound). b.ops) bound_is in
      let most_entries = ap (λ (b : Bound). b.entries) bound_is in
      subst (λ (x : Step). Matches x.report (page_report number page)) (sym (tells.step_is m))
      (record { same = same; ops = omega (arith, few_ops, most_ops); entries = omega (arith, few_entries, most_entries) })

  -- rows that were told
  rows_done : (old now : Option Content) (before later : Counts) (page : Page) → ((m : Model) → Stands old schema m → record (report m) { used = page.used } ≡ page_report number page) → page.bound ≡ most
      → RisesByUsed page.used before later → RisesWithin most before later → now ≡ old
      → IfSome old (λ content. MakesAction schema action content now (page_report number page)) → TellsAction schema action (page_report number page)
      → DoneStatement number (Ok action) old now schema schema before later (page_report number page)
  rows_done old now before later page reported bound used rises same made kind =
      let most_ops = ap (λ (b : Bound). b.ops) bound in
      let most_entries = ap (λ (b : Bound). b.entries) bound in
      let few_ops : page.used.ops ≤ page.bound.ops = omega (arith, used.ops, rises.few_ops, most_ops) in
      let few_entries : page.used.entries ≤ page.bound.entries = omega (arith, used.entries, rises.few_entries, most_entries) in
      record {
        matches = λ m s. rows_match m page (reported m s) few_ops few_entries;
        made = λ m s. subst (λ (x : Step). Stands now schema x.model) (sym (tells.step_is m)) (subst (λ (o : Option Content). Stands o schema m) (sym same) s);
        ops = used.ops;
        entries = used.entries;
        few_ops = few_ops;
        few_entries = few_entries;
        bound = subst (λ (o : Option Bound). IsBound o page.bound) (sym tells.bound_is) bound;
        refused = λ refusal. absurd refusal;
        accepted = λ _. tells.schema_is;
        numbered = refl;
        unread = tells.unread (page_report number page);
        can = tt;
        reads = λ _. same;
        tells = λ _. made;
        kind = λ _. kind;
        bare = λ refusal. absurd refusal;
      }

  -- damage that a read shows is evidence
  read_shown : (old : Option Content) (error : Broke) → IfDamaged (where_told (ShowsRead schema.tables) old) error → IfSome old (λ content. TellsEvidence schema content error)
  read_shown None error shows = tt
  read_shown (Some content) broke.Failed shows = tt
  read_shown (Some content) broke.NoMem shows = tt
  read_shown (Some content) (broke.Damaged damage) shows = inl shows

  -- a run that broke off
  rows_broke : ((content : Content) (before later : Counts) → IsWithinAsked (Ok action) content before later) → (old now : Option Content) (before later : Counts) (error : Broke) → IsSoundOverRows old schema.tables error → IfDamaged (where_told (ShowsRead schema.tables) old) error
      → RisesWithin most before later → now ≡ old → BrokenStatement number (Ok action) old now schema before later error
  rows_broke free old now before later error sound shows rises same =
      broken_kept number (Ok action) old now schema before later error same
      (λ m s. sound m.rows (others_of m) (settled_rows old schema m s))
      (subst (λ (o : Option Bound). IsWithinFixed o before later) (sym tells.bound_is) (within_rows before later rises))
      (within_step number action old schema most before later tells.bound_is (within_rows before later rises))
      (of_each old (λ content. IsWithinAsked (Ok action) content before later) (λ content. free content before later))
      (shown_for (Ok action) old schema error (read_shown old error shows))

-- over the schema that is known the bound is that of the model
known_bound : (schema : Schema) (m : Model) (query : Query) (told : Bound) → schema ≡ m.schema → told ≡ query_bound schema.tables query → told ≡ query_bound m.schema.tables query
known_bound schema m query told known is = is ∙ ap (λ (x : Schema). query_bound x.tables query) known

-- ---- the page of a query

-- the report of the page is the step's, with what was used
page_reported : (m : Model) (number : ℕ) (run : Running) (page : Page) → IsPageOver m.schema.tables m.rows run page → page.bound ≡ query_bound m.schema.tables run.query
    → record (page_of m number run) { used = page.used } ≡ page_report number page
page_reported m number run page is most =
    let combos = page_combos m.schema.tables m.rows run in
    let lines : map (λ (combo : List (List Value)). Row (selected_values run.query combo)) combos ≡ map Row page.rows = sym (map-map Row (selected_values run.query) combos) ∙ ap (map Row) (sym is.rows) in
    let many : length combos ≡ length page.rows = sym (ap length is.rows ∙ length-map combos (selected_values run.query)) in
    let next : next_of m.schema.tables m.rows run (page_size run.query.stop) combos ≡ page.next = sym is.next in
    let bound : query_bound m.schema.tables run.query ≡ page.bound = sym most in
    (λ i. record { number = number; lines = lines i; end = RowsEnd (many i) (next i); bound = bound i; used = page.used })

module _ (number : ℕ) (run : Running) (schema : Schema) where
  abbrev tells_page : TellsRows number run.query schema (Runs run) (λ m. page_of m number run)
  tells_page = record { step_is = λ m. refl; bound_is = refl; schema_is = refl; unread = λ told. tt }

  -- a page of the rows, on the query's bound
  pub page_done : (old now : Option Content) (before later : Counts) (page : Page) → IsPageOf old schema.tables run page → page.bound ≡ query_bound schema.tables run.query
      → RisesByUsed page.used before later → RisesWithin (query_bound schema.tables run.query) before later → now ≡ old
      → (tree : Physical) → IsKeptPlan schema.tables run.query tree → IfSome old (IsPageIn schema.tables run tree page) → AllByRecursion (AllFit (selected_types schema.tables run.query)) page.rows
      → DoneStatement number (Ok (Runs run)) old now schema schema before later (page_report number page)
  page_done old now before later page is bound used rises same tree kept codes fit =
      rows_done number run.query schema (Runs run) (λ m. page_of m number run) tells_page old now before later page
      (λ m s.
      let over : IsPageOver m.schema.tables m.rows run page = subst (λ (x : Schema). IsPageOver x.tables m.rows run page) s.known (is m.rows (others_of m) (settled_rows old schema m s)) in
      page_reported m number run page over (known_bound schema m run.query page.bound s.known bound))
      bound used rises same
      (of_told old (IsPageIn schema.tables run tree page) (λ content. MakesAction schema (Runs run) content now (page_report number page))
      (λ content found. record { tree = tree; plan = kept; page = page; found = found; lines = refl; end_is = refl }) codes)
      (record { rows = page.rows; next = page.next; fit = fit; lines = refl; end_is = refl })

  -- a run that broke off
  pub page_broke : (old now : Option Content) (before later : Counts) (error : Broke) → IsSoundOverRows old schema.tables error → IfDamaged (where_told (ShowsRead schema.tables) old) error
      → RisesWithin (query_bound schema.tables run.query) before later → now ≡ old → BrokenStatement number (Ok (Runs run)) old now schema before later error
  page_broke = rows_broke number run.query schema (Runs run) (λ m. page_of m number run) tells_page (λ content before later. tt)

-- ---- the answer of a query that is run once

module _ (schema : Schema) (computed : PlannedQuery) (valid : IsValid schema) (are : IsComputed schema.tables computed) (once : IsOnce computed) where
  pub once_asked : IsAsked schema.tables computed.query []
  once_asked = record {
    made = valid_made valid;
    resolved = are.resolved;
    params_fit = subst (λ (types : List ColType). AllFit types []) (sym once.params) tt;
  }

  pub once_kept : IsKeptPlan schema.tables computed.query computed.compiled.plan
  once_kept = compiled_kept schema computed.query computed.compiled valid are.resolved are.compiled once.wanted

-- the report of the answer is the step's, with what was used
answer_reported : (m : Model) (number : ℕ) (query : Query) (page : Page) → IsAnswerOver m.schema.tables m.rows query page → page.bound ≡ query_bound m.schema.tables query
    → record (answer_of m number query) { used = page.used } ≡ page_report number page
answer_reported m number query page is most =
    let rows : answer m.schema.tables query m.rows [] None ≡ page.rows = sym is.rows in
    let next : None ≡ page.next = sym is.next in
    let bound : query_bound m.schema.tables query ≡ page.bound = sym most in
    (λ i. record { number = number; lines = map Row (rows i); end = RowsEnd (length (rows i)) (next i); bound = bound i; used = page.used })

-- the plan's query is that which was planned
module _ (number : ℕ) (plan : PlannedDefinition) (query : Query) (schema : Schema) (query_is : plan.query ≡ query) where
  abbrev tells_answer : TellsRows number query schema (Selects plan) (λ m. answer_of m number plan.query)
  tells_answer = record {
    step_is = λ m. refl;
    bound_is = ap (λ (q : Query). Some (query_bound schema.tables q)) query_is;
    schema_is = refl;
    unread = λ told. tt;
  }

  pub answer_done : (old now : Option Content) (before later : Counts) (page : Page) → IsAnswerOf old schema.tables query page → page.bound ≡ query_bound schema.tables query
      → RisesByUsed page.used before later → RisesWithin (query_bound schema.tables query) before later → now ≡ old
      → (tree : Physical) → IsKeptPlan schema.tables query tree → IfSome old (IsOnceIn schema.tables query tree page) → AllByRecursion (AllFit (selected_types schema.tables query)) page.rows → page.next ≡ None
      → DoneStatement number (Ok (Selects plan)) old now schema schema before later (page_report number page)
  answer_done old now before later page is bound used rises same tree kept codes fit last =
      rows_done number query schema (Selects plan) (λ m. answer_of m number plan.query) tells_answer old now before later page
      (λ m s.
      let over : IsAnswerOver m.schema.tables m.rows query page = subst (λ (x : Schema). IsAnswerOver x.tables m.rows query page) s.known (is m.rows (others_of m) (settled_rows old schema m s)) in
      subst (λ (q : Query). record (answer_of m number q) { used = page.used } ≡ page_report number page) (sym query_is)
      (answer_reported m number query page over (known_bound schema m query page.bound s.known bound)))
      bound used rises same
      (of_told old (IsOnceIn schema.tables query tree page) (λ content. MakesAction schema (Selects plan) content now (page_report number page))
      (λ content found. subst (λ (q : Query). TellsOnceIn schema.tables q content (page_report number page)) (sym query_is)
      (record { tree = tree; plan = kept; page = page; found = found; lines = refl; end_is = ap (RowsEnd (length page.rows)) last })) codes)
      (subst (λ (q : Query). TellsAction schema (Selects (record plan { query = q })) (page_report number page)) (sym query_is)
      (record { rows = page.rows; fit = fit; lines = refl; end_is = ap (RowsEnd (length page.rows)) last }))

  pub answer_broke : (old now : Option Content) (before later : Counts) (error : Broke) → IsSoundOverRows old schema.tables error → IfDamaged (where_told (ShowsRead schema.tables) old) error
      → RisesWithin (query_bound schema.tables query) before later → now ≡ old → BrokenStatement number (Ok (Selects plan)) old now schema before later error
  answer_broke = rows_broke number query schema (Selects plan) (λ m. answer_of m number plan.query) tells_answer (λ content before later. tt)
