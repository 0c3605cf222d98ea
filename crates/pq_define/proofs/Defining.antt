-- What a definition makes of what a content stands for.
use Rattle.std.proofs.Common.{lit≤, ◌≡◌, ℕ, ◌+◌, ◌-◌, get_or, ◌<◌, ◌≤◌, Bool, true, false, true≢false, List, [], ◌∷◌, ◌++◌, length, Option, Some, None, Result, Ok, Err, refl, sym, ap, ◌∙◌, subst, arith, inl, inr}
use Rattle.std.specs.Prelude.{is_none, IfSome, IfOk, IfErr, MatchResult, OnOk, OnErr}
use Rattle.std.proofs.Math.Seq.{get_or-append_seam}
use Rattle.std.specs.FinMap.{get, insert}
use Rattle.std.proofs.lemmas.List.{length-append}
use Rattle.pq_base.specs.declared.number.Bound.{Bound}
use Rattle.pq_base.specs.declared.number.Used.{Used}
use Rattle.pq_base.specs.declared.refusal.Refusal.{Refusal}
use Rattle.pq_schema.specs.declared.definition.AlterDef.{AlterDef}
use Rattle.pq_schema.specs.declared.definition.TableDef.{TableDef}
use Rattle.pq_schema.specs.declared.made.Definition.{Definition}
use Rattle.pq_schema.specs.declared.made.Definition.TheVariants.{OfTable, OfQuery, OfColumn}
use Rattle.pq_schema.specs.declared.table.Table.{Table}
use Rattle.pq_schema.specs.declared.query.Query.{Query}
use Rattle.pq_schema.specs.Candidates.{Candidate}
use Rattle.pq_schema.specs.Definitions.{AddsColumn, altered_schema, altered_table, new_column, new_table}
use Rattle.pq_schema.specs.Schema.{Schema, with_table, with_query}
use Rattle.pq_key_code.specs.KeyCode.{catalog_key}
use Rattle.pq_content.specs.Tables.{Keeps}
use Rattle.pq_content.proofs.MoreTables.{keeps-more}
use Rattle.pq_print.specs.declared.report.Line.{Line}
use Rattle.pq_print.specs.declared.report.End.TheVariants.{Done}
use Rattle.pq_store.specs.Content.{Content}
use Rattle.pq_store.specs.Counts.{Counts, charged_counts}
use Rattle.pq_store.specs.declared.damage.Broke.{Broke}
use Rattle.pq_store.specs.declared.damage.Broke.TheVariants as broke
use Rattle.pq_intent.specs.Changing.{IfDamagedSame}
use Rattle.pq_reports.specs.Evidence.{TellsEvidence}
use Rattle.pq_store.specs.declared.damage.Damage.{Damage}
use Rattle.pq_schema.specs.Names.{IsTableDef, IsAlterDef}
use Rattle.pq_schema.specs.Valid.{IsValid, IsAddition, IsDefined}
use Rattle.pq_schema.specs.Valid.IsValid.{then_table, then_query, then_column}
use Rattle.pq_schema.proofs.Valid.{column_parts}
use Rattle.pq_reports.specs.Putting.{PutsNew, MayPut}
use Rattle.pq_store.specs.Breaks.{IfDamaged, IsPresent, IsUndamaged}
use Rattle.pq_reports.specs.Making.{IsWithinAsked, LeavesAction, MakesAction}
use Rattle.pq_reports.specs.Matches.{Matches}
use Rattle.pq_catalog.specs.Model.{Model}
use Rattle.pq_print.specs.declared.report.Report.{Report}
use Rattle.pq_schema.specs.Tables.{table_at, no_table}
use Rattle.pq_catalog.specs.Extends.{Extends}
use Rattle.pq_intent.specs.Spending.{TakesAtMost}
use Rattle.pq_reports.specs.Promise.{OnlyReads, DoneStatement as Promised, BrokenStatement, LacksMemory, Promises, IsBound, IsWithinFixed}
use Rattle.pq_reports.specs.Refusing.{IsUnread}
use Rattle.pq_reports.specs.Reports.{define_report, used_numbers}
use Rattle.pq_reports.specs.Telling.{TellsAction}
use Rattle.pq_catalog.specs.Stands.{HoldsModel, Stands, content_of, value_at, last_key, last_value}
use Rattle.pq_builds.specs.Bounds.{bound}
use Rattle.pq_statement.specs.Actions.{Action, Creates, Adds, Prepares, action_bound, action_schema, action_from}
use Rattle.pq_planning.specs.Planning.{PlannedDefinition, planned_definition}
use Rattle.pq_reports.specs.Step.{Step, report_of, action_step, table_step, alter_step, prepared_over}
use Rattle.pq_planning.specs.Lines.{table_lines, query_lines}
use Rattle.pq_tallies.specs.Counters.{AreFewRows}
use Rattle.pq_tallies.specs.Defined.{counters_in}
use Rattle.pq_catalog.proofs.Definitions.{few_column, few_query, few_table, keeps_column, next_absent, put_column, put_table, put_query}
use Rattle.pq_catalog.proofs.Standing.{settled_opens}
use Rattle.pq_catalog.proofs.Made.{made_of, made_room, small_of}
use Rattle.pq_reports.proofs.Promises.{damaged_kept, of_each, shown_for, still_for, within_step}

-- one write makes the step, which leads to these definitions and has this bound
pub record Defines (most : Bound) (m : Model) (next : Schema) (number : ℕ) (lines : List Line) (made : Step) : Type 0 where
  pub known : next ≡ made.model.schema
  pub valid : IsValid made.model.schema
  pub keeps : Keeps made.model.schema.tables made.model.rows
  pub few : AreFewRows (counters_in made.model.schema) made.model.rows
  pub absent : get (content_of m) (last_key next) ≡ None
  pub put : insert (content_of m) (last_key next) (last_value next) ≡ content_of made.model
  pub report : made.report ≡ report_of number lines Done most

pub one_more : (definitions : List Definition) (last : Definition) → length definitions + 1 ≡ length (definitions ++ last ∷ [])
one_more definitions last = omega (arith, length-append definitions (last ∷ []))

defines_table : {old : Option Content} (m : Model) (number : ℕ) (def : TableDef) (table : Table) → HoldsModel old m → IsTableDef def → new_table m.schema def ≡ Ok table
    → Defines (bound 1 0) m (with_table m.schema table) number (table_lines table) (table_step m number table)
defines_table m number def table s is_def made =
    let small : length m.schema.definitions < 65535 = omega (arith, made_room m.schema def table made) in
    let more : length m.schema.definitions + 1 ≡ length (with_table m.schema table).definitions = one_more m.schema.definitions (OfTable (length m.schema.tables + 1) (length table.columns) (length table.indexes)) in
    record {
      known = refl;
      valid = then_table m.schema def table s.valid is_def made;
      keeps = keeps-more m.schema.tables table m.rows s.keeps;
      few = few_table m table s.few;
      absent = subst (λ n. get (content_of m) (catalog_key n) ≡ None) more (next_absent m small);
      put = subst (λ n. insert (content_of m) (catalog_key n) (value_at (with_table m.schema table) n) ≡ content_of (record m { schema = with_table m.schema table })) more (put_table m table s.valid (made_of m.schema s.valid) s.keeps small);
      report = refl;
    }

defines_query : {old : Option Content} (m : Model) (number : ℕ) (query : Query) (best : Candidate) → HoldsModel old m → IsDefined m.schema query None
    → Defines (bound 1 0) m (with_query m.schema query None) number (query_lines m.schema.tables (planned_definition query best None)) (prepared_over m number (planned_definition query best None) None)
defines_query m number query best s defined =
    let small : length m.schema.definitions < 65535 = omega (arith, small_of m.schema s.valid) in
    let more : length m.schema.definitions + 1 ≡ length (with_query m.schema query None).definitions = one_more m.schema.definitions (OfQuery query None) in
    record {
      known = refl;
      valid = then_query m.schema query None s.valid defined;
      keeps = s.keeps;
      few = few_query m query None s.few;
      absent = subst (λ n. get (content_of m) (catalog_key n) ≡ None) more (next_absent m small);
      put = subst (λ n. insert (content_of m) (catalog_key n) (value_at (with_query m.schema query None) n) ≡ content_of (record m { schema = with_query m.schema query None })) more (put_query m query small);
      report = refl;
    }

-- the column, and its default in each row of its table
defines_column : {old : Option Content} (m : Model) (number : ℕ) (def : AlterDef) → HoldsModel old m → IsAddition m.schema def (altered_schema m.schema def) → Defines (bound 1 0) m (altered_schema m.schema def) number [] (alter_step m number def)
defines_column m number def s is =
    let next = altered_schema m.schema def in
    let none = (column_parts m.schema def next is.accepted).0 in
    let small : length m.schema.definitions < 65535 = omega (arith, small_of m.schema s.valid) in
    let more : length m.schema.definitions + 1 ≡ length next.definitions = one_more m.schema.definitions (OfColumn (altered_table m.schema def) (length (table_at m.schema.tables (altered_table m.schema def)).columns)) in
    record {
      known = refl;
      valid = then_column m.schema def next s.valid is;
      keeps = keeps_column m def s.valid none is.fits s.keeps;
      few = few_column m def s.valid s.keeps s.few;
      absent = subst (λ n. get (content_of m) (catalog_key n) ≡ None) more (next_absent m small);
      put = subst (λ n. insert (content_of m) (catalog_key n) (value_at next n) ≡ content_of (alter_step m number def).model) more (put_column m def s.valid none s.keeps small);
      report = refl;
    }

-- a key that is no longer absent has a value
pub present_of : (old : Option Content) (key : List ℕ) (damage : Damage) (done : Bool) → done ≡ false → damage.key ≡ key → damage.value ≡ None → IfSome old (λ pairs. done ≡ is_none (get pairs key)) → IfSome old (λ pairs. IfDamaged (IsPresent key pairs) (broke.Damaged damage))
present_of None key damage done not_done at has told = tt
present_of (Some content) key damage done not_done at has told = by (get content key) refl
  where
    by : (o : Option (List ℕ)) → get content key ≡ o → IsPresent key content damage
    by None none = absurd (true≢false (sym (sym not_done ∙ told ∙ ap is_none none)))
    by (Some value) there = record { value = value; at = at; has = has; there = there }

-- the next definition's key shows the damage
present_shown : (old : Option Content) (schema : Schema) (broke : Broke) → IfSome old (λ pairs. IfDamaged (IsPresent (catalog_key (length schema.definitions + 1)) pairs) broke) → IfSome old (λ content. TellsEvidence schema content broke)
present_shown None schema broke shows = tt
present_shown (Some content) schema broke.Failed shows = tt
present_shown (Some content) schema broke.NoMem shows = tt
present_shown (Some content) schema (broke.Damaged damage) shows = inr (inr (inr shows))

-- what a put makes of the content that is told, and leaves of it
told_made : (old now : Option Content) (key value : List ℕ) (makes : Content → Type 0) → PutsNew true key value old now → IfSome old (λ content. PutsNew true key value (Some content) now → makes content) → IfSome old makes
told_made None now key value makes puts each = tt
told_made (Some content) now key value makes puts each = each puts

told_left : (old now : Option Content) (key value : List ℕ) (leaves : Content → Type 0) → MayPut key value old now → ((content : Content) → MayPut key value (Some content) now → leaves content) → IfSome old leaves
told_left None now key value leaves may each = tt
told_left (Some content) now key value leaves may each = each content may

module _ (most : Bound) (number : ℕ) (lines : List Line) (action : Action) (old now : Option Content) (schema next : Schema)
    (defines : (m : Model) → Stands old schema m → Defines most m next number lines (action_step m number action))
    (one : action_bound schema action ≡ Some most) (writes : OnlyReads (Ok action) → ⊥) (behind : next ≡ action_schema schema action) (other : (report : Report) → IsUnread number (Ok action) report) where
  added : (m : Model) → Stands old schema m → now ≡ Some (insert (content_of m) (last_key next) (last_value next)) → HoldsModel now (action_step m number action).model
  added m s is =
      let d = defines m s in
      record { valid = d.valid; keeps = d.keeps; few = d.few; told = is ∙ ap Some d.put }

  abbrev report_with : Used → Report
  report_with spent = record (report_of number lines Done most) { used = spent }

  pub define_done : (spent : Used) (before after : Counts) → spent.ops ≤ most.ops → spent.entries ≤ most.entries
      → after.ops ≡ before.ops + spent.ops → after.entries ≡ before.entries + spent.entries → PutsNew true (last_key next) (last_value next) old now
      → IfSome old (λ content. PutsNew true (last_key next) (last_value next) (Some content) now → MakesAction schema action content now (report_with spent)) → TellsAction schema action (report_with spent)
      → Promised number (Ok action) old now schema next before after (report_with spent)
  define_done spent before after few_ops few_entries ops entries puts makes kind = record {
    matches = λ m s. subst (λ (r : Report). Matches r (report_with spent)) (sym (defines m s).report) (record { same = refl; ops = few_ops; entries = few_entries });
    made = λ m s.
        let p = subst (λ o. PutsNew true (last_key next) (last_value next) o now) s.settled.told puts in
        record { settled = added m s p.1; known = (defines m s).known };
    ops = ops;
    entries = entries;
    few_ops = few_ops;
    few_entries = few_entries;
    bound = subst (λ (o : Option Bound). IsBound o most) (sym one) refl;
    refused = λ refusal. absurd refusal;
    accepted = λ _. behind;
    numbered = refl;
    unread = other (report_with spent);
    can = tt;
    reads = λ reads. absurd (writes reads);
    tells = λ _. told_made old now (last_key next) (last_value next) (λ content. MakesAction schema action content now (report_with spent)) puts makes;
    kind = λ _. kind;
    bare = λ refusal. absurd refusal;
  }

  -- the key is absent, so that no damage is found
  pub define_broken : (before after : Counts) (broke : Broke) → LacksMemory (Ok action) old now broke → MayPut (last_key next) (last_value next) old now
      → IfSome old (λ pairs. get pairs (last_key next) ≡ None → IsUndamaged broke) → TakesAtMost most before after
      → length schema.definitions + 1 ≡ length next.definitions → IfSome old (λ pairs. IfDamaged (IsPresent (last_key next) pairs) broke)
      → IfDamagedSame old now broke → ((content : Content) → MayPut (last_key next) (last_value next) (Some content) now → LeavesAction schema action content now)
      → ((content : Content) → IsWithinAsked (Ok action) content before after) → BrokenStatement number (Ok action) old now schema before after broke
  define_broken before after broke lacks may sound within more shows same leaves rows = record {
    stopped = λ m s. elim (subst (λ o. MayPut (last_key next) (last_value next) o now) s.settled.told may) [
      | inl same ↦ inl (settled_opens (record { valid = s.settled.valid; keeps = s.settled.keeps; few = s.settled.few; told = same }))
      | inr put ↦ inr (settled_opens (added m s put.1))
    ];
    sound = λ m s. subst (λ o. IfSome o (λ pairs. get pairs (last_key next) ≡ None → IsUndamaged broke)) s.settled.told sound (defines m s).absent;
    within = subst (λ (b : Option Bound). IsWithinFixed b before after) (sym one) within;
    within_own = λ m s. within_step number action old schema most before after one within m s;
    kept = damaged_kept schema (Ok action) old now broke same;
    left = told_left old now (last_key next) (last_value next) (λ content. LeavesAction schema action content now) may leaves;
    within_rows = of_each old (λ content. IsWithinAsked (Ok action) content before after) rows;
    memory = λ m s. lacks;
    reads = λ reads. absurd (writes reads);
    shown = shown_for (Ok action) old schema broke (here more shows);
    lasting = still_for (Ok action) old now schema broke same (shown_for (Ok action) old schema broke (here more shows));
  }
    where
      here : length schema.definitions + 1 ≡ length next.definitions → IfSome old (λ pairs. IfDamaged (IsPresent (last_key next) pairs) broke) → IfSome old (λ content. TellsEvidence schema content broke)
      here more shows = present_shown old schema broke (subst (λ n. IfSome old (λ pairs. IfDamaged (IsPresent (catalog_key n) pairs) broke)) (sym more) shows)

-- ---- how often the store is asked

-- what is refused before any call doesn't ask
pub none_asked : {T E : Type 0} (most : ℕ) (made : Result T E) (before after : ℕ) → after ≤ before → MatchResult made (λ found. after ≤ before + most) (λ why. after ≤ before)
none_asked most (Ok found) before after none = omega (arith, none)
none_asked most (Err why) before after none = none

pub some_asked : {T E : Type 0} (most : ℕ) (made : Result T E) (found : T) (before after : ℕ) → made ≡ Ok found → after ≤ before + most → MatchResult made (λ found. after ≤ before + most) (λ why. after ≤ before)
some_asked most made found before after is few = rw is few

-- ---- tables

table_defines : (old : Option Content) (schema : Schema) (number : ℕ) (def : TableDef) (table : Table) → IsTableDef def → new_table schema def ≡ Ok table
    → (m : Model) → Stands old schema m → Defines (bound 1 0) m (with_table schema table) number (table_lines table) (table_step m number table)
table_defines old schema number def table is_def made m s =
    let here : new_table m.schema def ≡ Ok table = ap (λ (x : Schema). new_table x def) (sym s.known) ∙ made in
    subst (λ (x : Schema). Defines (bound 1 0) m (with_table x table) number (table_lines table) (table_step m number table)) (sym s.known)
    (defines_table m number def table s.settled is_def here)

-- the last table has the number behind the others
last_table : (tables : List Table) (table : Table) (t : ℕ) → t ≡ length tables + 1 → table_at (tables ++ table ∷ []) t ≡ table
last_table tables table t is =
    let place : t - 1 ≡ length tables = omega arith in
    ap (λ k. get_or (tables ++ table ∷ []) k no_table) place ∙ get_or-append_seam tables table [] no_table

-- what the write of a definition's pair promises
abbrev pub IsWritten : Option Content → Option Content → Schema → ℕ → List Line → Counts → Counts
    → Result (Schema × Report) Broke → Type 0
IsWritten old now next number lines before after result =
    IfOk result (λ made. (made.0 ≡ next) × (made.1 ≡ define_report number lines))
    × OnOk result (PutsNew true (last_key next) (last_value next) old now)
    × OnErr result (MayPut (last_key next) (last_value next) old now)
    × IfErr result (λ broke. IfSome old (λ pairs. get pairs (last_key next) ≡ None → IsUndamaged broke))
    × OnOk result (after ≡ charged_counts before 0)
    × TakesAtMost (bound 1 0) before after
    × IfErr result (λ broke. IfSome old (λ pairs. IfDamaged (IsPresent (last_key next) pairs) broke))
    × IfErr result (IfDamagedSame old now)

written_as : (action : Action) (old now : Option Content) (schema next : Schema) (number : ℕ) (lines : List Line) (before after : Counts) (result : Result (Schema × Report) Broke)
    → ((m : Model) → Stands old schema m → Defines (bound 1 0) m next number lines (action_step m number action)) → action_bound schema action ≡ Some (bound 1 0) → (OnlyReads (Ok action) → ⊥) → ((broke : Broke) → LacksMemory (Ok action) old now broke) → next ≡ action_schema schema action → ((report : Report) → IsUnread number (Ok action) report)
    → length schema.definitions + 1 ≡ length next.definitions
    → ((content : Content) → PutsNew true (last_key next) (last_value next) (Some content) now → MakesAction schema action content now (define_report number lines)) → TellsAction schema action (define_report number lines)
    → ((content : Content) → MayPut (last_key next) (last_value next) (Some content) now → LeavesAction schema action content now) → ((content : Content) → IsWithinAsked (Ok action) content before after)
    → IsWritten old now next number lines before after result → Promises number (Ok action) old now schema before after result
written_as action old now schema next number lines before after (Ok made) defines one writes lacks behind other more makes kind leaves rows h =
    rw (h.0.0, h.0.1, h.4)
    (define_done (bound 1 0) number lines action old now schema next defines one writes behind other (used_numbers 1 0) before (charged_counts before 0) (lit≤ tt) (lit≤ tt) refl refl h.1
    (of_each old (λ content. PutsNew true (last_key next) (last_value next) (Some content) now → MakesAction schema action content now (define_report number lines)) makes) kind)
written_as action old now schema next number lines before after (Err broke) defines one writes lacks behind other more makes kind leaves rows h =
    define_broken (bound 1 0) number lines action old now schema next defines one writes behind other before after broke (lacks broke) h.2 h.3 h.5 more h.6 h.7 leaves rows

pub table_written : (old now : Option Content) (schema planned : Schema) (number : ℕ) (def : TableDef) → IsTableDef def → (t : ℕ) (before after : Counts) (result : Result (Schema × Report) Broke)
    → Extends schema def planned (Ok t) → IsWritten old now planned number (table_lines (table_at planned.tables t)) before after result
    → Promises number (action_from Creates (new_table schema def)) old now schema before after result
table_written old now schema planned number def is_def t before after result e all =
    let table = e.0 in
    let next = with_table schema table in
    let there = subst (λ (s : Schema). IsWritten old now s number (table_lines (table_at s.tables t)) before after result) e.2 all in
    let lined = subst (λ (x : Table). IsWritten old now next number (table_lines x) before after result) (last_table schema.tables table t e.3) there in
    subst (λ (r : Result Table Refusal). Promises number (action_from Creates r) old now schema before after result) (sym e.1)
    (written_as (Creates table) old now schema next number (table_lines table) before after result (table_defines old schema number def table is_def e.1)
    refl (λ reads. reads) (λ broke. tt) refl (λ report. tt) (one_more schema.definitions (OfTable (length schema.tables + 1) (length table.columns) (length table.indexes))) (λ content puts. puts) (refl, refl) (λ content may. may) (λ content. tt) lined)

-- ---- columns

column_defines : (old : Option Content) (schema : Schema) (number : ℕ) (def : AlterDef) → IsAddition schema def (altered_schema schema def)
    → (m : Model) → Stands old schema m → Defines (bound 1 0) m (altered_schema schema def) number [] (alter_step m number def)
column_defines old schema number def is m s =
    let here : IsAddition m.schema def (altered_schema m.schema def) = subst (λ (x : Schema). IsAddition x def (altered_schema x def)) s.known is in
    subst (λ (x : Schema). Defines (bound 1 0) m (altered_schema x def) number [] (alter_step m number def)) (sym s.known)
    (defines_column m number def s.settled here)

pub column_written : (old now : Option Content) (schema planned : Schema) (number : ℕ) (def : AlterDef) → IsAlterDef def → (n : ℕ) (before after : Counts) (result : Result (Schema × Report) Broke)
    → AddsColumn schema def planned n → IsWritten old now planned number [] before after result
    → Promises number (action_from (λ next. Adds def) (new_column schema def)) old now schema before after result
column_written old now schema planned number def is_def n before after result adds all =
    let next = altered_schema schema def in
    let made : new_column schema def ≡ Ok next = adds.made ∙ ap Ok adds.added in
    let is : IsAddition schema def next = record { names = is_def; fits = adds.fits; accepted = made } in
    subst (λ (r : Result Schema Refusal). Promises number (action_from (λ next. Adds def) r) old now schema before after result) (sym made)
    (written_as (Adds def) old now schema next number [] before after result (column_defines old schema number def is)
    refl (λ reads. reads) (λ broke. tt) refl (λ report. tt) (one_more schema.definitions (OfColumn (altered_table schema def) (length (table_at schema.tables (altered_table schema def)).columns)))
    (λ content puts. puts) (refl, refl) (λ content may. may) (λ content. tt)
    (subst (λ (s : Schema). IsWritten old now s number [] before after result) adds.added all))

-- ---- queries

-- a query that wants no index is one write
module _ (schema : Schema) (number : ℕ) (query : Query) (best : Candidate) where
  abbrev plain : PlannedDefinition
  plain = planned_definition query best None

  query_defines : (old : Option Content) → IsDefined schema query None → (m : Model) → Stands old schema m
      → Defines (bound 1 0) m (with_query schema query None) number (query_lines schema.tables plain) (prepared_over m number plain None)
  query_defines old is m s =
      let here : IsDefined m.schema query None = subst (λ (x : Schema). IsDefined x query None) s.known is in
      subst (λ (x : Schema). Defines (bound 1 0) m (with_query x query None) number (query_lines x.tables plain) (prepared_over m number plain None)) (sym s.known)
      (defines_query m number query best s.settled here)

  pub query_written : (old now : Option Content) (before after : Counts) (result : Result (Schema × Report) Broke) (lines : List Line) → IsDefined schema query None → lines ≡ query_lines schema.tables plain
      → IsWritten old now (with_query schema query None) number lines before after result
      → Promises number (Ok (Prepares plain)) old now schema before after result
  query_written old now before after result lines is lined all =
      written_as (Prepares plain) old now schema (with_query schema query None) number (query_lines schema.tables plain) before after result (query_defines old is)
      refl (λ reads. reads) (λ broke. tt) refl (λ report. tt) (one_more schema.definitions (OfQuery query None))
      (λ content puts. puts) (refl, refl) (λ content may. may) (λ content. tt)
      (subst (λ (ls : List Line). IsWritten old now (with_query schema query None) number ls before after result) lined all)
