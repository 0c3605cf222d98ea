-- What a counter's definition makes of what a content stands for.
use Rattle.std.proofs.Common.{lit≤, ◌≡◌, ℕ, ◌+◌, ◌<◌, ◌≤◌, ◌==◌, Bool, true, false, List, [], ◌∷◌, length, Option, Some, None, Ok, Err, refl, sym, ap, ◌∙◌, subst, arith}
use Rattle.std.specs.Prelude.{IfSome, min, not}
use Rattle.std.proofs.lemmas.Bool.{ne_eqb}
use Rattle.std.specs.FinMap.{get, insert}
use Rattle.pq_base.specs.declared.refusal.Refusal.{Refusal}
use Rattle.pq_base.specs.declared.refusal.Refusal.TheVariants as refusal
use Rattle.pq_base.specs.declared.value.Value.{Value}
use Rattle.pq_builds.specs.Bounds.{bound}
use Rattle.pq_builds.specs.Filling.{first_key, past_key, row_pairs_in}
use Rattle.pq_builds.specs.Stages.{Takes}
use Rattle.pq_content.specs.Tables.{rows_of}
use Rattle.pq_intent.specs.Changing.{IfDamagedSame}
use Rattle.pq_intent.specs.Spending.{TakesAtMost}
use Rattle.pq_key_code.specs.KeyCode.{catalog_key}
use Rattle.pq_print.specs.declared.report.End.TheVariants.{Done}
use Rattle.pq_schema.specs.Definitions.{counted_schema, counted_table, counter_of_def, counter_refusal, new_counter, or_ok, refused_if}
use Rattle.pq_schema.specs.Names.{IsCounterDef}
use Rattle.pq_schema.specs.Schema.{Schema}
use Rattle.pq_schema.specs.Valid.{IsCounted}
use Rattle.pq_schema.specs.Valid.IsValid.{then_counter}
use Rattle.pq_schema.specs.declared.definition.CounterDef.{CounterDef}
use Rattle.pq_schema.specs.declared.made.Definition.TheVariants.{OfCounter}
use Rattle.pq_statement.specs.Actions as action
use Rattle.pq_store.specs.Breaks.{IfDamaged, IsPresent, IsUndamaged}
use Rattle.pq_store.specs.Content.{Content, pairs_within}
use Rattle.pq_store.specs.Counts.{Counts, charged_counts}
use Rattle.pq_store.specs.declared.damage.Broke.{Broke}
use Rattle.pq_reports.specs.Putting.{MayPut, PutsNew}
use Rattle.pq_reports.specs.Making.{IsWithinAsked, MakesAction}
use Rattle.pq_reports.specs.Matches.{Matches}
use Rattle.pq_catalog.specs.Model.{Model}
use Rattle.pq_reports.specs.Promise.{BrokenStatement, DoneStatement}
use Rattle.pq_reports.specs.Reports.{counter_report, crowded_report, used_numbers}
use Rattle.pq_catalog.specs.Stands.{HoldsModel, Stands, content_of, last_key, last_value, value_at}
use Rattle.pq_reports.specs.Step.{Step, counted_over, counter_step, refused_step, report_of}
use Rattle.pq_catalog.proofs.Counted.{rows_found}
use Rattle.pq_define.proofs.Defining.{Defines, define_broken, define_done, one_more}
use Rattle.pq_catalog.proofs.Definitions.{few_counter, next_absent, put_counter}
use Rattle.pq_catalog.proofs.Made.{small_of}
use Rattle.pq_reports.proofs.Promises.{broken_kept, of_each, sound_shown, within_step}

-- ---- the definition

pub counter_accepted : (schema : Schema) (def : CounterDef) → counter_refusal schema def ≡ None → new_counter schema def ≡ Ok (counted_schema schema def)
unfolding new_counter
counter_accepted schema def none = ap (λ (o : Option Refusal). or_ok o (counted_schema schema def)) none

pub counter_refused : (schema : Schema) (def : CounterDef) (why : Refusal) → counter_refusal schema def ≡ Some why → new_counter schema def ≡ Err why
unfolding new_counter
counter_refused schema def why refused = ap (λ (o : Option Refusal). or_ok o (counted_schema schema def)) refused

-- ---- what a count of at most one row tells

-- the pairs between the first key of a table's rows and the first one past them
pub counted_between : (t n : ℕ) (low high : List ℕ) (old : Option Content) → low ≡ first_key t → high ≡ past_key t → IfSome old (λ c. n ≡ min 1 (length (pairs_within c low high))) → IfSome old (λ c. n ≡ min 1 (length (row_pairs_in t c)))
counted_between t n low high None first past is = tt
counted_between t n low high (Some c) first past is = is ∙ (λ i. min 1 (length (pairs_within c (first i) (past i))))

no_rows : {A : Type 0} (rows : List A) → min 1 (length rows) ≡ 0 → rows ≡ []
no_rows [] none = refl
no_rows (row ∷ rows) none = absurd (omega (arith, none))

a_row : (rows : List (List Value)) (n : ℕ) → n ≡ min 1 (length rows) → 1 ≤ n → (length rows == 0) ≡ false
a_row [] n is some = absurd (omega (arith, is, some))
a_row (row ∷ rows) n is some = ne_eqb (length (row ∷ rows)) 0 (omega arith)

-- ---- the step

module _ (number : ℕ) (def : CounterDef) where
  abbrev rows_under : Model → List (List Value)
  rows_under m = rows_of (counted_table m.schema def) m.rows

  abbrev next_model : Model → Model
  next_model m = record m { schema = counted_schema m.schema def }

  by_rows : (m : Model) (b : Bool) → (length (rows_under m) == 0) ≡ b → counter_step m number def ≡ counted_over m number def (refused_if (not b) (refusal.NotEmpty def.table))
  unfolding counter_step
  by_rows m b is = ap (λ (c : Bool). counted_over m number def (refused_if (not c) (refusal.NotEmpty def.table))) is

  step_crowded : (m : Model) → (length (rows_under m) == 0) ≡ false → counter_step m number def ≡ refused_step m number (refusal.NotEmpty def.table) (bound 2 1)
  step_crowded m some = by_rows m false some

  step_counted : (m : Model) → rows_under m ≡ [] → counter_step m number def ≡ record { model = next_model m; report = report_of number [] Done (bound 2 1) }
  step_counted m none = by_rows m true (ap (λ (rows : List (List Value)). length rows == 0) none)

  defines_counter : {old : Option Content} (m : Model) → HoldsModel old m → IsCounted m.schema def (counted_schema m.schema def) → rows_under m ≡ []
      → Defines (bound 2 1) m (counted_schema m.schema def) number [] (counter_step m number def)
  defines_counter m s is none =
      let next = counted_schema m.schema def in
      let small : length m.schema.definitions < 65535 = omega (arith, small_of m.schema s.valid) in
      let more : length m.schema.definitions + 1 ≡ length next.definitions = one_more m.schema.definitions (OfCounter (counter_of_def m.schema def)) in
      let own : Defines (bound 2 1) m next number [] (record { model = next_model m; report = report_of number [] Done (bound 2 1) }) = record {
        known = refl;
        valid = then_counter m.schema def next s.valid is;
        keeps = s.keeps;
        few = few_counter m def none s.few;
        absent = subst (λ n. get (content_of m) (catalog_key n) ≡ None) more (next_absent m small);
        put = subst (λ n. insert (content_of m) (catalog_key n) (value_at next n) ≡ content_of (next_model m)) more (put_counter m def none small);
        report = refl;
      } in
      subst (Defines (bound 2 1) m next number []) (sym (step_counted m none)) own

  -- ---- over a store

  module _ (schema : Schema) (is_def : IsCounterDef def) (accepted : new_counter schema def ≡ Ok (counted_schema schema def)) where
    abbrev next : Schema
    next = counted_schema schema def

    abbrev IsCountOf : Option Content → ℕ → Type 0
    IsCountOf old n = IfSome old (λ c. n ≡ min 1 (length (row_pairs_in (counted_table schema def) c)))

    -- how many rows were counted
    rows_counted : (old : Option Content) (m : Model) (n : ℕ) → Stands old schema m → IsCountOf old n → n ≡ min 1 (length (rows_under m))
    rows_counted old m n s counted =
        subst (λ (o : Option Content). IfSome o (λ c. n ≡ min 1 (length (row_pairs_in (counted_table schema def) c)))) s.settled.told counted
        ∙ ap (λ (x : Schema). min 1 (length (row_pairs_in (counted_table x def) (content_of m)))) s.known
        ∙ ap (min 1) (rows_found m (counted_table m.schema def) s.settled.keeps)

    none_counted : (old : Option Content) (m : Model) (n : ℕ) → Stands old schema m → IsCountOf old n → n ≡ 0 → rows_under m ≡ []
    none_counted old m n s counted zero = no_rows (rows_under m) (sym (rows_counted old m n s counted) ∙ zero)

    is_counted : (old : Option Content) (m : Model) → Stands old schema m → IsCounted m.schema def (counted_schema m.schema def)
    is_counted old m s =
        subst (λ (x : Schema). IsCounted x def (counted_schema x def)) s.known
        (record { names = is_def; accepted = accepted })

    counter_defines : (old : Option Content) (n : ℕ) → IsCountOf old n → n ≡ 0 → (m : Model) → Stands old schema m → Defines (bound 2 1) m next number [] (counter_step m number def)
    counter_defines old n counted zero m s =
        subst (λ (x : Schema). Defines (bound 2 1) m (counted_schema x def) number [] (counter_step m number def)) (sym s.known)
        (defines_counter m s.settled (is_counted old m s) (none_counted old m n s counted zero))

    -- a counter of a table that has rows
    pub crowded_done : (old now : Option Content) (before after : Counts) (n : ℕ) → IsCountOf old n → n ≡ 1 → now ≡ old → Takes 1 n before after
        → DoneStatement number (Ok (action.Counts def)) old now schema schema before after (crowded_report number (refusal.NotEmpty def.table))
    crowded_done old now before after n counted one same takes =
        let refused : (m : Model) → Stands old schema m → counter_step m number def ≡ refused_step m number (refusal.NotEmpty def.table) (bound 2 1) =
        λ m s. step_crowded m (a_row (rows_under m) n (rows_counted old m n s counted) (omega (arith, one))) in
        record {
          matches = λ m s. subst (λ (x : Step). Matches x.report (crowded_report number (refusal.NotEmpty def.table))) (sym (refused m s)) (record { same = refl; ops = lit≤ tt; entries = lit≤ tt });
          made = λ m s. subst (λ (x : Step). Stands now schema x.model) (sym (refused m s)) (subst (λ (o : Option Content). Stands o schema m) (sym same) s);
          ops = takes.ops_are;
          entries = takes.entries_are ∙ ap (λ (k : ℕ). before.entries + k) one;
          few_ops = lit≤ tt;
          few_entries = lit≤ tt;
          bound = refl;
          refused = λ _. (same, refl);
          accepted = λ not. absurd (not tt);
          numbered = refl;
          unread = tt;
          can = refl;
          reads = λ none. absurd none;
          tells = λ not. absurd (not tt);
          kind = λ not. absurd (not tt);
          bare = λ _. refl;
        }

    -- nothing was written
    pub counting_broke : (old now : Option Content) (before after : Counts) (error : Broke) → now ≡ old → IsUndamaged error → TakesAtMost (bound 2 1) before after
        → BrokenStatement number (Ok (action.Counts def)) old now schema before after error
    counting_broke old now before after error same sound within =
        broken_kept number (Ok (action.Counts def)) old now schema before after error same (λ m s. sound) within
        (within_step number (action.Counts def) old schema (bound 2 1) before after refl within) (of_each old (λ content. IsWithinAsked (Ok (action.Counts def)) content before after) (λ content. tt)) (sound_shown old schema error sound)

    -- no row was counted in the content
    counted_makes : (old now : Option Content) (n : ℕ) → IsCountOf old n → n ≡ 0
        → IfSome old (λ content. PutsNew true (last_key next) (last_value next) (Some content) now → MakesAction schema (action.Counts def) content now (counter_report number))
    counted_makes None now n counted zero = tt
    counted_makes (Some content) now n counted zero = λ puts. (no_rows (row_pairs_in (counted_table schema def) content) (sym counted ∙ zero), puts)

    -- the definition was written behind the count
    pub counter_done : (old mid now : Option Content) (before between after : Counts) (n : ℕ) → IsCountOf old n → n ≡ 0 → mid ≡ old → Takes 1 n before between
        → PutsNew true (last_key next) (last_value next) mid now → after ≡ charged_counts between 0
        → DoneStatement number (Ok (action.Counts def)) old now schema next before after (counter_report number)
    counter_done old mid now before between after n counted zero same takes puts charged =
        let ops = ap (λ (c : Counts). c.ops) charged in
        let entries = ap (λ (c : Counts). c.entries) charged in
        define_done (bound 2 1) number [] (action.Counts def) old now schema next (counter_defines old n counted zero) refl (λ reads. reads) refl (λ report. tt)
        (used_numbers 2 0) before after (lit≤ tt) (lit≤ tt) (omega (arith, ops, takes.ops_are)) (omega (arith, entries, takes.entries_are, zero))
        (subst (λ (o : Option Content). PutsNew true (last_key next) (last_value next) o now) same puts)
        (counted_makes old now n counted zero) (refl, refl)

    -- or it wasn't, or it may be
    pub counter_broke : (old mid now : Option Content) (before between after : Counts) (n : ℕ) (error : Broke) → IsCountOf old n → n ≡ 0 → mid ≡ old → Takes 1 n before between
        → MayPut (last_key next) (last_value next) mid now → IfSome mid (λ pairs. get pairs (last_key next) ≡ None → IsUndamaged error) → TakesAtMost (bound 1 0) between after
        → IfSome mid (λ pairs. IfDamaged (IsPresent (last_key next) pairs) error) → IfDamagedSame mid now error
        → BrokenStatement number (Ok (action.Counts def)) old now schema before after error
    counter_broke old mid now before between after n error counted zero same takes may sound within shows kept =
        let few_ops = within.ops in
        let few_entries = within.entries in
        define_broken (bound 2 1) number [] (action.Counts def) old now schema next (counter_defines old n counted zero) refl (λ reads. reads) refl (λ report. tt) before after error tt
        (subst (λ (o : Option Content). MayPut (last_key next) (last_value next) o now) same may)
        (subst (λ (o : Option Content). IfSome o (λ pairs. get pairs (last_key next) ≡ None → IsUndamaged error)) same sound)
        (record { ops = omega (arith, takes.ops_are, few_ops); entries = omega (arith, takes.entries_are, zero, few_entries) })
        (one_more schema.definitions (OfCounter (counter_of_def schema def)))
        (subst (λ (o : Option Content). IfSome o (λ pairs. IfDamaged (IsPresent (last_key next) pairs) error)) same shows)
        (subst (λ (o : Option Content). IfDamagedSame o now error) same kept) (λ content may. may) (λ content. tt)
