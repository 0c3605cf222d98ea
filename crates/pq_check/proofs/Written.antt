-- What is defined in place of the query that a PREPARE has as it is written.
use Rattle.std.proofs.Common.{◌≡◌, ℕ, ◌-◌, Bool, true, false, List, [], ◌∷◌, ◌++◌, length, Option, Some, None, Result, Ok, Err, refl, sym, ap, subst, ◌∙◌, arith, length-append}
use Rattle.std.specs.Prelude.{nat_le, if◌then◌else◌, slice_index_or, IfOk, IfErr}
use Rattle.std.proofs.lemmas.Bool.{leb-true, leb-false, false≢true}
use Rattle.std.proofs.Math.Seq.{get_or-append_seam}
use Rattle.pq_base.specs.declared.refusal.Refusal.{Refusal}
use Rattle.pq_schema.specs.Definitions.{definition_refusal}
use Rattle.pq_schema.specs.Resolved.{IsResolved}
use Rattle.pq_schema.specs.Schema.{Schema, query_at, query_of, no_definition, with_query}
use Rattle.pq_schema.specs.Valid.{IsValid}
use Rattle.pq_schema.specs.Wanted.{ChosenCandidate, chosen_candidate}
use Rattle.pq_schema.specs.declared.made.Definition.{Definition}
use Rattle.pq_schema.specs.declared.made.Definition.TheVariants.{OfQuery}
use Rattle.pq_schema.specs.declared.query.Query.{Query}
use Rattle.pq_store.specs.Content.{Content}
use Rattle.pq_store.specs.Counts.{Counts}
use Rattle.pq_store.specs.declared.damage.Broke.{Broke}
use Rattle.pq_text.specs.Tokens.{tokens_of}
use Rattle.pq_text.specs.declared.piece.Piece.{Piece}
use Rattle.pq_text.specs.declared.piece.Piece.TheVariants as piece
use Rattle.pq_def_read.specs.Reading.{statement_of}
use Rattle.pq_def_read.specs.declared.statement.Statement.TheVariants as statement
use Rattle.pq_query_read.specs.Queries.{or_syntax, read_query_of}
use Rattle.pq_query_read.specs.Reading.{select_of}
use Rattle.pq_query_read.specs.Resolving.{resolved_select}
use Rattle.pq_query_read.specs.Trying.{◌>>=◌, passed_unless}
use Rattle.pq_query_read.specs.declared.select.SelectDef.{SelectDef}
use Rattle.pq_query_read.proofs.QueryAnswers.{sound_ok}
use Rattle.pq_print.specs.Report.{is_refusal}
use Rattle.pq_print.specs.declared.report.Report.{Report}
use Rattle.pq_runnable.proofs.Staying.{err_not_ok}
use Rattle.pq_arrange.specs.Arrange.{arranged_query}
use Rattle.pq_arrange.proofs.Answers.{same_answers}
use Rattle.pq_statement.specs.Actions as action
use Rattle.pq_statement.specs.Actions.{Action, Creates, Adds, Writes, Batches, Misreads, Prepares, Explains, Runs, Shows, Selects, action_from, action_of, asked_schema, asked_text, schema_after}
use Rattle.pq_check.specs.Checks.{IsChecked, checked_as}
use Rattle.pq_catalog.specs.Model.{Model}
use Rattle.pq_reports.specs.Promise.{Promises}
use Rattle.pq_planning.specs.Planning.{as_it_is, with_chosen, definable, arranged_plan, arranged_from, prepared_from}
use Rattle.pq_reports.specs.Step.{unread_report}
use Rattle.pq_check.specs.Written.{IsPrepareOf, AnswersAs, IsDefinedAs}
use Rattle.pq_check.proofs.Checked.{is_check_step}
use Rattle.pq_reports.proofs.Promises.{promised_next, unread_err}
use Rattle.pq_statement.proofs.Statements.{asked_read, too_long, text_piece}

-- what is read over a valid schema is one of its queries
module _ (schema : Schema) (valid : IsValid schema) (name text : List ℕ) (from : ℕ) (query : Query) where
  by_select : (read : Result SelectDef ℕ) → select_of text (tokens_of text) from ≡ read → (or_syntax text (tokens_of text) read >>= resolved_select schema name) ≡ Ok query → IsResolved schema.tables query
  by_select (Ok def) is stands = (sound_ok schema name text (tokens_of text) from def query refl valid is stands).0
  by_select (Err left) is stands = absurd (err_not_ok _ query stands)

  read_resolved : read_query_of schema name text (tokens_of text) from ≡ Ok query → IsResolved schema.tables query
  unfolding read_query_of
  read_resolved is = by_select (select_of text (tokens_of text) from) refl is

module _ (schema : Schema) (written : Query) where
  abbrev taken : Query
  taken = arranged_query schema.tables written

  -- the query is planned arranged, or refused
  abbrev PlansAs : Result Action Refusal → Type 0
  PlansAs (Ok (Prepares plan)) = plan.query ≡ taken
  PlansAs (Ok (Creates table)) = ⊥
  PlansAs (Ok (Adds def)) = ⊥
  PlansAs (Ok (Writes write)) = ⊥
  PlansAs (Ok (Batches writes)) = ⊥
  PlansAs (Ok (Misreads place cause)) = ⊥
  PlansAs (Ok (Explains plan)) = ⊥
  PlansAs (Ok (Runs running)) = ⊥
  PlansAs (Ok (action.Counts def)) = ⊥
  PlansAs (Ok (action.Reads reading)) = ⊥
  PlansAs (Ok Shows) = ⊥
  PlansAs (Ok (Selects plan)) = ⊥
  PlansAs (Err why) = Unit {0}

  by_free : (best : ChosenCandidate) (free : Option Refusal) → PlansAs (action_from Prepares (passed_unless free >>= as_it_is (record { query = taken; chosen = best })))
  by_free best None = refl
  by_free best (Some why) = tt

  by_chosen : (best : Result ChosenCandidate Refusal) → PlansAs (action_from Prepares ((best >>= with_chosen taken) >>= definable schema))
  by_chosen (Ok best) = by_free best (definition_refusal schema taken.name)
  by_chosen (Err why) = tt

  plans_as : (name text : List ℕ) (from : ℕ) → read_query_of schema name text (tokens_of text) from ≡ Ok written → PlansAs (action_from Prepares (prepared_from schema name text (tokens_of text) from))
  unfolding prepared_from arranged_from
  plans_as name text from is =
      subst (λ (read : Result Query Refusal). PlansAs (action_from Prepares ((read >>= arranged_plan schema.tables) >>= definable schema))) (sym is) (by_chosen (chosen_candidate schema.tables taken))

  by_length : (name text : List ℕ) (from : ℕ) → statement_of text (tokens_of text) ≡ Ok (statement.Prepare name from) → read_query_of schema name text (tokens_of text) from ≡ Ok written
      → (b : Bool) → nat_le (length text) 65536 ≡ b → PlansAs (asked_text schema text)
  by_length name text from head is true few =
      subst PlansAs (sym (asked_read schema text (tokens_of text) (statement.Prepare name from) (leb-true (length text) 65536 few) refl head)) (plans_as name text from is)
  by_length name text from head is false many = subst PlansAs (sym (too_long schema text (leb-false (length text) 65536 many))) tt

  asks_as : (p : Piece) → IsPrepareOf schema written p → PlansAs (action_of schema p)
  asks_as (piece.Statement text) is =
      subst PlansAs (sym (text_piece schema text (piece.Statement text) refl)) (by_length is.0 text is.1 is.2 is.3 (nat_le (length text) 65536) refl)
  asks_as piece.NotUtf8 is = absurd is
  asks_as piece.TooLong is = absurd is

  -- ---- what is defined

  last_query : (definitions : List Definition) (last : Definition) → query_of (slice_index_or (definitions ++ last ∷ []) (length (definitions ++ last ∷ []) - 1) no_definition) ≡ query_of last
  last_query definitions last =
      let place : length (definitions ++ last ∷ []) - 1 ≡ length definitions = omega (arith, length-append definitions (last ∷ [])) in
      ap (λ (n : ℕ). query_of (slice_index_or (definitions ++ last ∷ []) n no_definition)) place ∙ ap query_of (get_or-append_seam definitions last [] no_definition)

  answers_as : IsResolved schema.tables written → AnswersAs written taken
  answers_as resolved stop tables rows params after = same_answers schema.tables written resolved stop tables rows params after

  defined_as : (next : Schema) → IsResolved schema.tables written → query_at next (length next.definitions) ≡ taken → IsDefinedAs schema.tables written next
  defined_as next resolved is = record { query = is; answers = subst (AnswersAs written) (sym is) (answers_as resolved) }

  by_asked : (asked : Result Action Refusal) (next : Schema) → IsResolved schema.tables written → PlansAs asked → (IfErr asked (λ why. ⊥)) → next ≡ asked_schema schema asked → IsDefinedAs schema.tables written next
  by_asked (Ok (Prepares plan)) next resolved as_taken ok is =
      subst (IsDefinedAs schema.tables written) (sym is)
      (defined_as (with_query schema plan.query plan.chosen.wanted) resolved (last_query schema.definitions (OfQuery plan.query _) ∙ as_taken))
  by_asked (Ok (Creates table)) next resolved as_taken ok is = absurd as_taken
  by_asked (Ok (Adds def)) next resolved as_taken ok is = absurd as_taken
  by_asked (Ok (Writes write)) next resolved as_taken ok is = absurd as_taken
  by_asked (Ok (Batches writes)) next resolved as_taken ok is = absurd as_taken
  by_asked (Ok (Misreads place cause)) next resolved as_taken ok is = absurd as_taken
  by_asked (Ok (Explains plan)) next resolved as_taken ok is = absurd as_taken
  by_asked (Ok (Runs running)) next resolved as_taken ok is = absurd as_taken
  by_asked (Ok (action.Counts def)) next resolved as_taken ok is = absurd as_taken
  by_asked (Ok (action.Reads reading)) next resolved as_taken ok is = absurd as_taken
  by_asked (Ok Shows) next resolved as_taken ok is = absurd as_taken
  by_asked (Ok (Selects plan)) next resolved as_taken ok is = absurd as_taken
  by_asked (Err why) next resolved as_taken ok is = absurd ok

  -- ---- what a report says of it

  accepted_ok : (number : ℕ) (report : Report) (asked : Result Action Refusal) → IfErr asked (λ why. report ≡ unread_report number why) → is_refusal report ≡ false → IfErr asked (λ why. ⊥)
  accepted_ok number report (Ok action) unread accepted = tt
  accepted_ok number report (Err why) unread accepted = false≢true (sym accepted ∙ ap is_refusal unread)

  -- a PREPARE that was accepted
  pub prepared_as : (valid : IsValid schema) (number : ℕ) (p : Piece) (next : Schema) (report : Report) → IsPrepareOf schema written p → next ≡ schema_after schema p report
      → IfErr (action_of schema p) (λ why. report ≡ unread_report number why) → is_refusal report ≡ false → IsDefinedAs schema.tables written next
  prepared_as valid number p next report is next_is unread accepted =
      by_asked (action_of schema p) next (by_piece valid p is) (asks_as p is) (accepted_ok number report (action_of schema p) unread accepted)
      (next_is ∙ ap (λ (b : Bool). if b then schema else asked_schema schema (action_of schema p)) accepted)
    where
      by_piece : IsValid schema → (q : Piece) → IsPrepareOf schema written q → IsResolved schema.tables written
      by_piece valid (piece.Statement text) is = read_resolved schema valid is.0 text is.1 written is.3
      by_piece valid piece.NotUtf8 is = absurd is
      by_piece valid piece.TooLong is = absurd is

-- a step over the store
module _ (number : ℕ) (p : Piece) (old now : Option Content) (schema : Schema) (before after : Counts) (valid : IsValid schema) where
  pub promised_as : (result : Result (Schema × Report) Broke) → Promises number (action_of schema p) old now schema before after result
      → IfOk result (λ made. (written : Query) → IsPrepareOf schema written p → is_refusal made.1 ≡ false → IsDefinedAs schema.tables written made.0)
  promised_as (Ok made) done = λ written is accepted.
      prepared_as schema written valid number p made.0 made.1 is (promised_next number p old now schema before after (Ok made) done)
      (unread_err number (action_of schema p) made.1 done.unread) accepted
  promised_as (Err broke) done = tt

-- and one of a check
module _ (schema : Schema) (valid : IsValid schema) (number : ℕ) (p : Piece) where
  unread_of : (found : Result Action Refusal) (report : Report) → report ≡ (checked_as schema number found).report → IfErr found (λ why. report ≡ unread_report number why)
  unread_of (Ok action) report is = tt
  unread_of (Err why) report is = is

  pub checked_defined : (found : Result Action Refusal) (next : Schema) (report : Report) → action_of schema p ≡ found → IsChecked schema number found next report
      → (written : Query) → IsPrepareOf schema written p → is_refusal report ≡ false → IsDefinedAs schema.tables written next
  checked_defined found next report asks done written is accepted =
      let facts = is_check_step schema number found in
      let after : Report → Result Action Refusal → Schema = λ r asked. if is_refusal r then schema else asked_schema schema asked in
      let next_is : next ≡ schema_after schema p report =
      done.next_is ∙ ap (λ (m : Model). m.schema) facts.model ∙ ap (λ (r : Report). after r found) (sym done.report_is) ∙ ap (after report) (sym asks) in
      prepared_as schema written valid number p next report is next_is
      (subst (λ (asked : Result Action Refusal). IfErr asked (λ why. report ≡ unread_report number why)) (sym asks) (unread_of found report done.report_is)) accepted
