-- One item, made over the store or for a check.
use Rattle.std.proofs.Common.{◌≡◌, ℕ, false, true, ◌+◌, ◌≤◌, ◌⊎◌, List, [], ◌∷◌, Option, Some, None, refl, sym, ap, ◌∙◌, subst, arith, inl, inr}
use Rattle.std.specs.Prelude.{Result, Ok, Err, IfOk, IfErr, IfSome, OnErr}
use Rattle.std.specs.Io.KnownBytes.{append_known}
use Rattle.pq_base.specs.declared.number.Used.{Used}
use Rattle.pq_fill.specs.declared.words.Form.{Form}
use Rattle.pq_fill.specs.declared.words.Form.TheVariants.{Run, Check, Fill}
use Rattle.pq_schema.specs.Schema.{Schema}
use Rattle.pq_schema.specs.declared.query.Query.{Query}
use Rattle.pq_store.specs.Breaks.{IsAnsweredBut, IsUndamaged}
use Rattle.pq_store.specs.Content.{Content}
use Rattle.pq_store.specs.Counts.{Counts}
use Rattle.pq_intent.specs.Spending.{TakesAtMost}
use Rattle.pq_store.specs.declared.damage.Broke.{Broke}
use Rattle.pq_store.specs.declared.damage.Broke.TheVariants as broke
use Rattle.pq_text.specs.declared.piece.Piece.{Piece}
use Rattle.std.proofs.lemmas.Bool.{false≢true}
use Rattle.pq_print.specs.Report.{printed_report, is_refusal, is_refused}
use Rattle.pq_print.specs.declared.report.End.{End}
use Rattle.pq_print.specs.declared.report.Report.{Report}
use Rattle.pq_statement.specs.Actions.{action_of, schema_after, statement_bound}
use Rattle.pq_check.specs.Checks.{checked_as, check_step, without_rows}
use Rattle.pq_reports.specs.Evidence.{AnswersFor, TellsEvidenceFor}
use Rattle.pq_reports.specs.Making.{IsWithinAsked, LeavesAsked, MakesAsked}
use Rattle.pq_reports.specs.Matches.{Matches}
use Rattle.pq_catalog.specs.Model.{Model}
use Rattle.pq_reports.specs.Promise.{IsBound, IsRefusal, IsWithinFixed, KeepsDamaged, OnlyReads}
use Rattle.pq_catalog.specs.Stands.{Opens, Stands, next_key}
use Rattle.pq_reports.specs.Refusing.{CanEnd, IsUnread}
use Rattle.pq_reports.specs.Telling.{TellsAsked}
use Rattle.pq_reports.specs.Step.{Step, step}
use Rattle.pq_check.specs.Written.{IsPrepareOf, IsDefinedAs}
use Rattle.pq_check.proofs.Checked.{check_by, is_check_step}
use Rattle.pq_reports.proofs.Promises.{within_none}
use Rattle.pq_shell.specs.Fold.{DefinesAsWritten, IsStill, PassesItem}
use Rattle.pq_shell.specs.Forms.{HasOpening, StandsIn, OpensAt, item_step, shown_report}
use Rattle.pq_shell.specs.Items.{Cut}
use Rattle.pq_shell.specs.Making.{BreaksAt, ReadsSource, MakesItem, moment}
use Rattle.pq_console.specs.Stops.{CutsOff, stop_of_broke}
use Rattle.pq_console.specs.declared.stop.Stop.{Stop}
use Rattle.pq_console.specs.declared.stop.Stop.TheVariants as stops
use Rattle.pq_shell.proofs.Folding.{Stopped-at, kept_same}
use Rattle.pq_console.proofs.Known.{append_known-none}

-- ---- what is written of a report

pub shown_whole : (f : Form) → ReadsSource f → (report : Report) (h h' : Option (List ℕ)) → h' ≡ append_known h (printed_report report) → h' ≡ append_known h (shown_report f report)
shown_whole Run read report h h' is = is
shown_whole Check read report h h' is = is
shown_whole (Fill n) read report h h' is = absurd read

pub cut_shown : (f : Form) → ReadsSource f → (stop : Stop) (report : Report) (h h' : Option (List ℕ)) → CutsOff stop (printed_report report) h h' → CutsOff stop (shown_report f report) h h'
cut_shown Run read stop report h h' is = is
cut_shown Check read stop report h h' is = is
cut_shown (Fill n) read stop report h h' is = absurd read

-- ---- over the store

both_told : (old : Option Content) (first second : Content → Type 0) → IfSome old first → IfSome old second → IfSome old (λ content. first content × second content)
both_told None first second a b = tt
both_told (Some content) first second a b = (a, b)

module _ (number : ℕ) (piece : Piece) (s : Schema) (old now : Option Content) (before after : Counts) where
  module _ (next : Schema) (report : Report) (numbered : report.number ≡ number) (bound : IsBound (statement_bound s piece) report.bound)
      (few_ops : report.used.ops ≤ report.bound.ops) (few_entries : report.used.entries ≤ report.bound.entries) (next_is : next ≡ schema_after s piece report)
      (matches : (m : Model) → Stands old s m → Matches (step m number piece).report report) (made : (m : Model) → Stands old s m → Stands now next (step m number piece).model)
      (ops : after.ops ≡ before.ops + report.used.ops) (entries : after.entries ≡ before.entries + report.used.entries)
      (unread : IsUnread number (action_of s piece) report) (can : CanEnd s (action_of s piece) report.end)
      (refused : IsRefusal report.end → (now ≡ old) × (next ≡ s)) (reads : OnlyReads (action_of s piece) → now ≡ old)
      (defined : (written : Query) → IsPrepareOf s written piece → is_refusal report ≡ false → IsDefinedAs s.tables written next)
      (tells : (IsRefusal report.end → ⊥) → IfSome old (λ content. MakesAsked s (action_of s piece) content now report)) (kind : (IsRefusal report.end → ⊥) → TellsAsked s (action_of s piece) report)
      (bare : IsRefusal report.end → report.lines ≡ []) where
    defined_behind : DefinesAsWritten s (Cut piece) report
    defined_behind written is accepted = subst (IsDefinedAs s.tables written) next_is (defined written is accepted)

    refused_same : (ending : End) → (IsRefusal ending → (now ≡ old) × (next ≡ s)) → is_refused ending ≡ true → now ≡ old
    refused_same End.Done same is = absurd (false≢true is)
    refused_same (End.Rows count cursor) same is = absurd (false≢true is)
    refused_same (End.Refused why) same is = (same tt).0
    refused_same (End.InBatch place cause) same is = (same tt).0

    still_over : IsStill s (Cut piece) report → now ≡ old
    still_over (inl only) = reads only
    still_over (inr is) = refused_same report.end refused is

    passed : PassesItem s (Cut piece) report old now
    passed = record { reads = reads; refused = λ is. ((refused is).0, bare is); kind = kind; tells = tells }

    made_over : (f : Form) → HasOpening f → MakesItem f (Cut piece) number s next old now before after report
    made_over Run some = record {
      is = record { number_is = numbered; bound_is = bound; few_ops = few_ops; few_entries = few_entries; unread_is = unread; can = can; defined_is = defined_behind };
      next_is = next_is;
      matches = matches;
      stands = made;
      rises = record { ops = omega (arith, ops); entries = omega (arith, entries) };
      still = still_over;
      passes = λ _. passed;
      unopened = λ none. absurd (none tt);
    }
    made_over Check some = absurd some
    made_over (Fill n) some = record {
      is = record { number_is = numbered; bound_is = bound; few_ops = few_ops; few_entries = few_entries; unread_is = unread; can = can; defined_is = defined_behind };
      next_is = next_is;
      matches = matches;
      stands = made;
      rises = record { ops = omega (arith, ops); entries = omega (arith, entries) };
      still = still_over;
      passes = λ _. passed;
      unopened = λ none. absurd (none tt);
    }

  broke_at : {answers : List ℕ → Option (List ℕ) → Type 0} (f : Form) (error : Broke) → HasOpening f → ((m : Model) → StandsIn f old s m → OpensAt f now m ⊎ OpensAt f now (item_step f m number (Cut piece)).model)
      → ((m : Model) → StandsIn f old s m → IsUndamaged error) → IsWithinFixed (statement_bound s piece) before after → IfSome now (λ content. TellsEvidenceFor (action_of s piece) s content error)
      → ((m : Model) → StandsIn f old s m → TakesAtMost (item_step f m number (Cut piece)).report.bound before after)
      → KeepsDamaged s (action_of s piece) old now error → IfSome old (λ content. LeavesAsked s (action_of s piece) content now) → IfSome old (λ content. IsWithinAsked (action_of s piece) content before after) → IsAnsweredBut (AnswersFor s (action_of s piece) answers) (next_key s) error → BreaksAt answers f (stop_of_broke error) (Cut piece) number s old now before after
  broke_at f broke.Failed some stops_at sound within shown own kept left rows answered held =
      Stopped-at f stops.StoreFailed s (moment old held before) (moment now held after) number (Cut piece ∷ []) [] (sym (append_known-none held)) (some, refl, within) tt tt (both_told old _ _ left rows) stops_at own
  broke_at f broke.NoMem some stops_at sound within shown own kept left rows answered held =
      Stopped-at f stops.NoMem s (moment old held before) (moment now held after) number (Cut piece ∷ []) [] (sym (append_known-none held)) (refl, within) tt tt (inl (both_told old _ _ left rows)) stops_at own
  broke_at f (broke.Damaged damage) some stops_at sound within shown own kept left rows answered held =
      Stopped-at f (stops.Damaged damage) s (moment old held before) (moment now held after) number (Cut piece ∷ []) [] (sym (append_known-none held)) (some, refl, within) shown answered (both_told old _ _ kept rows) (λ m is. absurd (sound m is)) own

  -- the session broke off at this item
  broke_over : {answers : List ℕ → Option (List ℕ) → Type 0} (f : Form) (error : Broke) → HasOpening f → ((m : Model) → Stands old s m → Opens now m ⊎ Opens now (step m number piece).model) → ((m : Model) → Stands old s m → IsUndamaged error)
      → IsWithinFixed (statement_bound s piece) before after → IfSome now (λ content. TellsEvidenceFor (action_of s piece) s content error)
      → ((m : Model) → Stands old s m → TakesAtMost (step m number piece).report.bound before after)
      → KeepsDamaged s (action_of s piece) old now error → IfSome old (λ content. LeavesAsked s (action_of s piece) content now) → IfSome old (λ content. IsWithinAsked (action_of s piece) content before after) → IsAnsweredBut (AnswersFor s (action_of s piece) answers) (next_key s) error → BreaksAt answers f (stop_of_broke error) (Cut piece) number s old now before after
  broke_over Run error some stops_at sound within shown own kept left rows answered = broke_at Run error some stops_at sound within shown own kept left rows answered
  broke_over Check error some stops_at sound within shown own kept left rows answered = absurd some
  broke_over (Fill n) error some stops_at sound within shown own kept left rows answered = broke_at (Fill n) error some stops_at sound within shown own kept left rows answered

  -- the session made this item, or broke off at it
  pub over_result : (answers : List ℕ → Option (List ℕ) → Type 0) (f : Form) → HasOpening f → (result : Result (Schema × Report) Broke)
      → IfOk result (λ p. p.1.number ≡ number) → IfOk result (λ p. IsBound (statement_bound s piece) p.1.bound)
      → IfOk result (λ p. p.1.used.ops ≤ p.1.bound.ops) → IfOk result (λ p. p.1.used.entries ≤ p.1.bound.entries) → IfOk result (λ p. p.0 ≡ schema_after s piece p.1)
      → IfOk result (λ p. (m : Model) → Stands old s m → Matches (step m number piece).report p.1) → IfOk result (λ p. (m : Model) → Stands old s m → Stands now p.0 (step m number piece).model)
      → IfOk result (λ p. after.ops ≡ before.ops + p.1.used.ops) → IfOk result (λ p. after.entries ≡ before.entries + p.1.used.entries)
      → IfOk result (λ p. IsUnread number (action_of s piece) p.1) → IfOk result (λ p. CanEnd s (action_of s piece) p.1.end)
      → IfOk result (λ p. IsRefusal p.1.end → (now ≡ old) × (p.0 ≡ s)) → (OnlyReads (action_of s piece) → now ≡ old)
      → IfOk result (λ p. (written : Query) → IsPrepareOf s written piece → is_refusal p.1 ≡ false → IsDefinedAs s.tables written p.0)
      → IfOk result (λ p. (IsRefusal p.1.end → ⊥) → IfSome old (λ content. MakesAsked s (action_of s piece) content now p.1)) → IfOk result (λ p. (IsRefusal p.1.end → ⊥) → TellsAsked s (action_of s piece) p.1)
      → IfOk result (λ p. IsRefusal p.1.end → p.1.lines ≡ [])
      → OnErr result ((m : Model) → Stands old s m → Opens now m ⊎ Opens now (step m number piece).model) → IfErr result (λ error. (m : Model) → Stands old s m → IsUndamaged error)
      → OnErr result (IsWithinFixed (statement_bound s piece) before after) → IfErr result (λ error. IfSome now (λ content. TellsEvidenceFor (action_of s piece) s content error))
      → ((m : Model) → Stands old s m → TakesAtMost (step m number piece).report.bound before after)
      → IfErr result (KeepsDamaged s (action_of s piece) old now) → OnErr result (IfSome old (λ content. LeavesAsked s (action_of s piece) content now))
      → OnErr result (IfSome old (λ content. IsWithinAsked (action_of s piece) content before after)) → IfErr result (IsAnsweredBut (AnswersFor s (action_of s piece) answers) (next_key s))
      → IfOk result (λ p. MakesItem f (Cut piece) number s p.0 old now before after p.1) × IfErr result (λ error. BreaksAt answers f (stop_of_broke error) (Cut piece) number s old now before after)
  over_result answers f some (Ok p) numbered bound few_ops few_entries next_is matches made ops entries unread can refused reads defined tells kind bare stops_at sound within shown own kept left rows answered =
      (made_over p.0 p.1 numbered bound few_ops few_entries next_is matches made ops entries unread can refused reads defined tells kind bare f some, tt)
  over_result answers f some (Err error) numbered bound few_ops few_entries next_is matches made ops entries unread can refused reads defined tells kind bare stops_at sound within shown own kept left rows answered =
      (tt, broke_over f error some stops_at sound within shown own kept left rows answered)

-- ---- for a check

module _ (number : ℕ) (piece : Piece) (s : Schema) (content : Option Content) (counts : Counts) where
  abbrev made_step : Step
  made_step = check_step (without_rows s) number piece

  -- its report has the bound of what is asked for, and tells nothing as used
  pub made_checked : (next : Schema) (report : Report) → report ≡ made_step.report → next ≡ made_step.model.schema
      → ((written : Query) → IsPrepareOf s written piece → is_refusal report ≡ false → IsDefinedAs s.tables written next) → MakesItem Check (Cut piece) number s next content content counts counts report
  made_checked next report report_is next_is defined =
      let by = check_by s number piece (action_of s piece) refl in
      let facts = is_check_step s number (action_of s piece) in
      let same : report ≡ (checked_as s number (action_of s piece)).report = report_is ∙ ap (λ (x : Step). x.report) by in
      let used = ap (λ (r : Report). r.used) same ∙ facts.unused in
      let no_ops : report.used.ops ≡ 0 = ap (λ (u : Used). u.ops) used in
      let no_entries : report.used.entries ≡ 0 = ap (λ (u : Used). u.entries) used in
      let model_is = ap (λ (x : Step). x.model) by ∙ facts.model in
      let behind : next ≡ schema_after s piece report =
      next_is ∙ ap (λ (x : Step). x.model.schema) by ∙ ap (λ (m : Model). m.schema) facts.model ∙ ap (λ (r : Report). schema_after s piece r) (sym same) in
      let model : made_step.model ≡ without_rows next = model_is ∙ ap without_rows (sym (next_is ∙ ap (λ (m : Model). m.schema) model_is)) in
      record {
        is = record {
          number_is = ap (λ (r : Report). r.number) same ∙ facts.numbered;
          bound_is = subst (λ (r : Report). IsBound (statement_bound s piece) r.bound) (sym same) facts.bound;
          few_ops = omega (arith, no_ops);
          few_entries = omega (arith, no_entries);
          unread_is = subst (IsUnread number (action_of s piece)) (sym same) facts.unread;
          can = subst (λ (r : Report). CanEnd s (action_of s piece) r.end) (sym same) facts.can;
          defined_is = λ written is accepted. subst (IsDefinedAs s.tables written) behind (defined written is accepted);
        };
        next_is = behind;
        matches = λ m is. subst (λ (x : Model). Matches (check_step x number piece).report report) (sym is)
            (subst (λ (r : Report). Matches r report) report_is (record { same = refl; ops = omega (arith, no_ops); entries = omega (arith, no_entries) }));
        stands = λ m is. ap (λ (x : Model). (check_step x number piece).model) is ∙ model;
        rises = record { ops = omega (arith, no_ops); entries = omega (arith, no_entries) };
        still = λ _. refl;
        passes = λ some. absurd some;
        unopened = λ _. (refl, refl);
      }

  -- there was no memory for it
  pub lost_checked : {answers : List ℕ → Option (List ℕ) → Type 0} → BreaksAt answers Check stops.NoMem (Cut piece) number s content content counts counts
  lost_checked held =
      Stopped-at Check stops.NoMem s (moment content held counts) (moment content held counts) number (Cut piece ∷ []) [] (sym (append_known-none held))
      (refl, within_none (statement_bound s piece) counts) tt tt (kept_same s (Cut piece ∷ []) content content counts counts refl refl) (λ m is. inl tt) (λ m is. record { ops = omega arith; entries = omega arith })
