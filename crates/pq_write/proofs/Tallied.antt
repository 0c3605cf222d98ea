-- What a READ makes of what a content stands for.
use Rattle.std.proofs.Common.{◌≡◌, ℕ, List, [], ◌∷◌, map, Option, Some, None, Ok, refl, sym, ap, ◌∙◌, subst, inl, inr, arith}
use Rattle.std.specs.Prelude.{◌≤◌, IfSome}
use Rattle.std.specs.FinMap.{get}
use Rattle.pq_base.specs.declared.value.ColType.{ColType}
use Rattle.pq_base.specs.declared.value.Value.{Value}
use Rattle.pq_base.specs.Values.{AllFit}
use Rattle.pq_builds.specs.Bounds.{bound}
use Rattle.pq_calls.specs.World as calls
use Rattle.pq_calls.specs.World.{world, Explains, where_told}
use Rattle.pq_content.specs.Pairs.{Pair}
use Rattle.pq_content.specs.Tables.{AllOfKinds, Rows}
use Rattle.pq_counters.specs.Evidence.{IsCounted, IsNoCount}
use Rattle.pq_intent.specs.Spending.{TakesAtMost}
use Rattle.pq_print.specs.declared.report.End.TheVariants as end
use Rattle.pq_schema.specs.Resolved.{param_type}
use Rattle.pq_schema.specs.Schema.{Schema}
use Rattle.pq_schema.proofs.TypeKinds.{kind_from_param}
use Rattle.pq_statement.specs.Actions as action
use Rattle.pq_statement.specs.Readings.{IsReading, Reading}
use Rattle.pq_store.specs.Breaks.{IsUndamaged}
use Rattle.pq_store.specs.Content.{Content}
use Rattle.pq_store.specs.Counts.{Counts, AllowedCounts, granted_counts, used_of}
use Rattle.pq_store.specs.declared.damage.Broke.{Broke}
use Rattle.pq_store.specs.declared.damage.Broke.TheVariants as broke
use Rattle.pq_tallies.specs.Counters.{HoldsCounted, counter_key, most_count, tally}
use Rattle.pq_tallies.specs.Defined.{counter_numbered}
use Rattle.pq_tallies.proofs.Defined.{numbered_in}
use Rattle.pq_reports.specs.Evidence.{TellsEvidence}
use Rattle.pq_reports.specs.Making.{IsWithinAsked, MakesAction}
use Rattle.pq_reports.specs.Matches.{Matches}
use Rattle.pq_catalog.specs.Model.{Model}
use Rattle.pq_reports.specs.Promise.{BrokenStatement, DoneStatement}
use Rattle.pq_reports.specs.Reports.{count_report}
use Rattle.pq_catalog.specs.Stands.{Stands, catalog_pairs}
use Rattle.pq_reports.specs.Step.{Step, count_line, read_step, report_of, report_step}
use Rattle.pq_catalog.proofs.Counted.{settled_counted}
use Rattle.pq_reports.proofs.Promises.{broken_kept, of_each, of_told, sound_shown, within_step}

-- values that fit parameters for columns are of the columns' kinds
pub kinds_from_params : (types : List ColType) (values : List Value) → AllFit (map param_type types) values → AllOfKinds types values
kinds_from_params [] [] fits = tt
kinds_from_params [] (value ∷ values) fits = absurd fits
kinds_from_params (ty ∷ types) [] fits = absurd fits
kinds_from_params (ty ∷ types) (value ∷ values) fits = (kind_from_param ty value fits.0, kinds_from_params types values fits.1)

module _ (number : ℕ) (reading : Reading) (schema : Schema) where
  -- the number over a content that stands
  abbrev IsTally : Option Content → ℕ → Type 0
  IsTally old n = (rows : Rows) (others : List Pair) → HoldsCounted old schema rows others → n ≡ tally rows (counter_numbered schema reading.number) reading.values

  told_step : (m : Model) (n : ℕ) → schema ≡ m.schema → n ≡ tally m.rows (counter_numbered schema reading.number) reading.values
      → read_step m number reading ≡ report_step m (report_of number (count_line n ∷ []) (end.Rows 1 None) (bound 1 1))
  unfolding read_step
  told_step m n known is =
      ap (λ (k : ℕ). report_step m (report_of number (count_line k ∷ []) (end.Rows 1 None) (bound 1 1)))
      (ap (λ (x : Schema). tally m.rows (counter_numbered x reading.number) reading.values) (sym known) ∙ sym is)

  pub read_done : (old now : Option Content) (f0 f1 : ℕ) (given allowed : AllowedCounts) (before after : Counts) (n : ℕ) → given ≡ granted_counts 1 1
      → calls.Reads (world old f0 given before) (world now f1 allowed after) 1 1 → IsTally old n → n ≤ most_count
      → IfSome old (λ content. IsCounted (get content (counter_key reading.number reading.values)) n)
      → DoneStatement number (Ok (action.Reads reading)) old now schema schema before after (count_report number n (used_of allowed))
  read_done old now f0 f1 given allowed before after n is reads answer few stored =
      let given_ops = ap (λ (a : AllowedCounts). a.granted.ops) is in
      let given_entries = ap (λ (a : AllowedCounts). a.granted.entries) is in
      let left_ops = ap (λ (a : AllowedCounts). a.left.ops) is in
      let left_entries = ap (λ (a : AllowedCounts). a.left.entries) is in
      let same_ops = ap (λ (c : Counts). c.ops) reads.granted in
      let same_entries = ap (λ (c : Counts). c.entries) reads.granted in
      let made : (m : Model) → Stands old schema m → read_step m number reading ≡ report_step m (report_of number (count_line n ∷ []) (end.Rows 1 None) (bound 1 1)) =
      λ m s. told_step m n s.known (answer m.rows (catalog_pairs schema) (settled_counted old schema m s)) in
      record {
        matches = λ m s. subst (λ (x : Step). Matches x.report (count_report number n (used_of allowed))) (sym (made m s))
            (record { same = refl; ops = omega (arith, given_ops, same_ops); entries = omega (arith, given_entries, same_entries) });
        made = λ m s. subst (λ (x : Step). Stands now schema x.model) (sym (made m s)) (subst (λ (o : Option Content). Stands o schema m) (sym reads.same) s);
        ops = omega (arith, given_ops, left_ops, same_ops, reads.spent_ops, reads.rise_ops);
        entries = omega (arith, given_entries, left_entries, same_entries, reads.spent_entries, reads.rise_entries);
        few_ops = omega (arith, given_ops, same_ops);
        few_entries = omega (arith, given_entries, same_entries);
        bound = refl;
        refused = λ refusal. absurd refusal;
        accepted = λ _. refl;
        numbered = refl;
        unread = tt;
        can = tt;
        reads = λ _. reads.same;
        tells = λ _. of_told old (λ content. IsCounted (get content (counter_key reading.number reading.values)) n) (λ content. MakesAction schema (action.Reads reading) content now (count_report number n (used_of allowed)))
            (λ content counted. record { n = n; counted = counted; lines = refl; end_is = refl }) stored;
        kind = λ _. record { n = n; few = few; lines = refl; end_is = refl };
        bare = λ refusal. absurd refusal;
      }

  no_rows : (old : Option Content) (before after : Counts) → IfSome old (λ content. IsWithinAsked (Ok (action.Reads reading)) content before after)
  no_rows old before after = of_each old (λ content. IsWithinAsked (Ok (action.Reads reading)) content before after) (λ content. tt)

  within_read : (old now : Option Content) (f0 f1 : ℕ) (given allowed : AllowedCounts) (before after : Counts) → calls.Reads (world old f0 given before) (world now f1 allowed after) 1 1 → TakesAtMost (bound 1 1) before after
  within_read old now f0 f1 given allowed before after reads = record { ops = reads.few_ops; entries = reads.few_entries }

  -- the code of no number shows that the counter is damaged
  count_shown : (old now : Option Content) (f0 f1 : ℕ) (given allowed : AllowedCounts) (before after : Counts) (error : Broke) → IsReading schema reading
      → Explains (where_told (IsNoCount schema.tables (counter_numbered schema reading.number))) (world old f0 given before) (world now f1 allowed after) error → IfSome old (λ content. TellsEvidence schema content error)
  count_shown None now f0 f1 given allowed before after error is explains = tt
  count_shown (Some content) now f0 f1 given allowed before after broke.Failed is explains = tt
  count_shown (Some content) now f0 f1 given allowed before after broke.NoMem is explains = tt
  count_shown (Some content) now f0 f1 given allowed before after (broke.Damaged damage) is explains =
      inr (inl (counter_numbered schema reading.number, numbered_in schema reading.number is.number, inl explains))

  pub read_broke : (old now : Option Content) (f0 f1 : ℕ) (given allowed : AllowedCounts) (before after : Counts) (error : Broke) → IsReading schema reading
      → calls.Reads (world old f0 given before) (world now f1 allowed after) 1 1
      → Explains (where_told (IsNoCount schema.tables (counter_numbered schema reading.number))) (world old f0 given before) (world now f1 allowed after) error
      → ((rows : Rows) (others : List Pair) → HoldsCounted old schema rows others → IsUndamaged error)
      → BrokenStatement number (Ok (action.Reads reading)) old now schema before after error
  read_broke old now f0 f1 given allowed before after error is reads explains sound =
      let within = within_read old now f0 f1 given allowed before after reads in
      broken_kept number (Ok (action.Reads reading)) old now schema before after error reads.same
      (λ m s. sound m.rows (catalog_pairs schema) (settled_counted old schema m s)) within
      (within_step number (action.Reads reading) old schema (bound 1 1) before after refl within) (no_rows old before after)
      (count_shown old now f0 f1 given allowed before after error is explains)

  -- want of memory behind the read
  pub read_lost : (old now : Option Content) (f0 f1 : ℕ) (given allowed : AllowedCounts) (before after : Counts)
      → calls.Reads (world old f0 given before) (world now f1 allowed after) 1 1 → BrokenStatement number (Ok (action.Reads reading)) old now schema before after broke.NoMem
  read_lost old now f0 f1 given allowed before after reads =
      let within = within_read old now f0 f1 given allowed before after reads in
      broken_kept number (Ok (action.Reads reading)) old now schema before after broke.NoMem reads.same (λ m s. tt) within
      (within_step number (action.Reads reading) old schema (bound 1 1) before after refl within) (no_rows old before after) (sound_shown old schema broke.NoMem tt)
