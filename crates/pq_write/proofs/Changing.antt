-- A statement that changes rows by one commit, or is refused for what it read.
use Rattle.std.proofs.Common.{lit≤, ◌≡◌, ℕ, ◌+◌, ◌≤◌, ◌==◌, Bool, true, false, cond, List, [], length, map, Option, Some, None, Ok, refl, sym, ap, ◌∙◌, subst, arith, inl, inr, ◌⊎◌}
use Rattle.std.specs.Prelude.{IfSome}
use Rattle.std.proofs.lemmas.Bool.{eq-eqb, eqb-true, false≢true}
use Rattle.pq_base.specs.declared.number.Bound.{Bound}
use Rattle.pq_row_code.specs.declared.changes.Change.{Change as Coded}
use Rattle.pq_schema.specs.Schema.{Schema}
use Rattle.pq_schema.specs.Valid.{IsValid}
use Rattle.pq_print.specs.declared.report.End.{End}
use Rattle.pq_print.specs.declared.report.End.TheVariants as end
use Rattle.pq_print.specs.declared.report.Report.{Report}
use Rattle.pq_content.specs.Pairs.{changed_content}
use Rattle.pq_content.specs.Standing.{change_of, write_ops, AreIntended}
use Rattle.pq_content.specs.Tables.{Rows, Keeps}
use Rattle.pq_store.specs.Content.{Content}
use Rattle.pq_store.specs.Counts.{Counts, AllowedCounts, granted_counts, used_of}
use Rattle.pq_store.specs.declared.damage.Broke.{Broke}
use Rattle.pq_store.specs.declared.damage.Broke.TheVariants as broke
use Rattle.pq_store.specs.Breaks.{IfDamaged, IsPresent, IsUndamaged}
use Rattle.pq_intent.specs.Changing.{IfDamagedSame, IsPartway, WantsMemory, commit_writes, intent_writes}
use Rattle.pq_intent.specs.Settling.{IsSettled, Settles, HasIntent}
use Rattle.pq_intent.specs.Spending.{TakesAtMost, Spends}
use Rattle.pq_key_code.specs.KeyCode.{intent_key}
use Rattle.pq_calls.specs.World.{world, Reads}
use Rattle.pq_tallies.specs.Counters.{AreFewRows, all_pairs}
use Rattle.pq_tallies.specs.Defined.{counters_in}
use Rattle.pq_statement.specs.Actions.{Action, action_bound, action_schema}
use Rattle.pq_reports.specs.Evidence.{TellsEvidence, TellsEvidenceFor}
use Rattle.pq_reports.specs.Making.{IsWithinAsked, LeavesAction, MakesAction, MakesChanges, StopsWriting}
use Rattle.pq_reports.specs.Matches.{Matches}
use Rattle.pq_reports.specs.Promise.{DoneStatement, BrokenStatement, IsBound, IsRefusal, IsWithinFixed, KeepsDamaged, LacksMemory, OnlyReads}
use Rattle.pq_reports.specs.Refusing.{CanEnd, IsUnread}
use Rattle.pq_reports.specs.Telling.{TellsAction, TellsLines}
use Rattle.pq_reports.specs.Step.{Step, action_step, report_of, report_step}
use Rattle.pq_catalog.specs.Model.{Model}
use Rattle.pq_catalog.specs.Stands.{Stands, Opens, content_of, catalog_pairs}
use Rattle.pq_catalog.proofs.Standing.{no_intent_in, settled_opens}
use Rattle.pq_reports.proofs.Promises.{broken_kept, damaged_kept, of_each, shown_for, still_for, within_step}
use Rattle.pq_write.proofs.Unmade.{wants_unmade}

-- ---- the operations of a commit

-- fewer changes have no more operations
pub commits_within : (n most : ℕ) → 1 ≤ n → n ≤ most → write_ops n ≤ write_ops most
commits_within n most some few = by (n == 1) (most == 1) refl refl
  where
    by : (b c : Bool) → (n == 1) ≡ b → (most == 1) ≡ c → cond b 1 (n + 2) ≤ cond c 1 (most + 2)
    by true true one also = lit≤ tt
    by true false one more = omega arith
    by false true more one =
        let most_is : most ≡ 1 = eqb-true most 1 one in
        let same : n ≡ 1 = omega (arith, some, few, most_is) in
        absurd (false≢true (sym more ∙ eq-eqb n 1 same))
    by false false more also = omega (arith, few)

-- ---- what the plan and the commit are told of the content

pub settled_for : (old mid : Option Content) (schema : Schema) (m : Model) → mid ≡ old → Stands old schema m → IsSettled mid (content_of m)
settled_for old mid schema m same s = record { told = same ∙ s.settled.told; no_intent = no_intent_in m }

-- the model with these rows
abbrev pub with_rows : Model → Rows → Model
with_rows m rows = record m { rows = rows }

-- ---- the statement

-- it has this bound, leaves the definitions, may write, isn't made where memory was wanting, and makes of a content
-- just what is planned for it
pub record IsChange (schema : Schema) (action : Action) (most : Bound) (planned : Content → List Coded → Type 0) : Type 0 where
  pub bound : action_bound schema action ≡ Some most
  pub same : action_schema schema action ≡ schema
  pub writes : OnlyReads (Ok action) → ⊥
  pub unread : (number : ℕ) (report : Report) → IsUnread number (Ok action) report
  pub lacks : (old now : Option Content) (error : Broke) → (error ≡ broke.NoMem → (now ≡ old) ⊎ HasIntent now) → LacksMemory (Ok action) old now error
  pub leaves : (content : Content) (now : Option Content) → StopsWriting (planned content) content now → LeavesAction schema action content now
  pub makes : (content : Content) (now : Option Content) (report : Report) → MakesChanges (planned content) content now → MakesAction schema action content now report
  pub kind : (report : Report) → TellsLines [] report → TellsAction schema action report
  pub rows : (content : Content) (before after : Counts) → IsWithinAsked (Ok action) content before after

-- over the rows of a model the changes make these rows, and its step does
pub record MakesStep (number : ℕ) (action : Action) (schema : Schema) (most : Bound) (changes : List Coded) (m : Model) : Type 0 where
  pub made : Rows
  pub content : changed_content (map change_of changes) (all_pairs schema.tables (counters_in schema) m.rows (catalog_pairs schema)) ≡ all_pairs schema.tables (counters_in schema) made (catalog_pairs schema)
  pub keeps : Keeps schema.tables made
  pub few : AreFewRows (counters_in schema) made
  pub step : action_step m number action ≡ record { model = with_rows m made; report = report_of number [] end.Done most }

module _ (number : ℕ) (action : Action) (schema : Schema) (most : Bound) (planned : Content → List Coded → Type 0) (is : IsChange schema action most planned) where
  fixed : (before after : Counts) → TakesAtMost most before after → IsWithinFixed (action_bound schema action) before after
  fixed before after within = subst (λ (o : Option Bound). IsWithinFixed o before after) (sym is.bound) within

  -- ---- refused

  pub refused_done : (ending : End) (old now : Option Content) (f0 f1 : ℕ) (given allowed : AllowedCounts) (before after : Counts) (ops entries : ℕ) → given ≡ granted_counts most.ops most.entries
      → Reads (world old f0 given before) (world now f1 allowed after) ops entries
      → ((m : Model) → Stands old schema m → action_step m number action ≡ report_step m (report_of number [] ending most)) → CanEnd schema (Ok action) ending → IsRefusal ending
      → DoneStatement number (Ok action) old now schema schema before after (record (report_of number [] ending most) { used = used_of allowed })
  refused_done ending old now f0 f1 given allowed before after ops entries is_given reads step can refusal =
      let given_ops = ap (λ (a : AllowedCounts). a.granted.ops) is_given in
      let given_entries = ap (λ (a : AllowedCounts). a.granted.entries) is_given in
      let left_ops = ap (λ (a : AllowedCounts). a.left.ops) is_given in
      let left_entries = ap (λ (a : AllowedCounts). a.left.entries) is_given in
      let same_ops = ap (λ (c : Counts). c.ops) reads.granted in
      let same_entries = ap (λ (c : Counts). c.entries) reads.granted in
      record {
        matches = λ m s. subst (λ (x : Step). Matches x.report (record (report_of number [] ending most) { used = used_of allowed })) (sym (step m s))
            (record { same = refl; ops = omega (arith, given_ops, same_ops); entries = omega (arith, given_entries, same_entries) });
        made = λ m s. subst (λ (x : Step). Stands now schema x.model) (sym (step m s)) (subst (λ (o : Option Content). Stands o schema m) (sym reads.same) s);
        ops = omega (arith, given_ops, left_ops, same_ops, reads.spent_ops, reads.rise_ops);
        entries = omega (arith, given_entries, left_entries, same_entries, reads.spent_entries, reads.rise_entries);
        few_ops = omega (arith, given_ops, same_ops);
        few_entries = omega (arith, given_entries, same_entries);
        bound = subst (λ (o : Option Bound). IsBound o most) (sym is.bound) refl;
        refused = λ _. (reads.same, refl);
        accepted = λ _. sym is.same;
        numbered = refl;
        unread = is.unread number _;
        can = can;
        reads = λ none. absurd (is.writes none);
        tells = λ not. absurd (not refusal);
        kind = λ not. absurd (not refusal);
        bare = λ _. refl;
      }

  -- ---- made

  module _ (changes : List Coded) (m : Model) (known : schema ≡ m.schema) (p : MakesStep number action schema most changes m) where
    content_made : changed_content (map change_of changes) (content_of m) ≡ content_of (with_rows m p.made)
    unfolding content_of
    content_made =
        subst (λ (x : Schema). changed_content (map change_of changes) (all_pairs x.tables (counters_in x) m.rows (catalog_pairs x)) ≡ all_pairs x.tables (counters_in x) p.made (catalog_pairs x)) known p.content

    keeps_made : Keeps m.schema.tables p.made
    keeps_made = subst (λ (x : Schema). Keeps x.tables p.made) known p.keeps

    few_made : AreFewRows (counters_in m.schema) p.made
    few_made = subst (λ (x : Schema). AreFewRows (counters_in x) p.made) known p.few

  -- the changes that were planned are those that were made
  made_told : (changes : List Coded) (old mid now : Option Content) (report : Report) → mid ≡ old → IfSome mid (λ pairs. now ≡ Some (changed_content (map change_of changes) pairs)) → IfSome old (λ content. planned content changes)
      → IfSome old (λ content. MakesAction schema action content now report)
  made_told changes None mid now report same whole plan = tt
  made_told changes (Some content) mid now report same whole plan =
      is.makes content now report (record { coded = changes; plan = plan; is = subst (λ (o : Option Content). IfSome o (λ pairs. now ≡ Some (changed_content (map change_of changes) pairs))) same whole })

  pub made_done : (changes : List Coded) (old mid now : Option Content) (f0 f1 : ℕ) (given left allowed : AllowedCounts) (before between after : Counts) (ops entries limit : ℕ) → given ≡ granted_counts most.ops most.entries
      → Reads (world old f0 given before) (world mid f1 left between) ops entries
      → ((m : Model) → Stands old schema m → MakesStep number action schema most changes m)
      → ((pairs : Content) → IsSettled mid pairs → now ≡ Some (changed_content (map change_of changes) pairs)) → Spends limit left allowed between after
      → IfSome mid (λ pairs. now ≡ Some (changed_content (map change_of changes) pairs)) → IfSome old (λ content. planned content changes)
      → DoneStatement number (Ok action) old now schema schema before after (record (report_of number [] end.Done most) { used = used_of allowed })
  made_done changes old mid now f0 f1 given left allowed before between after ops entries limit is_given reads makes commits spends whole plan =
      let given_ops = ap (λ (a : AllowedCounts). a.granted.ops) is_given in
      let given_entries = ap (λ (a : AllowedCounts). a.granted.entries) is_given in
      let given_left = ap (λ (a : AllowedCounts). a.left.ops) is_given in
      let given_rest = ap (λ (a : AllowedCounts). a.left.entries) is_given in
      let granted_ops = ap (λ (c : Counts). c.ops) reads.granted in
      let granted_entries = ap (λ (c : Counts). c.entries) reads.granted in
      let same_ops = ap (λ (c : Counts). c.ops) spends.granted in
      let same_entries = ap (λ (c : Counts). c.entries) spends.granted in
      record {
        matches = λ m s. subst (λ (x : Step). Matches x.report (record (report_of number [] end.Done most) { used = used_of allowed })) (sym (makes m s).step)
            (record { same = refl; ops = omega (arith, given_ops, granted_ops, same_ops); entries = omega (arith, given_entries, granted_entries, same_entries) });
        made = λ m s. subst (λ (x : Step). Stands now schema x.model) (sym (makes m s).step) (record {
          settled = record {
            valid = s.settled.valid;
            keeps = keeps_made changes m s.known (makes m s);
            few = few_made changes m s.known (makes m s);
            told = commits (content_of m) (settled_for old mid schema m reads.same s) ∙ ap Some (content_made changes m s.known (makes m s));
          };
          known = s.known;
        });
        ops = omega (arith, given_ops, given_left, granted_ops, same_ops, reads.spent_ops, reads.rise_ops, spends.ops, spends.rise);
        entries = omega (arith, given_entries, given_rest, granted_entries, same_entries, reads.spent_entries, reads.rise_entries, spends.entries_left, spends.entries);
        few_ops = omega (arith, given_ops, granted_ops, same_ops);
        few_entries = omega (arith, given_entries, granted_entries, same_entries);
        bound = subst (λ (o : Option Bound). IsBound o most) (sym is.bound) refl;
        refused = λ refusal. absurd refusal;
        accepted = λ _. sym is.same;
        numbered = refl;
        unread = is.unread number _;
        can = tt;
        reads = λ none. absurd (is.writes none);
        tells = λ _. made_told changes old mid now (record (report_of number [] end.Done most) { used = used_of allowed }) reads.same whole plan;
        kind = λ _. is.kind (record (report_of number [] end.Done most) { used = used_of allowed }) (refl, refl);
        bare = λ refusal. absurd refusal;
      }

  -- ---- broken off

  -- what was spent of the bound is not more than the bound
  planned_within : (old mid : Option Content) (f0 f1 : ℕ) (given left : AllowedCounts) (before after : Counts) (ops entries : ℕ) → given ≡ granted_counts most.ops most.entries
      → Reads (world old f0 given before) (world mid f1 left after) ops entries → TakesAtMost most before after
  planned_within old mid f0 f1 given left before after ops entries is_given reads = record {
    ops = omega (arith, reads.spent_ops, ap (λ (a : AllowedCounts). a.left.ops) is_given);
    entries = omega (arith, reads.spent_entries, ap (λ (a : AllowedCounts). a.left.entries) is_given);
  }

  committed_within : (old mid : Option Content) (f0 f1 : ℕ) (given left allowed : AllowedCounts) (before between after : Counts) (ops entries limit : ℕ) → given ≡ granted_counts most.ops most.entries
      → Reads (world old f0 given before) (world mid f1 left between) ops entries → Spends limit left allowed between after → TakesAtMost most before after
  committed_within old mid f0 f1 given left allowed before between after ops entries limit is_given reads spends = record {
    ops = omega (arith, reads.spent_ops, spends.ops, ap (λ (a : AllowedCounts). a.left.ops) is_given);
    entries = omega (arith, reads.spent_entries, spends.entries, ap (λ (a : AllowedCounts). a.left.entries) is_given);
  }

  pub planning_broke : (error : Broke) (old now : Option Content) (f0 f1 : ℕ) (given left : AllowedCounts) (before after : Counts) (ops entries : ℕ) → given ≡ granted_counts most.ops most.entries
      → Reads (world old f0 given before) (world now f1 left after) ops entries → IfSome old (λ content. TellsEvidenceFor (Ok action) schema content error)
      → ((m : Model) → Stands old schema m → IsUndamaged error) → BrokenStatement number (Ok action) old now schema before after error
  planning_broke error old now f0 f1 given left before after ops entries is_given reads shown sound =
      let within = planned_within old now f0 f1 given left before after ops entries is_given reads in
      broken_kept number (Ok action) old now schema before after error reads.same sound (fixed before after within) (within_step number action old schema most before after is.bound within)
      (of_each old (λ content. IsWithinAsked (Ok action) content before after) (λ content. is.rows content before after)) shown

  -- the writes that were made are the first ones of what was planned
  begun_told : (changes : List Coded) (old mid now : Option Content) → mid ≡ old → IsPartway (commit_writes changes) mid now → IfSome old (λ content. planned content changes) → IfSome old (λ content. LeavesAction schema action content now)
  begun_told changes None mid now same partway plan = tt
  begun_told changes (Some content) mid now same partway plan =
      is.leaves content now (inr (record { coded = changes; plan = plan; partway = subst (λ (o : Option Content). IsPartway (commit_writes changes) o now) same partway }))

  opens_at : (changes : List Coded) (m : Model) (now : Option Content) (old : Option Content) → Stands old schema m → MakesStep number action schema most changes m
      → Settles now (content_of m) ⊎ Settles now (changed_content (map change_of changes) (content_of m)) → Opens now m ⊎ Opens now (action_step m number action).model
  opens_at changes m now old s p (inl settles) = inl (record { valid = s.settled.valid; keeps = s.settled.keeps; few = s.settled.few; pairs = content_of m; settles = settles; holds = inl refl })
  opens_at changes m now old s p (inr settles) =
      inr (subst (λ (x : Step). Opens now x.model) (sym p.step)
      (record {
        valid = s.settled.valid;
        keeps = keeps_made changes m s.known p;
        few = few_made changes m s.known p;
        pairs = changed_content (map change_of changes) (content_of m);
        settles = settles;
        holds = inl (content_made changes m s.known p);
      }))

  -- an intent that is there shows
  intent_shown : (old : Option Content) (error : Broke) → IfSome old (λ content. IfDamaged (IsPresent intent_key content) error) → IfSome old (λ content. TellsEvidence schema content error)
  intent_shown None error shows = tt
  intent_shown (Some content) broke.Failed shows = tt
  intent_shown (Some content) broke.NoMem shows = tt
  intent_shown (Some content) (broke.Damaged damage) shows = inr (inr (inl shows))

  pub commit_broke : (changes : List Coded) (error : Broke) (old mid now : Option Content) (f0 f1 : ℕ) (given left allowed : AllowedCounts) (before between after : Counts) (ops entries limit : ℕ) → given ≡ granted_counts most.ops most.entries
      → Reads (world old f0 given before) (world mid f1 left between) ops entries → Spends limit left allowed between after
      → ((m : Model) → Stands old schema m → MakesStep number action schema most changes m)
      → ((pairs : Content) → IsSettled mid pairs → Settles now pairs ⊎ Settles now (changed_content (map change_of changes) pairs))
      → ((pairs : Content) → IsSettled mid pairs → IsUndamaged error) → IfSome mid (λ pairs. IfDamaged (IsPresent intent_key pairs) error)
      → IfDamagedSame mid now error → (error ≡ broke.NoMem → (pairs : Content) → IsSettled mid pairs → WantsMemory (intent_writes changes) between after mid now)
      → AreIntended (map change_of changes) → after.ops ≤ between.ops + write_ops (length changes)
      → IsPartway (commit_writes changes) mid now → IfSome old (λ content. planned content changes)
      → BrokenStatement number (Ok action) old now schema before after error
  commit_broke changes error old mid now f0 f1 given left allowed before between after ops entries limit is_given reads spends makes stops sound shows same wants intended few partway plan =
      let within = committed_within old mid f0 f1 given left allowed before between after ops entries limit is_given reads spends in
      let shown = shown_for (Ok action) mid schema error (intent_shown mid error shows) in
      record {
        stopped = λ m s. opens_at changes m now old s (makes m s) (stops (content_of m) (settled_for old mid schema m reads.same s));
        sound = λ m s. sound (content_of m) (settled_for old mid schema m reads.same s);
        within = fixed before after within;
        within_own = within_step number action old schema most before after is.bound within;
        kept = subst (λ (o : Option Content). KeepsDamaged schema (Ok action) o now error) reads.same (damaged_kept schema (Ok action) mid now error same);
        left = begun_told changes old mid now reads.same partway plan;
        within_rows = of_each old (λ content. IsWithinAsked (Ok action) content before after) (λ content. is.rows content before after);
        memory = λ m s. is.lacks old now error (wants_unmade changes error old mid now between after reads.same (content_of m) (settled_for old mid schema m reads.same s) wants intended few);
        reads = λ none. absurd (is.writes none);
        shown = subst (λ (o : Option Content). IfSome o (λ content. TellsEvidenceFor (Ok action) schema content error)) reads.same shown;
        lasting = still_for (Ok action) mid now schema error same shown;
      }
