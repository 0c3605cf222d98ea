-- What preparing a query makes where its index is filled, and where that breaks off.
use Rattle.std.proofs.Common.{lit≤, ◌≡◌, ℕ, ◌+◌, ◌-◌, ◌*◌, ◌<◌, ◌≤◌, ◌⊎◌, Bool, true, false, List, [], ◌∷◌, length, Option, Some, None, Ok, refl, sym, ap, ◌∙◌, subst, arith, inl, inr}
use Rattle.std.specs.Prelude.{not, nat_le, IfSome, if◌then◌else◌}
use Rattle.pq_schema.specs.Definitions.{refused_if}
use Rattle.std.proofs.lemmas.List.{length-append}
use Rattle.pq_base.specs.declared.number.Bound.{Bound}
use Rattle.pq_base.specs.declared.refusal.Refusal.{Refusal}
use Rattle.pq_base.specs.declared.refusal.Refusal.TheVariants as refusal
use Rattle.pq_builds.specs.declared.build.Built.TheVariants.{Rows as Filled, TooMany}
use Rattle.pq_builds.specs.declared.target.NewQuery.{NewQuery}
use Rattle.pq_builds.specs.declared.target.Target.{Target}
use Rattle.pq_builds.specs.Filling.{row_pairs_in}
use Rattle.pq_builds.specs.Stages.{RanBuild, StopsBuilding, TakesBuild, IsWithinBuild as BuildsWithin, build_ops}
use Rattle.pq_builds.specs.Standing.{Origin, HoldsOrigin, Makes, Leaves, rows_in, before as before_build}
use Rattle.pq_builds.specs.Targets.{target_of}
use Rattle.pq_builds.proofs.Standing.{counted_before}
use Rattle.pq_intent.specs.Spending.{TakesAtMost}
use Rattle.pq_content.specs.Tables.{IsTableNumber, rows_of}
use Rattle.pq_key_code.specs.KeyCode.{catalog_key}
use Rattle.pq_print.specs.Canonical.{query_text, definition_text}
use Rattle.pq_print.specs.declared.report.End.TheVariants as End
use Rattle.pq_print.specs.declared.report.Line.{Line}
use Rattle.pq_reread.proofs.LaterTables.{last_text}
use Rattle.pq_schema.specs.Candidates.{Candidate}
use Rattle.pq_schema.specs.Schema.{Schema, with_query, made_of}
use Rattle.pq_schema.specs.Sound.{AreColumns, AreParts}
use Rattle.pq_schema.specs.Tables.{no_table, table_at}
use Rattle.pq_schema.specs.Valid.{IsValid, IsDefined}
use Rattle.pq_schema.specs.declared.made.Definition.{Definition}
use Rattle.pq_schema.specs.declared.made.Definition.TheVariants.{OfQuery}
use Rattle.pq_schema.specs.declared.query.Query.{Query}
use Rattle.pq_schema.specs.declared.table.NewIndex.{NewIndex}
use Rattle.pq_schema.proofs.Soundness.{valid_tables}
use Rattle.pq_schema.proofs.Valid.{wanted_fits, wanted_there}
use Rattle.pq_store.specs.Breaks.{IsUndamaged}
use Rattle.pq_store.specs.Content.{Content}
use Rattle.pq_store.specs.Counts.{Counts}
use Rattle.pq_store.specs.declared.damage.Broke.{Broke}
use Rattle.pq_store.specs.declared.damage.Broke.TheVariants as broke
use Rattle.pq_reports.specs.Evidence.{TellsEvidence}
use Rattle.pq_catalog.specs.Format.{format_of, last_definition}
use Rattle.pq_planning.specs.Lines.{query_lines}
use Rattle.pq_reports.specs.Making.{MakesAction}
use Rattle.pq_reports.specs.Matches.{Matches}
use Rattle.pq_catalog.specs.Model.{Model}
use Rattle.pq_planning.specs.Planning.{PlannedDefinition, planned_definition}
use Rattle.pq_reports.specs.Promise.{DoneStatement, BrokenStatement, KeepsDamaged}
use Rattle.pq_reports.specs.Reports.{build_report, too_many_report, used_numbers}
use Rattle.pq_catalog.specs.Stands.{Stands, Opens, last_query, new_query_of}
use Rattle.pq_builds.specs.Bounds.{bound, build_bound}
use Rattle.pq_statement.specs.Actions.{Prepares}
use Rattle.pq_reports.specs.Step.{Step, report_of, refusal_report, crowding_refusal, prepared_over}
use Rattle.pq_catalog.proofs.Building.{next_schema, next_model, origin_of, target_for, at_end, holds_origin, new_in, target_is, leaves_opens, makes_next, before_holds}
use Rattle.pq_reports.proofs.Promises.{broken_kept, of_told, sound_kept, sound_shown, within_prepared}
use Rattle.pq_catalog.proofs.Standing.{settled_opens}

-- ---- the pair of the definition

-- what is written is the last definition's pair of the next schema
pub new_query_is : (schema : Schema) (query : Query) (new : NewIndex) → IsDefined schema query (Some new) → new_query_of schema query ≡ last_query (next_schema schema query new)
new_query_is schema query new defined =
    let next = next_schema schema query new in
    let last : Definition = OfQuery query (Some (made_of new)) in
    let long : length schema.definitions + 1 ≡ length next.definitions = omega (arith, length-append schema.definitions (last ∷ [])) in
    let definition : last_definition next ≡ last = at_end schema.definitions last in
    let text : query_text schema.tables query ≡ definition_text next (length next.definitions) =
    sym (last_text schema query (Some new) defined.resolved (wanted_there schema.tables query (Some new) defined.resolved defined.chosen)) ∙ ap (definition_text next) long in
    λ i. record { key = catalog_key (long i); format = format_of (sym definition i); text = text i }

-- ---- what the index is of

pub key_columns : (schema : Schema) (t : ℕ) → IsValid schema → IsTableNumber schema.tables t → AreColumns (table_at schema.tables t).key
key_columns schema t valid number = (valid_tables schema valid (t - 1) no_table (let low = number.0 in let high = number.1 in omega arith)).key

pub target_there : (schema : Schema) (query : Query) (new : NewIndex) → IsValid schema → IsDefined schema query (Some new) → IsTableNumber schema.tables new.table × AreParts new.index.cols
target_there schema query new valid defined =
    let fits = wanted_fits schema.tables query new defined.resolved defined.chosen in
    let few = (valid_tables schema valid (new.table - 1) no_table (omega (arith, fits.from_one, fits.there))).few_columns in
    ((fits.from_one, fits.there), λ k d lt. omega (arith, fits.inside k d lt, few))

-- ---- few rows, or too many

one_of_many : 1 ≤ build_ops 1000000
one_of_many = lit≤ tt

le_true : (n most : ℕ) → n ≤ most → nat_le n most ≡ true
le_true n most few = grind arith

le_false : (n most : ℕ) → most < n → nat_le n most ≡ false
le_false n most many = grind arith

-- the bound over rows that are not too many
filled_bound : (rows : ℕ) → rows ≤ 1000000 → bound (build_ops rows) (2 * rows) ≡ build_bound rows
filled_bound rows few = sym (ap (λ (b : Bool). if b then bound (build_ops rows) (2 * rows) else bound 1 1000001) (le_true rows 1000000 few))

-- and over too many of them
counted_bound : (rows : ℕ) → 1000000 < rows → build_bound rows ≡ bound 1 1000001
counted_bound rows many = ap (λ (b : Bool). if b then bound (build_ops rows) (2 * rows) else bound 1 1000001) (le_false rows 1000000 many)

module _ (number : ℕ) (query : Query) (new : NewIndex) (best : Candidate) where
  abbrev plan : PlannedDefinition
  plan = planned_definition query best (Some new)

  abbrev pub build_step : Model → Step
  build_step m = prepared_over m number plan (crowding_refusal m (Some new))

  abbrev rows_at : Model → ℕ
  rows_at m = length (rows_of new.table m.rows)

  abbrev too_many : Model → Refusal
  too_many m = refusal.TooManyRows (table_at m.schema.tables new.table).name

  abbrev bound_at : Model → Bool → Bound
  bound_at m b = if b then bound (build_ops (rows_at m)) (2 * rows_at m) else bound 1 1000001

  few_step : (m : Model) → rows_at m ≤ 1000000 → build_step m ≡ record {
    model = next_model m query new;
    report = report_of number (query_lines m.schema.tables plan) End.Done (bound (build_ops (rows_at m)) (2 * rows_at m));
  }
  few_step m few =
      let le = le_true (rows_at m) 1000000 few in
      ap (λ (b : Bool). prepared_over m number plan (refused_if (not b) (too_many m))) le
      ∙ ap (λ (b : Bool). record { model = next_model m query new; report = report_of number (query_lines m.schema.tables plan) End.Done (bound_at m b) }) le

  many_step : (m : Model) → 1000000 < rows_at m → build_step m ≡ record {
    model = m;
    report = refusal_report number (refusal.TooManyRows (table_at m.schema.tables new.table).name) (bound 1 1000001);
  }
  many_step m many =
      let gt = le_false (rows_at m) 1000000 many in
      ap (λ (b : Bool). prepared_over m number plan (refused_if (not b) (too_many m))) gt
      ∙ ap (λ (b : Bool). record { model = m; report = refusal_report number (too_many m) (bound_at m b) }) gt

  -- ---- over a schema

  module _ (schema : Schema) (defined : IsDefined schema query (Some new)) where
    abbrev pub target : Target
    target = target_of new.table new.number (table_at schema.tables new.table) new.index

    abbrev pub written : NewQuery
    written = new_query_of schema query

    defined_in : (old : Option Content) (m : Model) → Stands old schema m → IsDefined m.schema query (Some new)
    defined_in old m s = subst (λ (x : Schema). IsDefined x query (Some new)) s.known defined

    -- a clause over what a build begins with, at what the model has
    at_model : (Clause : Origin → Target → NewQuery → Type 0) (old : Option Content) (m : Model) → Stands old schema m
        → ((origin : Origin) → HoldsOrigin origin target written old → Clause origin target written)
        → Clause (origin_of m new) (target_for m new) (last_query (next_schema m.schema query new))
    at_model Clause old m s clause =
        let defined_here = defined_in old m s in
        let here : (origin : Origin) → HoldsOrigin origin (target_for m new) (new_query_of m.schema query) old → Clause origin (target_for m new) (new_query_of m.schema query) =
        subst (λ (x : Schema). (origin : Origin) → HoldsOrigin origin (target_of new.table new.number (table_at x.tables new.table) new.index) (new_query_of x query) old → Clause origin (target_of new.table new.number (table_at x.tables new.table) new.index) (new_query_of x query)) s.known clause in
        subst (λ (q : NewQuery). (origin : Origin) → HoldsOrigin origin (target_for m new) q old → Clause origin (target_for m new) q) (new_query_is m.schema query new defined_here) here
        (origin_of m new) (holds_origin m query new s.settled.valid s.settled.keeps s.settled.few defined_here s.settled.told)

    pub build_done : (old now : Option Content) (before after : Counts) (count : ℕ) (lines : List Line) → count ≤ 1000000 → lines ≡ query_lines schema.tables plan
        → ((origin : Origin) → HoldsOrigin origin target written old → Makes origin target written (Filled count) now)
        → TakesBuild (Filled count) before after → IfSome old (λ content. RanBuild target written (Filled count) content now)
        → DoneStatement number (Ok (Prepares plan)) old now schema (with_query schema query (Some new)) before after (build_report number lines count)
    build_done old now before after count lines few lined makes takes ran =
        let made_at : (m : Model) → Stands old schema m → Makes (origin_of m new) (target_for m new) (last_query (next_schema m.schema query new)) (Filled count) now =
        λ m s. at_model (λ o t q. Makes o t q (Filled count) now) old m s makes in
        record {
          matches = λ m s.
              let made = made_at m s in
              subst (λ (x : Step). Matches x.report (build_report number lines count)) (sym (few_step m made.1))
              (record {
                same = λ i. record (report_of number (sym (lined ∙ ap (λ (x : Schema). query_lines x.tables plan) s.known) i) End.Done (bound (build_ops (made.0 i)) (2 * made.0 i))) { used = used_numbers (build_ops count) (2 * count) };
                ops = omega (arith, ap build_ops made.0);
                entries = omega (arith, made.0);
              });
          made = λ m s.
              let made = made_at m s in
              subst (λ (x : Step). Stands now (with_query schema query (Some new)) x.model) (sym (few_step m made.1))
              (record {
                settled = makes_next m query new s.settled.valid s.settled.keeps s.settled.few (defined_in old m s) count made;
                known = ap (λ (x : Schema). with_query x query (Some new)) s.known;
              });
          ops = takes.ops_are;
          entries = takes.entries_are;
          few_ops = omega arith;
          few_entries = omega arith;
          bound = (count, filled_bound count few);
          refused = λ refusal. absurd refusal;
          accepted = λ _. refl;
          numbered = refl;
          unread = tt;
          can = tt;
          reads = λ none. absurd none;
          tells = λ _. of_told old (λ content. RanBuild target written (Filled count) content now) (λ content. MakesAction schema (Prepares plan) content now (build_report number lines count)) (λ content built. (count, built)) ran;
          kind = λ _. (lined, refl);
          bare = λ refusal. absurd refusal;
        }

    pub too_many_done : (old now : Option Content) (before after : Counts) (why : Refusal) → why ≡ refusal.TooManyRows (table_at schema.tables new.table).name
        → ((origin : Origin) → HoldsOrigin origin target written old → Makes origin target written TooMany now)
        → now ≡ old → TakesBuild TooMany before after
        → DoneStatement number (Ok (Prepares plan)) old now schema schema before after (too_many_report number why)
    too_many_done old now before after why is makes same takes = record {
      matches = λ m s.
          let made = at_model (λ o t q. Makes o t q TooMany now) old m s makes in
          subst (λ (x : Step). Matches x.report (too_many_report number why)) (sym (many_step m made.0))
          (record {
            same = ap (too_many_report number) (sym (is ∙ ap (λ (x : Schema). refusal.TooManyRows (table_at x.tables new.table).name) s.known));
            ops = lit≤ tt;
            entries = lit≤ tt;
          });
      made = λ m s.
          let made = at_model (λ o t q. Makes o t q TooMany now) old m s makes in
          subst (λ (x : Step). Stands now schema x.model) (sym (many_step m made.0)) (subst (λ (o : Option Content). Stands o schema m) (sym same) s);
      ops = takes.ops_are;
      entries = takes.entries_are;
      few_ops = lit≤ tt;
      few_entries = lit≤ tt;
      bound = (1000001, refl);
      refused = λ _. (same, refl);
      accepted = λ not. absurd (not tt);
      numbered = refl;
      unread = tt;
      can = is;
      reads = λ none. absurd none;
      tells = λ not. absurd (not tt);
      kind = λ not. absurd (not tt);
      bare = λ _. refl;
    }

    -- the bound of the step over a model's rows
    step_within : (m : Model) (before after : Counts) → TakesAtMost (build_bound (rows_at m)) before after → TakesAtMost (build_step m).report.bound before after
    step_within m before after within = within_prepared m number plan before after within

    -- where damage was found, some of the index may be made
    stops_damaged : (old now : Option Content) (broke : Broke) → IfSome old (λ c. StopsBuilding target written c now) → KeepsDamaged schema (Ok (Prepares plan)) old now broke
    stops_damaged None now broke ended = tt
    stops_damaged (Some c) now broke.Failed ended = tt
    stops_damaged (Some c) now broke.NoMem ended = tt
    stops_damaged (Some c) now (broke.Damaged damage) ended = ended

    -- wherever it breaks off
    stopped_at : (old now : Option Content) (m : Model) → Stands old schema m
        → ((origin : Origin) → HoldsOrigin origin target written old → Leaves origin target written now)
        → IfSome old (λ c. StopsBuilding target written c now)
        → Opens now m ⊎ Opens now (build_step m).model
    stopped_at old now m s leaves ended =
        let defined_here = defined_in old m s in
        let valid = s.settled.valid in
        let keeps = s.settled.keeps in
        let few = s.settled.few in
        let origin = origin_of m new in
        let next = next_schema m.schema query new in
        let held = holds_origin m query new valid keeps few defined_here s.settled.told in
        let opens = leaves_opens m query new valid keeps few defined_here (at_model (λ o t q. Leaves o t q now) old m s leaves) in
        let rows : length (row_pairs_in new.table (before_build origin)) ≡ rows_at m = counted_before origin (target_for m new) (last_query next) (new_in m query new valid keeps few defined_here) (target_is m query new valid keeps few defined_here) in
        let stops : StopsBuilding target written (before_build origin) now = subst (λ (o : Option Content). IfSome o (λ c. StopsBuilding target written c now)) held.holds.is ended in
        elim stops [
          | inl same ↦ inl (settled_opens (before_holds m query new valid keeps few defined_here same))
          | inr begun ↦ elim opens [
            | inl o ↦ inl o
            | inr o ↦ inr (subst (λ (x : Step). Opens now x.model) (sym (few_step m (omega (arith, rows, begun.few)))) o)
          ]
        ]

    pub build_broken : (old now : Option Content) (before after : Counts) (broke : Broke)
        → ((origin : Origin) → HoldsOrigin origin target written old → Leaves origin target written now)
        → ((origin : Origin) → HoldsOrigin origin target written old → IsUndamaged broke)
        → IfSome old (λ c. StopsBuilding target written c now)
        → IfSome old (λ content. TellsEvidence schema content broke)
        → IfSome now (λ content. TellsEvidence schema content broke)
        → BuildsWithin build_ops before after
        → ((origin : Origin) → HoldsOrigin origin target written old → TakesAtMost (build_bound (rows_in origin target)) before after)
        → IfSome old (λ content. TakesAtMost (build_bound (length (row_pairs_in target.table content))) before after)
        → BrokenStatement number (Ok (Prepares plan)) old now schema before after broke
    build_broken old now before after broke leaves sound ended shown lasting within bounded rows = record {
      stopped = λ m s. stopped_at old now m s leaves ended;
      sound = λ m s. at_model (λ o t q. IsUndamaged broke) old m s sound;
      within = within;
      within_own = λ m s. step_within m before after (at_model (λ o t q. TakesAtMost (build_bound (rows_in o t)) before after) old m s bounded);
      kept = stops_damaged old now broke ended;
      left = ended;
      within_rows = rows;
      memory = λ m s. tt;
      reads = λ none. absurd none;
      shown = shown;
      lasting = lasting;
    }

    -- all was made, within the bound of its table's rows
    built_left : (now : Option Content) (count : ℕ) (content : Content) → RanBuild target written (Filled count) content now → StopsBuilding target written content now
    built_left now count content ran =
        let long = ran.0 in
        let few = ran.1 in
        inr (record { absent = ran.2.absent; few = omega (arith, long, few); stops = inr ran.2.ready })

    built_within : (now : Option Content) (before after : Counts) (count : ℕ) (content : Content) → TakesBuild (Filled count) before after → RanBuild target written (Filled count) content now
        → TakesAtMost (build_bound (length (row_pairs_in target.table content))) before after
    built_within now before after count content takes ran =
        let long = ran.0 in
        let few = ran.1 in
        let rows = length (row_pairs_in target.table content) in
        let low : rows ≤ 1000000 = omega (arith, long, few) in
        subst (λ (b : Bound). TakesAtMost b before after) (filled_bound rows low)
        (record { ops = omega (arith, takes.ops_are, ap build_ops long); entries = omega (arith, takes.entries_are, long) })

    -- want of memory behind a build that was made
    pub build_lost : (old now : Option Content) (before after : Counts) (count : ℕ) → count ≤ 1000000
        → ((origin : Origin) → HoldsOrigin origin target written old → Makes origin target written (Filled count) now)
        → TakesBuild (Filled count) before after → IfSome old (λ content. RanBuild target written (Filled count) content now)
        → BrokenStatement number (Ok (Prepares plan)) old now schema before after broke.NoMem
    build_lost old now before after count few makes takes ran = record {
      stopped = λ m s.
          let made = at_model (λ o t q. Makes o t q (Filled count) now) old m s makes in
          inr (subst (λ (x : Step). Opens now x.model) (sym (few_step m made.1)) (settled_opens (makes_next m query new s.settled.valid s.settled.keeps s.settled.few (defined_in old m s) count made)));
      sound = λ m s. tt;
      within = record { count = count; few = few; ops = omega (arith, takes.ops_are); entries = omega (arith, takes.entries_are) };
      within_own = λ m s.
          let made = at_model (λ o t q. Makes o t q (Filled count) now) old m s makes in
          step_within m before after (subst (λ (b : Bound). TakesAtMost b before after) (filled_bound (rows_at m) made.1)
          (record { ops = omega (arith, takes.ops_are, ap build_ops made.0); entries = omega (arith, takes.entries_are, made.0) }));
      kept = sound_kept schema (Ok (Prepares plan)) old now broke.NoMem tt;
      left = of_told old (λ content. RanBuild target written (Filled count) content now) (λ content. StopsBuilding target written content now) (built_left now count) ran;
      within_rows = of_told old (λ content. RanBuild target written (Filled count) content now) (λ content. TakesAtMost (build_bound (length (row_pairs_in target.table content))) before after) (λ content. built_within now before after count content takes) ran;
      memory = λ m s. tt;
      reads = λ none. absurd none;
      shown = sound_shown old schema broke.NoMem tt;
      lasting = sound_shown now schema broke.NoMem tt;
    }

    -- want of memory behind a count of too many rows
    pub too_many_lost : (old now : Option Content) (before after : Counts) → ((origin : Origin) → HoldsOrigin origin target written old → Makes origin target written TooMany now)
        → now ≡ old → TakesBuild TooMany before after → IfSome old (λ content. RanBuild target written TooMany content now)
        → BrokenStatement number (Ok (Prepares plan)) old now schema before after broke.NoMem
    too_many_lost old now before after makes same takes ran =
        broken_kept number (Ok (Prepares plan)) old now schema before after broke.NoMem same (λ m s. tt)
        (record { count = 1000000; few = lit≤ tt; ops = omega (arith, takes.ops_are, one_of_many); entries = omega (arith, takes.entries_are) })
        (λ m s.
        let made = at_model (λ o t q. Makes o t q TooMany now) old m s makes in
        step_within m before after (subst (λ (b : Bound). TakesAtMost b before after) (sym (counted_bound (rows_at m) made.0))
        (record { ops = omega (arith, takes.ops_are); entries = omega (arith, takes.entries_are) })))
        (of_told old (λ content. RanBuild target written TooMany content now) (λ content. TakesAtMost (build_bound (length (row_pairs_in target.table content))) before after)
        (λ content many. subst (λ (b : Bound). TakesAtMost b before after) (sym (counted_bound (length (row_pairs_in target.table content)) many.0)) (record { ops = omega (arith, takes.ops_are); entries = omega (arith, takes.entries_are) })) ran)
        (sound_shown old schema broke.NoMem tt)

-- a clause on an index and a definition, and on what these are
pub moved : {t u : Target} {q r : NewQuery} (Clause : Target → NewQuery → Type 0) → t ≡ u → q ≡ r → Clause t q → Clause u r
moved {t = t} {r = r} Clause same also clause = subst (λ (x : Target). Clause x r) same (subst (λ (y : NewQuery). Clause t y) also clause)
