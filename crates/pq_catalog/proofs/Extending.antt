-- A catalog stays valid with its plans, whether a definition is made or refused.
use Rattle.std.proofs.Common.{◌≡◌, ◌∙◌, ℕ, List, Option, None, Some, sym, ap, subst}
use Rattle.std.specs.Prelude.{Result, Ok, Err, IfOk, OnErr}
use Rattle.pq_base.specs.declared.refusal.Refusal.{Refusal}
use Rattle.pq_base.specs.declared.refusal.Stopped.{Stopped}
use Rattle.pq_base.specs.declared.refusal.Stopped.TheVariants.{Refused, NoMem}
use Rattle.pq_plan.specs.declared.physical.Physical.{Physical}
use Rattle.pq_schema.specs.Definitions.{AddsTable, AddsColumn, AddsCounter, AddsQuery}
use Rattle.pq_schema.specs.Names.{IsAlterDef, IsCounterDef, IsName, IsTableDef}
use Rattle.pq_schema.specs.Resolved.{IsResolved}
use Rattle.pq_schema.specs.Schema.{Schema}
use Rattle.pq_schema.specs.Valid.{IsDefined, IsValid}
use Rattle.pq_schema.specs.Valid.IsValid.{then_column, then_counter, then_query, then_table}
use Rattle.pq_schema.specs.Wanted.{IsWanted}
use Rattle.pq_schema.specs.declared.definition.AlterDef.{AlterDef}
use Rattle.pq_schema.specs.declared.definition.CounterDef.{CounterDef}
use Rattle.pq_schema.specs.declared.definition.TableDef.{TableDef}
use Rattle.pq_schema.specs.declared.query.Query.{Query}
use Rattle.pq_schema.specs.declared.table.NewIndex.{NewIndex}
use Rattle.pq_schema.proofs.Valid.{column_parts}
use Rattle.pq_catalog.specs.Kept.{ArePlans, IsPlanWanting, KeepsPlan}
use Rattle.pq_catalog.proofs.Kept.{column_kept, counter_kept, query_kept, table_kept}

module _ (s next : Schema) (plans kept : List (Option Physical)) (made : Result ℕ Refusal) (valid : IsValid s) (are : ArePlans s plans) where
  pub table_extended : (def : TableDef) (added : Result ℕ Stopped) → IsTableDef def
      → IfOk added (AddsTable s def next) → OnErr added (next ≡ s) → KeepsPlan plans None added made kept → IsValid next × ArePlans next kept
  table_extended def (Ok number) is adds same keeps = (
    subst IsValid (sym adds.added) (then_table s def adds.table valid is adds.made),
    rw (adds.added, keeps.1) (table_kept s plans adds.table valid are),
  )
  table_extended def (Err (Refused why)) is adds same keeps = rw (same, keeps.1) (valid, are)
  table_extended def (Err NoMem) is adds same keeps = absurd keeps

  pub column_extended : (def : AlterDef) (added : Result ℕ Stopped) → IsAlterDef def
      → IfOk added (AddsColumn s def next) → OnErr added (next ≡ s) → KeepsPlan plans None added made kept → IsValid next × ArePlans next kept
  column_extended def (Ok number) is adds same keeps = (
    then_column s def _ valid (record { names = is; fits = adds.fits; accepted = adds.made }),
    rw (adds.added, keeps.1) (column_kept s plans def valid are (column_parts s def _ adds.made).0),
  )
  column_extended def (Err (Refused why)) is adds same keeps = rw (same, keeps.1) (valid, are)
  column_extended def (Err NoMem) is adds same keeps = absurd keeps

  pub counter_extended : (def : CounterDef) (added : Result ℕ Stopped) → IsCounterDef def
      → IfOk added (AddsCounter s def next) → OnErr added (next ≡ s) → KeepsPlan plans None added made kept → IsValid next × ArePlans next kept
  counter_extended def (Ok number) is adds same keeps = (
    then_counter s def _ valid (record { names = is; accepted = adds.made }),
    rw (adds.added, keeps.1) (counter_kept s plans def valid are),
  )
  counter_extended def (Err (Refused why)) is adds same keeps = rw (same, keeps.1) (valid, are)
  counter_extended def (Err NoMem) is adds same keeps = absurd keeps

  pub query_extended : (query : Query) (plan : Physical) (wanted : Option NewIndex) (added : Result ℕ Stopped)
      → IsName query.name → IsResolved s.tables query → IsWanted s.tables query wanted → IsPlanWanting s.tables query plan wanted
      → IfOk added (AddsQuery s query wanted next) → OnErr added (next ≡ s) → KeepsPlan plans (Some plan) added made kept → IsValid next × ArePlans next kept
  query_extended query plan wanted (Ok number) name resolved chosen wanting adds same keeps =
      let defined : IsDefined s query wanted = record { name = name; resolved = resolved; chosen = chosen; accepted = adds.made ∙ ap Ok adds.added } in (
        subst IsValid (sym adds.added) (then_query s query wanted valid defined),
        rw (adds.added, keeps.1) (query_kept s plans query plan wanted valid are defined wanting),
      )
  query_extended query plan wanted (Err (Refused why)) name resolved chosen wanting adds same keeps = rw (same, keeps.1) (valid, are)
  query_extended query plan wanted (Err NoMem) name resolved chosen wanting adds same keeps = absurd keeps
