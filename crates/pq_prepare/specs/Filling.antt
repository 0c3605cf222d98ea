-- An index that a query wants, filled or refused.
use Rattle.std.specs.Prelude.{◌≡◌, ℕ, Option, Result, Ok, Err, IfErr, IfSome}
use Rattle.pq_base.specs.declared.refusal.Refusal.{Refusal}
use Rattle.pq_base.specs.declared.refusal.Refusal.TheVariants as refusal
use Rattle.pq_builds.specs.declared.build.Built.{Built}
use Rattle.pq_builds.specs.declared.build.Built.TheVariants.{Rows, TooMany}
use Rattle.pq_builds.specs.Stages.{IsFew, RanBuild, TakesBuild}
use Rattle.pq_builds.specs.Standing.{Origin, HoldsOrigin, Makes}
use Rattle.pq_reports.specs.Making.{wanted_target}
use Rattle.pq_schema.specs.Schema.{Schema}
use Rattle.pq_schema.specs.Tables.{table_at}
use Rattle.pq_schema.specs.declared.query.Query.{Query}
use Rattle.pq_schema.specs.declared.table.NewIndex.{NewIndex}
use Rattle.pq_store.specs.Content.{Content}
use Rattle.pq_store.specs.Counts.{Counts}
use Rattle.pq_catalog.specs.Stands.{new_query_of}

-- over so many rows, or over too many
abbrev pub built_as : Result ℕ Refusal → Built
built_as (Ok count) = Rows count
built_as (Err why) = TooMany

-- the definition is written and its index filled; or it is refused, and nothing is changed
pub record FillsIndex (schema : Schema) (query : Query) (new : NewIndex) (old now : Option Content)
    (before after : Counts) (filled : Result ℕ Refusal) : Type 0 where
  pub made : (origin : Origin) → HoldsOrigin origin (wanted_target schema new) (new_query_of schema query) old
      → Makes origin (wanted_target schema new) (new_query_of schema query) (built_as filled) now
  pub ran : IfSome old (λ content. RanBuild (wanted_target schema new) (new_query_of schema query) (built_as filled)
      content now)
  pub few : IsFew (built_as filled)
  pub takes : TakesBuild (built_as filled) before after
  pub refused : IfErr filled (λ why. (why ≡ refusal.TooManyRows (table_at schema.tables new.table).name) × (now ≡ old))
