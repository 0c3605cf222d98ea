-- The query that a text's tokens spell over a schema.
use Rattle.std.specs.Prelude.{◌≡◌, ◌⊎◌, ℕ, ◌-◌, List, length, drop, Result, Ok, Err}
use Rattle.pq_base.specs.declared.refusal.Refusal.{Refusal}
use Rattle.pq_base.specs.declared.refusal.Refusal.TheVariants as refusal
use Rattle.pq_base.specs.declared.refusal.Stopped.{Stopped}
use Rattle.pq_base.specs.declared.refusal.Stopped.TheVariants.{Refused, NoMem}
use Rattle.pq_text.specs.declared.token.Token.{Token}
use Rattle.pq_shape.specs.Faults.{offset_at, IsFaultFrom}
use Rattle.pq_shape.specs.Shapes.{shapes_of}
use Rattle.pq_shape.specs.Shape.{Shape}
use Rattle.pq_schema.specs.Schema.{Schema}
use Rattle.pq_schema.specs.declared.query.Query.{Query}
use Rattle.pq_query_read.specs.Grammar.{SpellsSelect}
use Rattle.pq_query_read.specs.Reading.{select_of}
use Rattle.pq_query_read.specs.Resolving.{resolved_select}
use Rattle.pq_query_read.specs.Trying.{◌>>=◌}
use Rattle.pq_query_read.specs.declared.select.SelectDef.{SelectDef}

-- what is read, or the refusal for the place where reading stopped
abbrev pub or_syntax : {A : Type 0} → List ℕ → List Token → Result A ℕ → Result A Refusal
or_syntax text tokens (Ok read) = Ok read
or_syntax text tokens (Err left) = Err (refusal.Syntax (offset_at text tokens (length tokens - left)))

-- the query of this name that the tokens of a text spell from a place on, or the first refusal
unfoldable pub read_query_of : Schema → List ℕ → List ℕ → List Token → ℕ → Result Query Refusal
read_query_of schema name text tokens from =
    or_syntax text tokens (select_of text tokens from) >>= resolved_select schema name

-- the tokens spell what stands for the query
pub record IsQueryOf (schema : Schema) (name : List ℕ) (shapes : List Shape) (query : Query) : Type 0 where
  pub def : SelectDef
  pub spelled : SpellsSelect def shapes
  pub stands : resolved_select schema name def ≡ Ok query

-- the tokens spell what this refuses first
pub record IsRefusedQuery (schema : Schema) (name : List ℕ) (shapes : List Shape) (why : Refusal) : Type 0 where
  pub def : SelectDef
  pub spelled : SpellsSelect def shapes
  pub refused : resolved_select schema name def ≡ Err why

-- memory ran out, or the tokens spell a query that this refuses first, or none, and this is the place of the fault
abbrev pub IsQueryRefusal : Schema → List ℕ → List ℕ → List Token → ℕ → Stopped → Type 0
IsQueryRefusal schema name text tokens from NoMem = Unit {0}
IsQueryRefusal schema name text tokens from (Refused why) =
    IsRefusedQuery schema name (drop from (shapes_of text tokens)) why
    ⊎ IsFaultFrom SpellsSelect text tokens from (Refused why)
