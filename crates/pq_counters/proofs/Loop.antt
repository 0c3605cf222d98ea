-- What a content stands for is the same after calls that read.
use Rattle.std.proofs.Common.{ℕ, List, ◌∙◌}
use Rattle.pq_schema.specs.Schema.{Schema}
use Rattle.pq_content.specs.Pairs.{Pair}
use Rattle.pq_content.specs.Tables.{Rows}
use Rattle.pq_calls.specs.World.{World, Reads}
use Rattle.pq_tallies.specs.Counters.{HoldsCounted}

-- the content and what it stands for are the same after calls that read
pub counted_later : (a b : World) (o e : ℕ) (schema : Schema) (rows : Rows) (others : List Pair) → Reads a b o e → HoldsCounted a.told schema rows others → HoldsCounted b.told schema rows others
counted_later a b o e schema rows others r h = record { keeps = h.keeps; few = h.few; beside = h.beside; is = r.same ∙ h.is }
