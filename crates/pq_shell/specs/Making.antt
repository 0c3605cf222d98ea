-- One item, made over the store or for a check without it.
use Rattle.std.specs.Prelude.{◌≡◌, ℕ, Option, List, [], ◌∷◌}
use Rattle.pq_fill.specs.declared.words.Form.{Form}
use Rattle.pq_fill.specs.declared.words.Form.TheVariants.{Run, Check, Fill}
use Rattle.pq_schema.specs.Schema.{Schema}
use Rattle.pq_store.specs.Content.{Content}
use Rattle.pq_store.specs.Counts.{Counts}
use Rattle.pq_print.specs.declared.report.Report.{Report}
use Rattle.pq_reports.specs.Matches.{Matches}
use Rattle.pq_catalog.specs.Model.{Model}
use Rattle.pq_shell.specs.Fold.{Moment, IsReport, IsStill, PassesItem, RisesBy, StoppedItem, schema_behind}
use Rattle.pq_shell.specs.Forms.{item_step, HasOpening, StandsIn}
use Rattle.pq_shell.specs.Items.{Item}
use Rattle.pq_console.specs.declared.stop.Stop.{Stop}

-- the script is read from a source, and each report is written
abbrev pub ReadsSource : Form → Type 0
ReadsSource Run = Unit {0}
ReadsSource Check = Unit {0}
ReadsSource (Fill n) = ⊥

-- the item was made, and this is its report
pub record MakesItem (form : Form) (item : Item) (number : ℕ) (schema next : Schema) (old now : Option Content)
    (before after : Counts) (report : Report) : Type 0 where
  pub is : IsReport schema number item report
  pub next_is : next ≡ schema_behind schema item report
  pub matches : (m : Model) → StandsIn form old schema m → Matches (item_step form m number item).report report
  pub stands : (m : Model) → StandsIn form old schema m → StandsIn form now next (item_step form m number item).model
  pub rises : RisesBy (report ∷ []) before after
  pub still : IsStill schema item report → now ≡ old
  pub passes : HasOpening form → PassesItem schema item report old now
  pub unopened : (HasOpening form → ⊥) → (now ≡ old) × (after ≡ before)

abbrev pub moment : Option Content → Option (List ℕ) → Counts → Moment
moment content held counts = record { content = content; held = held; counts = counts }

-- the run stopped at this item, whatever the sink holds, which was not written to
abbrev pub BreaksAt : (List ℕ → Option (List ℕ) → Type 0) → Form → Stop → Item → ℕ → Schema → Option Content
    → Option Content → Counts → Counts → Type 0
BreaksAt answers form stop item number schema old now before after =
    (held : Option (List ℕ)) → StoppedItem answers form stop schema (moment old held before) (moment now held after)
    number (item ∷ [])
