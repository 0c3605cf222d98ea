-- The three forms of a run: the step of an item, what is written of its report, what a run begins with and
-- what then stands.
use Rattle.std.specs.Prelude.{◌≡◌, ℕ, List, [], map, Option, Result, Err}
use Rattle.pq_base.specs.declared.refusal.Refusal.{Refusal}
use Rattle.pq_base.specs.declared.refusal.Refusal.TheVariants.{Unfinished}
use Rattle.pq_fill.specs.Script.{fill_script}
use Rattle.pq_fill.specs.Summary.{summary_of, summary_text}
use Rattle.pq_fill.specs.declared.words.Form.{Form}
use Rattle.pq_fill.specs.declared.words.Form.TheVariants.{Run, Check, Fill}
use Rattle.pq_print.specs.Report.{printed_report, opening_line}
use Rattle.pq_print.specs.declared.report.Opened.{Opened}
use Rattle.pq_print.specs.declared.report.Report.{Report}
use Rattle.pq_schema.specs.Schema.{Schema, empty_schema}
use Rattle.pq_statement.specs.Actions.{Action, action_of}
use Rattle.pq_check.specs.Checks.{check_step, without_rows}
use Rattle.pq_opening.specs.Opening.{IsOpening}
use Rattle.pq_catalog.specs.Model.{Model}
use Rattle.pq_catalog.specs.Stands.{Opens, Stands}
use Rattle.pq_reports.specs.Step.{Step, refused_unread, step}
use Rattle.pq_store.specs.Content.{Content}
use Rattle.pq_text.specs.declared.piece.Piece.TheVariants as piece
use Rattle.pq_shell.specs.Items.{Item, Cut, Rest, cut_items, items_of}
use Rattle.pq_console.specs.Reading.{TookBytes}
use Rattle.pq_console.specs.declared.reading.Ending.{Ending}
use Rattle.pq_console.specs.declared.reading.Ending.TheVariants.{Whole}

-- ---- the step of an item

-- over the rows of a store
abbrev pub run_step : Model → ℕ → Item → Step
run_step m number (Cut piece) = step m number piece
run_step m number Rest = refused_unread m number Unfinished

-- over none
abbrev pub checked_step : Model → ℕ → Item → Step
checked_step m number (Cut piece) = check_step m number piece
checked_step m number Rest = refused_unread (without_rows m.schema) number Unfinished

abbrev pub item_step : Form → Model → ℕ → Item → Step
item_step Run m number item = run_step m number item
item_step Check m number item = checked_step m number item
item_step (Fill n) m number item = run_step m number item

-- what it asks for, as far as the definitions decide it
abbrev pub asked_item : Schema → Item → Result Action Refusal
asked_item schema (Cut piece) = action_of schema piece
asked_item schema Rest = Err Unfinished

-- ---- which items there are

-- the statements of the generated script
abbrev pub fill_items : ℕ → List Item
fill_items n = cut_items (map piece.Statement (fill_script n))

-- those of the bytes that the source gave; or those of the generated script, for which nothing is read
abbrev pub HasItems : Form → Ending → Option (List ℕ) → Option (List ℕ) → List Item → Type 0
HasItems Run ending left left_now items = (bytes : List ℕ) × TookBytes ending left left_now bytes
    × (items ≡ items_of ending bytes)
HasItems Check ending left left_now items = (bytes : List ℕ) × TookBytes ending left left_now bytes
    × (items ≡ items_of ending bytes)
HasItems (Fill n) ending left left_now items = (ending ≡ Whole) × (left_now ≡ left) × (items ≡ fill_items n)

-- ---- what is written

-- of the opening
abbrev pub front : Form → Opened → List ℕ
front Run opened = opening_line opened
front Check opened = []
front (Fill n) opened = opening_line opened

-- of a report as it is made
abbrev pub shown_report : Form → Report → List ℕ
shown_report Run report = printed_report report
shown_report Check report = printed_report report
shown_report (Fill n) report = []

-- behind the last report
abbrev pub close : Form → Opened → List Report → List ℕ
close Run opened reports = []
close Check opened reports = []
close (Fill n) opened reports = summary_text n (summary_of n opened reports)

-- ---- what stands

-- a check opens no store
abbrev pub HasOpening : Form → Type 0
HasOpening Run = Unit {0}
HasOpening Check = ⊥
HasOpening (Fill n) = Unit {0}

-- the models that a run may start from: those that the store opens to; or for a check the one without definitions
abbrev pub Starts : Form → Option Content → Model → Type 0
Starts Run content m = Opens content m
Starts Check content m = m ≡ without_rows empty_schema
Starts (Fill n) content m = Opens content m

abbrev pub IsOpened : Form → Option Content → Model → Opened → Type 0
IsOpened Run content m opened = IsOpening content m opened
IsOpened Check content m opened = Unit {0}
IsOpened (Fill n) content m opened = IsOpening content m opened

-- these definitions are known, and this stands; for a check that is just the definitions
abbrev pub StandsIn : Form → Option Content → Schema → Model → Type 0
StandsIn Run content schema m = Stands content schema m
StandsIn Check content schema m = m ≡ without_rows schema
StandsIn (Fill n) content schema m = Stands content schema m

-- what it opens to where a run stops
abbrev pub OpensAt : Form → Option Content → Model → Type 0
OpensAt Run content m = Opens content m
OpensAt Check content m = Unit {0}
OpensAt (Fill n) content m = Opens content m
