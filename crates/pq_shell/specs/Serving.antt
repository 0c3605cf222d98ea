-- A part of a script that was fed to the splitter, and what was made of its pieces.
use Rattle.std.specs.Prelude.{◌≡◌, ℕ, ◌+◌, ◌≤◌, ◌||◌, Bool, true, false, Option, List, [], ◌++◌, length, Result, IfOk, OnErr}
use Rattle.std.specs.Io.KnownBytes.{append_known, prepend_known}
use Rattle.pq_base.specs.declared.refusal.Refusal.TheVariants.{Unfinished}
use Rattle.pq_builds.specs.Bounds.{bound}
use Rattle.pq_fill.specs.declared.words.Form.{Form}
use Rattle.pq_schema.specs.Schema.{Schema}
use Rattle.pq_text.specs.declared.piece.Piece.{Piece}
use Rattle.pq_text.specs.Summaries.{Summary, pieces_from, unfinished_from}
use Rattle.pq_print.specs.Report.{printed_report}
use Rattle.pq_print.specs.declared.report.Report.{Report}
use Rattle.pq_reports.specs.Step.{refusal_report}
use Rattle.pq_shell.specs.Fold.{Moment, ServedItems, StoppedItem}
use Rattle.pq_shell.specs.Items.{cut_items}
use Rattle.pq_console.specs.Reading.{TookBytes, CountsBytes, script_limit}
use Rattle.pq_console.specs.declared.outside.Source.{Ghosts}
use Rattle.pq_store.specs.Content.{HasRisen}
use Rattle.pq_console.specs.Stops.{CutsOff}
use Rattle.pq_console.specs.declared.reading.Ending.{Ending}
use Rattle.pq_console.specs.declared.reading.Ending.TheVariants.{Whole, Faulted, TooLong}
use Rattle.pq_shell.specs.declared.serving.Ended.{Ended}
use Rattle.pq_shell.specs.declared.serving.Progress.{Progress}
use Rattle.pq_console.specs.declared.stop.Stop.{Stop}

-- between these states a splitter tells these pieces of these bytes, whatever comes next
pub record FedPieces (from : Summary) (bytes : List ℕ) (told : List Piece) (to : Summary) : Type 0 where
  pub pieces : (more : List ℕ) → pieces_from from (bytes ++ more) ≡ told ++ pieces_from to more
  pub rest : (more : List ℕ) → unfinished_from from (bytes ++ more) ≡ unfinished_from to more

-- these bytes were fed, and their pieces were made and numbered on
pub record ProgressedRun (form : Form) (first last : Schema) (from to : Moment) (bytes : List ℕ)
    (old now : Progress) : Type 0 where
  pub told : List Piece
  pub fed : FedPieces old.splitter bytes told now.splitter
  pub served : ServedItems form first last from to (old.tally.count + 1) (cut_items told) old.tally.refused
      now.tally.refused
  pub counted : now.tally.count ≡ old.tally.count + length told
  pub few : now.tally.count ≤ old.tally.count + length bytes

-- the source was read so far, and all of it was fed
pub record ConsumedSource (form : Form) (ending : Ending) (left left_now : Option (List ℕ)) (first last : Schema)
    (from to : Moment) (old now : Progress) : Type 0 where
  pub bytes : List ℕ
  pub took : TookBytes ending left left_now bytes
  pub progressed : ProgressedRun form first last from to bytes old now

-- the run stopped among the pieces of the part that was read last
pub record StoppedAmong (answers : List ℕ → Option (List ℕ) → Type 0) (form : Form) (stop : Stop)
    (left left_now : Option (List ℕ)) (first : Schema) (from now : Moment) (old : Progress) : Type 0 where
  pub early : List ℕ
  pub late : List ℕ
  pub took : TookBytes Faulted left left_now (early ++ late)
  pub few : length late ≤ 4096
  pub stopped : StoppedItem answers form stop first from now (old.tally.count + 1)
      (cut_items (pieces_from old.splitter (early ++ late)))
  pub reported : length (pieces_from old.splitter early) ≤ length stopped.done

-- the rest is unfinished, and the script was read to its end
abbrev pub has_rest : Ending → Summary → Bool
has_rest Whole splitter = unfinished_from splitter []
has_rest Faulted splitter = false
has_rest TooLong splitter = false

-- the report of an unfinished rest
abbrev pub rest_report : ℕ → Report
rest_report number = refusal_report number Unfinished (bound 0 0)

-- what is written of the rest
abbrev pub rest_text : Bool → ℕ → List ℕ
rest_text true number = printed_report (rest_report number)
rest_text false number = []

-- the rest is reported, where there is one
pub record ReportsRest (ending : Ending) (progress : Progress) (ended : Ended) (held held_now : Option (List ℕ))
    : Type 0 where
  pub ending_is : ended.ending ≡ ending
  pub refused_is : ended.refused ≡ (progress.tally.refused || has_rest ending progress.splitter)
  pub text : held_now ≡ append_known held (rest_text (has_rest ending progress.splitter) (progress.tally.count + 1))

-- the run stopped at the report of the rest
pub record StoppedAtRest (stop : Stop) (ending : Ending) (progress : Progress) (held held_now : Option (List ℕ))
    : Type 0 where
  pub some_rest : has_rest ending progress.splitter ≡ true
  pub cut : CutsOff stop (printed_report (rest_report (progress.tally.count + 1))) held held_now

-- what a run takes of its source: as many bytes as a script may have, and one more where it is too long for one
pub record TakesScript {I : Type 0} (s : Ghosts I) (before after : I) {A : Type 0} (ending_of : A → Ending)
    (result : Result A Stop) : Type 0 where
  pub taken : (bytes : List ℕ) × (s.left before ≡ prepend_known bytes (s.left after)) × (length bytes ≤ script_limit + 1)
  pub counted : IfOk result (λ x. CountsBytes (ending_of x) (s.count before) (s.count after))
  pub stopped : OnErr result (s.count after ≤ s.count before + script_limit)
  pub later : s.faults before ≤ s.faults after
  pub read_fault : IfOk result (λ x. ending_of x ≡ Faulted → HasRisen (s.faults before) (s.faults after))
