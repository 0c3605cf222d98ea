-- The text of a report: its lines, and then its end line. Every line ends with a line feed.
use Rattle.std.specs.Prelude.{ℕ, ◌/◌, ◌%◌, Bool, true, false, List, [], ◌∷◌, ◌++◌, flat_map, codes, decimal, Option, Some, None}
use Rattle.std.specs.Char.{digit_char}
use Rattle.pq_base.specs.declared.number.Bound.{Bound}
use Rattle.pq_base.specs.declared.number.Used.{Used}
use Rattle.pq_base.specs.declared.number.Choice.{Choice}
use Rattle.pq_base.specs.declared.number.Choice.TheVariants as choice
use Rattle.pq_base.specs.declared.value.Dir.{Dir}
use Rattle.pq_base.specs.declared.value.Dir.TheVariants.{Asc, Desc}
use Rattle.pq_print.specs.declared.report.IndexCol.{IndexCol}
use Rattle.pq_print.specs.declared.report.Line.{Line}
use Rattle.pq_print.specs.declared.report.Line.TheVariants as line
use Rattle.pq_print.specs.declared.report.End.{End}
use Rattle.pq_print.specs.declared.report.End.TheVariants as end
use Rattle.pq_print.specs.declared.report.Report.{Report}
use Rattle.pq_print.specs.declared.report.Opened.{Opened}
use Rattle.pq_print.specs.Lists.{separate_texts}
use Rattle.pq_print.specs.Values.{row_text}
use Rattle.pq_print.specs.Refusals.{refusal_text, in_batch_text}

abbrev pub bound_text : Bound → List ℕ
bound_text bound = codes " bound " ++ decimal bound.ops ++ codes " " ++ decimal bound.entries

abbrev pub used_text : Used → List ℕ
used_text used = codes " used " ++ decimal used.ops ++ codes " " ++ decimal used.entries

abbrev pub choice_text : Choice → List ℕ
choice_text choice.Whole = codes " whole"
choice_text (choice.Stop relation) = codes " stop " ++ decimal relation

-- a descending column says so
abbrev pub dir_text : Dir → List ℕ
dir_text Asc = []
dir_text Desc = codes " DESC"

abbrev pub index_col_text : IndexCol → List ℕ
index_col_text col = col.name ++ dir_text col.dir

abbrev pub line_text : Line → List ℕ
line_text (line.Row row) = row_text row
line_text (line.Query name chosen bound) = codes "query " ++ name ++ choice_text chosen ++ bound_text bound
line_text (line.Index table number cols) =
    codes "index " ++ table ++ codes " " ++ decimal number ++ codes " ("
    ++ separate_texts (codes ", ") index_col_text cols ++ codes ")"
line_text (line.Def number text) = codes "def " ++ decimal number ++ codes " " ++ text

-- the cursor of the next page
abbrev pub next_text : Option (List ℕ) → List ℕ
next_text None = []
next_text (Some cursor) = codes " next " ++ cursor

abbrev pub end_text : End → List ℕ
end_text end.Done = codes " ok"
end_text (end.Rows count next) = codes " ok rows " ++ decimal count ++ next_text next
end_text (end.Refused why) = codes " refused " ++ refusal_text why
end_text (end.InBatch place cause) = codes " refused " ++ in_batch_text place cause

-- a line of this text
abbrev pub line_of : List ℕ → List ℕ
line_of text = text ++ codes "\n"

abbrev pub end_line : Report → List ℕ
end_line report = line_of (decimal report.number ++ end_text report.end ++ bound_text report.bound
    ++ used_text report.used)

-- the text of a report
unfoldable pub printed_report : Report → List ℕ
printed_report report = flat_map (λ l. line_of (line_text l)) report.lines ++ end_line report

-- the line of an opening
unfoldable pub opening_line : Opened → List ℕ
opening_line opened = line_of (codes "open defs " ++ decimal opened.defs ++ bound_text opened.bound
    ++ used_text opened.used)

-- two digits in small letters
abbrev pub hex : ℕ → List ℕ
hex byte = digit_char (byte / 16) ∷ digit_char (byte % 16) ∷ []

-- the line that names the key where damage was found
unfoldable pub damage_line : List ℕ → List ℕ
damage_line key = line_of (codes "damaged " ++ flat_map hex key)

abbrev pub is_refused : End → Bool
is_refused end.Done = false
is_refused (end.Rows count next) = false
is_refused (end.Refused why) = true
is_refused (end.InBatch place cause) = true

abbrev pub is_refusal : Report → Bool
is_refusal report = is_refused report.end
