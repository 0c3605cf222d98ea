-- The canonical text of a column that was added to a valid schema is read back.
use Rattle.std.proofs.Common.{◌≡◌, ℕ, suc, ◌+◌, ◌-◌, List, [], ◌∷◌, ◌++◌, length, get_or, Option, Some, None, refl, sym, ap, subst, ◌∙◌, arith}
use Rattle.std.specs.Prelude.{unwrap_or}
use Rattle.std.proofs.Math.Seq.{get_or-append_seam}
use Rattle.std.proofs.lemmas.List.{get_or-set_same}
use Rattle.pq_base.specs.declared.value.Value.{Value}
use Rattle.pq_base.specs.declared.value.Value.TheVariants as value
use Rattle.pq_schema.specs.declared.definition.AlterDef.{AlterDef}
use Rattle.pq_schema.specs.declared.made.Definition.{Definition}
use Rattle.pq_schema.specs.declared.made.Definition.TheVariants.{OfColumn}
use Rattle.pq_schema.specs.declared.table.Column.{Column}
use Rattle.pq_schema.specs.declared.table.Table.{Table}
use Rattle.pq_schema.specs.Definitions.{column_of, column_refusal, altered_table, altered_schema}
use Rattle.pq_schema.specs.Schema.{Schema, no_definition, with_new_column}
use Rattle.pq_schema.specs.Sound.{AreDefaults}
use Rattle.pq_schema.specs.Tables.{no_table, table_at}
use Rattle.pq_schema.specs.Valid.{IsValid, IsAddition}
use Rattle.pq_schema.proofs.Valid.{TakesColumn, column_parts, column_takes, valid_made}
use Rattle.pq_print.specs.Canonical.{absent_column, column_at, filler_at, added_text, text_of, definition_text}
use Rattle.pq_reread.specs.ReadBack.{IsAddedText, IsAddedLater}
use Rattle.pq_reread.specs.Said.{SaysAdded}
use Rattle.pq_reread.proofs.Added.{added_back, added_later}
use Rattle.pq_reread.proofs.Additions.{accepted_column}

-- as many defaults as columns
filled_length : (columns : List Column) (fillers : List (Option Value)) → AreDefaults columns fillers → length fillers ≡ length columns
filled_length [] [] are = refl
filled_length [] (f ∷ fs) are = absurd are
filled_length (c ∷ cs) [] are = absurd are
filled_length (c ∷ cs) (f ∷ fs) are = ap suc (filled_length cs fs are.1)

module _ (schema : Schema) (def : AlterDef) (next : Schema) (valid : IsValid schema) (is : IsAddition schema def next) where
  abbrev number : ℕ
  number = altered_table schema def

  abbrev before : Table
  before = table_at schema.tables number

  abbrev widened : Table
  widened = with_new_column before (column_of def.column) def.filler

  abbrev place : ℕ
  place = length before.columns

  parts : (column_refusal schema def ≡ None) × (altered_schema schema def ≡ next)
  parts = column_parts schema def next is.accepted

  takes : TakesColumn schema.tables number (column_of def.column)
  takes = column_takes schema def parts.0

  table_is : table_at next.tables number ≡ widened
  table_is =
      let low = takes.from_one in
      let high = takes.there in
      ap (λ (s : Schema). table_at s.tables number) (sym parts.1) ∙ get_or-set_same schema.tables (number - 1) widened no_table (omega (arith, low, high))

  column_is : column_at widened.columns place ≡ column_of def.column
  column_is = get_or-append_seam before.columns (column_of def.column) [] absent_column

  filler_is : filler_at widened.fillers place ≡ def.filler
  filler_is =
      let as_many = filled_length before.columns before.fillers (valid_made valid number takes.from_one takes.there).fillers in
      ap (filler_at widened.fillers) (sym as_many) ∙ ap (λ (o : Option Value). unwrap_or o value.Null) (get_or-append_seam before.fillers (Some def.filler) [] None)

  widened_says : SaysAdded def widened place
  widened_says =
      let known = accepted_column schema def parts.0 in
      record {
        name = known.named;
        column = record { typed = known.typed; column = column_is };
        filler = filler_is;
        fits = is.fits;
      }

  -- the column that the definition adds says what the definition says
  pub addition_says : SaysAdded def (table_at next.tables (altered_table schema def)) (length (table_at schema.tables (altered_table schema def)).columns)
  addition_says = subst (λ (t : Table). SaysAdded def t place) (sym table_is) widened_says

  pub addition_later : IsAddedLater def (table_at next.tables (altered_table schema def)) (length (table_at schema.tables (altered_table schema def)).columns)
  addition_later = added_later def (table_at next.tables number) place is.names addition_says

  last_text : definition_text next (length schema.definitions + 1) ≡ added_text (table_at next.tables number) place
  unfolding definition_text
  last_text =
      let at : length schema.definitions + 1 - 1 ≡ length schema.definitions = omega arith in
      let last : Definition = OfColumn number place in
      ap (λ (s : Schema). text_of next.tables (get_or s.definitions (length schema.definitions + 1 - 1) no_definition)) (sym parts.1)
      ∙ ap (λ n. text_of next.tables (get_or (schema.definitions ++ last ∷ []) n no_definition)) at
      ∙ ap (text_of next.tables) (get_or-append_seam schema.definitions last [] no_definition)

  -- the text of the definition that comes last
  pub addition_back : IsAddedText def (definition_text next (length schema.definitions + 1))
  addition_back = subst (IsAddedText def) (sym last_text) (added_back def (table_at next.tables number) place is.names addition_says)
