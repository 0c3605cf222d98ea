-- The canonical text of an added column is read as its definition.
use Rattle.std.proofs.Common.{◌≡◌, ℕ, ◌+◌, ◌≤◌, List, ◌++◌, length, refl, sym, subst, ◌∙◌, arith, append_assoc, length-append}
use Rattle.std.specs.Prelude.{codes}
use Rattle.pq_base.specs.Values.{IsValue, room_of}
use Rattle.pq_base.specs.declared.value.ColType.{ColType}
use Rattle.pq_base.specs.declared.value.ColType.TheVariants as type
use Rattle.pq_base.specs.declared.value.Value.{Value}
use Rattle.pq_base.specs.declared.value.Value.TheVariants as value
use Rattle.pq_base.proofs.TypeFits.{value_from_fit}
use Rattle.pq_schema.specs.declared.definition.AlterDef.{AlterDef}
use Rattle.pq_schema.specs.declared.table.Column.{Column}
use Rattle.pq_schema.specs.declared.table.Table.{Table}
use Rattle.pq_schema.specs.Definitions.{column_of}
use Rattle.pq_schema.specs.Names.{IsAlterDef}
use Rattle.pq_schema.specs.Sound.{IsSized}
use Rattle.pq_schema.proofs.Accepted.{sized_column}
use Rattle.pq_text.specs.Bytes.{is_word_byte}
use Rattle.pq_text.specs.Tokens.{tokens_of}
use Rattle.pq_shape.specs.Parts.{a_value}
use Rattle.pq_shape.specs.declared.keyword.TheConstants.{TABLE}
use Rattle.pq_def_read.specs.Grammar.{alter}
use Rattle.pq_def_read.specs.declared.statement.Statement.TheVariants.{Alter}
use Rattle.pq_print.specs.Canonical.{column_at, column_text, added_text}
use Rattle.pq_print.specs.Values.{value_text}
use Rattle.pq_query_read.proofs.Names.{name_short}
use Rattle.pq_reread.specs.Printed.{joins_none}
use Rattle.pq_reread.specs.ReadBack.{IsAddedText, IsAddedLater}
use Rattle.pq_reread.specs.Said.{SaysColumn, SaysAdded}
use Rattle.pq_reread.proofs.Keywords.{add_prints, alter_prints, column_prints as column_word_prints, default_prints, keyword_prints, null_prints}
use Rattle.pq_reread.proofs.Lengths.{column_short}
use Rattle.pq_reread.proofs.Named.{statement_spelled}
use Rattle.pq_reread.proofs.Prints.{Prints, join, space, mark_prints, whole, whole_utf8}
use Rattle.pq_reread.proofs.QueryLengths.{value_short}
use Rattle.pq_reread.proofs.SelectPrints.{joins_value, word_end, value_prints}
use Rattle.pq_reread.proofs.Tables.{name_prints, column_prints}

-- ---- what spells the definition

filler_prints : (v : Value) → IsValue v → Prints (a_value v) joins_none (value_text v) joins_value
filler_prints value.Null is = word_end null_prints
filler_prints (value.Int z) is = value_prints (value.Int z) is refl
filler_prints (value.Bool b) is = value_prints (value.Bool b) is refl
filler_prints (value.Text t) is = value_prints (value.Text t) is refl

added_row : (name column filler : List ℕ)
    → (((((codes "ALTER TABLE " ++ name) ++ codes " ADD COLUMN ") ++ column) ++ codes " DEFAULT ") ++ filler) ++ codes ";" ≡ codes "ALTER TABLE " ++ (name ++ (codes " ADD COLUMN " ++ (column ++ (codes " DEFAULT " ++ (filler ++ codes ";")))))
added_row name column filler = simp append_assoc

-- the definition's own words in the text
said_prints : (def : AlterDef) (column : Column) → IsAlterDef def → SaysColumn def.column column → IsValue def.filler
    → Prints (alter def) joins_none ((((((codes "ALTER TABLE " ++ def.table) ++ codes " ADD COLUMN ") ++ column_text column) ++ codes " DEFAULT ") ++ value_text def.filler) ++ codes ";") joins_none
said_prints def column is says known =
    subst (λ (v : List ℕ). Prints (alter def) joins_none v joins_none) (sym (added_row def.table (column_text column) (value_text def.filler)))
    (join alter_prints
    (space is_word_byte refl (join (keyword_prints TABLE refl)
    (space is_word_byte refl (join (name_prints def.table is.table)
    (space is_word_byte refl (join add_prints
    (space is_word_byte refl (join column_word_prints
    (space is_word_byte refl (join (column_prints def.column column is.column says)
    (space is_word_byte refl (join default_prints
    (space is_word_byte refl (join (filler_prints def.filler known) (mark_prints 59 joins_value refl refl))))))))))))))))

-- ---- its length

sized_room : (t : ColType) → IsSized t → room_of t ≤ 1000
sized_room type.Int is = omega arith
sized_room type.Bool is = omega arith
sized_room (type.Text n) is = omega (arith, is.1)
sized_room type.NullInt is = omega arith
sized_room type.NullBool is = omega arith
sized_room (type.NullText n) is = omega (arith, is.1)

row_short : (name column filler : List ℕ) → length name ≤ 32 → 2 + length column ≤ 66 → length filler ≤ 2002
    → length ((((((codes "ALTER TABLE " ++ name) ++ codes " ADD COLUMN ") ++ column) ++ codes " DEFAULT ") ++ filler) ++ codes ";") ≤ 1048576
row_short name column filler few less least =
    let a = codes "ALTER TABLE " ++ name in
    let b = a ++ codes " ADD COLUMN " in
    let c = b ++ column in
    let d = c ++ codes " DEFAULT " in
    omega (
      arith,
      few,
      less,
      least,
      length-append (d ++ filler) (codes ";"),
      length-append d filler,
      length-append c (codes " DEFAULT "),
      length-append b column,
      length-append a (codes " ADD COLUMN "),
      length-append (codes "ALTER TABLE ") name,
    )

-- ---- the text of a column

text_is : (def : AlterDef) (table : Table) (col : ℕ) → SaysAdded def table col
    → added_text table col ≡ (((((codes "ALTER TABLE " ++ def.table) ++ codes " ADD COLUMN ") ++ column_text (column_at table.columns col)) ++ codes " DEFAULT ") ++ value_text def.filler) ++ codes ";"
unfolding added_text
text_is def table col says = rw (says.name, says.filler) refl

pub added_back : (def : AlterDef) (table : Table) (col : ℕ) → IsAlterDef def → SaysAdded def table col → IsAddedText def (added_text table col)
added_back def table col is says =
    let column = column_at table.columns col in
    let ty = (column_of def.column).ty in
    let text = (((((codes "ALTER TABLE " ++ def.table) ++ codes " ADD COLUMN ") ++ column_text column) ++ codes " DEFAULT ") ++ value_text def.filler) ++ codes ";" in
    let prints = said_prints def column is says.column (value_from_fit ty def.filler says.fits) in
    let most = sized_room ty (sized_column def.column says.column.typed) in
    subst (IsAddedText def) (sym (text_is def table col says))
    (record {
      utf8 = whole_utf8 (alter def) text joins_none prints;
      short = row_short def.table (column_text column) (value_text def.filler) (name_short def.table is.table) (column_short def.column column is.column says.column) (value_short ty def.filler most says.fits);
      reads = statement_spelled text (tokens_of text) (Alter def) (whole (alter def) text joins_none prints);
    })

-- also as it is printed of a later table
pub added_later : (def : AlterDef) (table : Table) (col : ℕ) → IsAlterDef def → SaysAdded def table col → IsAddedLater def table col
added_later def table col is says now keeps =
    added_back def now col is
    (record {
      name = keeps.name ∙ says.name;
      column = subst (SaysColumn def.column) (sym keeps.column) says.column;
      filler = keeps.filler ∙ says.filler;
      fits = says.fits;
    })
