-- The canonical text of a counter is read as its definition.
use Rattle.std.proofs.Common.{◌≡◌, ℕ, ◌<◌, ◌≤◌, List, [], ◌∷◌, ◌++◌, length, refl, sym, subst, ◌∙◌, arith, append_assoc, length-append}
use Rattle.std.specs.Prelude.{codes}
use Rattle.std.specs.List.{AllByRecursion}
use Rattle.pq_schema.specs.declared.counter.Counter.{Counter}
use Rattle.pq_schema.specs.declared.definition.CounterDef.{CounterDef}
use Rattle.pq_schema.specs.declared.table.Table.{Table}
use Rattle.pq_schema.specs.Names.{IsCounterDef}
use Rattle.pq_schema.specs.Tables.{table_at}
use Rattle.pq_text.specs.Bytes.{is_word_byte}
use Rattle.pq_text.specs.Tokens.{tokens_of}
use Rattle.pq_shape.specs.declared.keyword.TheConstants.{CREATE}
use Rattle.pq_def_read.specs.Grammar.{counter as a_counter}
use Rattle.pq_def_read.specs.declared.statement.Statement.TheVariants as statement
use Rattle.pq_print.specs.Canonical.{column_name, columns_text, counter_text}
use Rattle.pq_query_read.proofs.Names.{name_short}
use Rattle.pq_reread.specs.Printed.{joins_none}
use Rattle.pq_reread.specs.ReadBack.{KeepNames, IsCounterText}
use Rattle.pq_reread.specs.Said.{Pairwise, SaysColumns, SaysCounter}
use Rattle.pq_reread.proofs.Keywords.{counter_prints, keyword_prints, of_prints}
use Rattle.pq_reread.proofs.Lengths.{cols_short, same_length}
use Rattle.pq_reread.proofs.Named.{statement_spelled}
use Rattle.pq_reread.proofs.Prints.{Prints, join, space, mark_prints, whole, whole_utf8}
use Rattle.pq_reread.proofs.Tables.{cols_prints, name_prints}

-- the definition's own words, and the text of the columns
abbrev said_text : CounterDef → List ℕ → List ℕ
said_text def cols = codes "CREATE COUNTER " ++ def.name ++ codes " OF " ++ def.table ++ codes " " ++ cols ++ codes ";"

-- ---- what spells the definition

counter_row : (name table cols : List ℕ)
    → (((((codes "CREATE COUNTER " ++ name) ++ codes " OF ") ++ table) ++ codes " ") ++ cols) ++ codes ";" ≡ codes "CREATE COUNTER " ++ (name ++ (codes " OF " ++ (table ++ (codes " " ++ (cols ++ codes ";")))))
counter_row name table cols = simp append_assoc

said_prints : (def : CounterDef) (table : Table) (places : List ℕ) → IsCounterDef def → SaysColumns table.columns def.cols places → Prints (a_counter def) joins_none (said_text def (columns_text table.columns places)) joins_none
said_prints def table places is says =
    subst (λ (v : List ℕ). Prints (a_counter def) joins_none v joins_none) (sym (counter_row def.name def.table (columns_text table.columns places)))
    (join (keyword_prints CREATE refl)
    (space is_word_byte refl (join counter_prints
    (space is_word_byte refl (join (name_prints def.name is.name)
    (space is_word_byte refl (join of_prints
    (space is_word_byte refl (join (name_prints def.table is.table)
    (space is_word_byte refl (join (cols_prints table def.cols places is.cols says) (mark_prints 59 joins_none refl refl))))))))))))

-- ---- its length

row_short : (name table cols : List ℕ) → length name ≤ 32 → length table ≤ 32 → length cols ≤ 138
    → length ((((((codes "CREATE COUNTER " ++ name) ++ codes " OF ") ++ table) ++ codes " ") ++ cols) ++ codes ";") ≤ 1048576
row_short name table cols few less least =
    let a = codes "CREATE COUNTER " ++ name in
    let b = a ++ codes " OF " in
    let c = b ++ table in
    let d = c ++ codes " " in
    omega (
      arith,
      few,
      less,
      least,
      length-append (d ++ cols) (codes ";"),
      length-append d cols,
      length-append c (codes " "),
      length-append b table,
      length-append a (codes " OF "),
      length-append (codes "CREATE COUNTER ") name,
    )

-- ---- the text of a counter

text_is : (tables : List Table) (def : CounterDef) (counter : Counter) → SaysCounter tables def counter → counter_text tables counter ≡ said_text def (columns_text (table_at tables counter.table).columns counter.cols)
unfolding counter_text
text_is tables def counter says = rw (says.name, says.table) refl

pub counter_back : (tables : List Table) (def : CounterDef) (counter : Counter) → IsCounterDef def → SaysCounter tables def counter → IsCounterText def (counter_text tables counter)
counter_back tables def counter is says =
    let table = table_at tables counter.table in
    let cols = columns_text table.columns counter.cols in
    let text = said_text def cols in
    let prints = said_prints def table counter.cols is says.cols in
    let few : length def.cols ≤ 4 = omega (arith, says.few, same_length _ def.cols counter.cols says.cols.names) in
    subst (IsCounterText def) (sym (text_is tables def counter says))
    (record {
      utf8 = whole_utf8 (a_counter def) text joins_none prints;
      short = row_short def.name def.table cols (name_short def.name is.name) (name_short def.table is.table) (cols_short table def.cols counter.cols few is.cols says.cols);
      reads = statement_spelled text (tokens_of text) (statement.Counter def) (whole (a_counter def) text joins_none prints);
    })

-- ---- over later tables

module _ (tables later : List Table) (keep : KeepNames tables later) (number : ℕ) (one : 1 ≤ number) (there : number ≤ length tables) where
  names_later : (names : List (List ℕ)) (cols : List ℕ) → AllByRecursion (λ col. col < length (table_at tables number).columns) cols
      → Pairwise (λ name col. column_name (table_at tables number).columns col ≡ name) names cols
      → Pairwise (λ name col. column_name (table_at later number).columns col ≡ name) names cols
  names_later [] [] inside says = tt
  names_later [] (col ∷ cols) inside says = absurd says
  names_later (name ∷ names) [] inside says = absurd says
  names_later (name ∷ names) (col ∷ cols) inside says = (keep.column number col one there inside.0 ∙ says.0, names_later names cols inside.1 says.1)

-- the counter says the same where names are kept
pub says_later : (tables later : List Table) (def : CounterDef) (counter : Counter) → KeepNames tables later → 1 ≤ counter.table → counter.table ≤ length tables
    → AllByRecursion (λ col. col < length (table_at tables counter.table).columns) counter.cols → SaysCounter tables def counter → SaysCounter later def counter
says_later tables later def counter keep one there inside says = record {
  name = says.name;
  table = keep.table counter.table one there ∙ says.table;
  cols = record { some = says.cols.some; names = names_later tables later keep counter.table one there def.cols counter.cols inside says.cols.names };
  few = says.few;
}
