-- The canonical text of a table is read back as it is printed over later tables.
use Rattle.std.proofs.Common.{◌≡◌, ℕ, suc, ◌-◌, ◌≤◌, ◌<◌, Bool, true, false, List, [], ◌∷◌, ◌++◌, length, Ok, refl, sym, ap, subst, ◌∙◌, arith}
use Rattle.std.specs.Prelude.{All, nat_lt, slice_index_or}
use Rattle.std.specs.List.{AllByRecursion}
use Rattle.std.proofs.lemmas.Bool.{false≢true}
use Rattle.std.proofs.lemmas.Bool.Decides.{nat_tests}
use Rattle.std.proofs.lemmas.List.{get_or_past}
use Rattle.pq_schema.specs.declared.definition.ForeignDef.{ForeignDef}
use Rattle.pq_schema.specs.declared.definition.TableDef.{TableDef}
use Rattle.pq_schema.specs.declared.table.Column.{Column}
use Rattle.pq_schema.specs.declared.table.Foreign.{Foreign}
use Rattle.pq_schema.specs.declared.table.Table.{Table}
use Rattle.pq_schema.specs.Definitions.{new_table}
use Rattle.pq_schema.specs.Names.{is_name, IsName, IsForeignDef, IsTableDef}
use Rattle.pq_schema.specs.Schema.{Schema}
use Rattle.pq_schema.specs.Tables.{no_table, table_at}
use Rattle.pq_print.specs.Canonical.{items_text, table_text, with_first_columns}
use Rattle.pq_reread.specs.ReadBack.{KeepNames, KeepsTable, ReadsAs, IsReadLater}
use Rattle.pq_reread.specs.Said.{Pairwise, SaysForeign, Says}
use Rattle.pq_reread.proofs.Alls.{one_by_one}
use Rattle.pq_reread.proofs.Defined.{defined_says}
use Rattle.pq_reread.proofs.Tables.{table_reads}

-- ---- names of tables that are named

name_some : (name : List ℕ) → IsName name → 0 < length name
unfolding is_name
name_some [] is = absurd (false≢true is)
name_some (b ∷ bs) is = omega arith

module _ (tables later : List Table) (keep : KeepNames tables later) where
  kept_by : (number : ℕ) (b : Bool) → nat_lt (number - 1) (length tables) ≡ b → 0 < length (table_at tables number).name → (table_at later number).name ≡ (table_at tables number).name
  kept_by number true inside some =
      let within : number - 1 < length tables = grind (arith, nat_tests) in
      let place : suc (number - 1) - 1 ≡ number - 1 = omega arith in
      subst (λ (i : ℕ). (slice_index_or later i no_table).name ≡ (slice_index_or tables i no_table).name) place (keep.table (suc (number - 1)) (omega arith) (omega (arith, within)))
  kept_by number false past some =
      let behind : length tables ≤ number - 1 = grind (arith, nat_tests) in
      let none : (table_at tables number).name ≡ [] = ap (λ (t : Table). t.name) (get_or_past tables (number - 1) no_table behind) in
      absurd (omega (arith, some, ap length none))

  foreign_later : (columns : List Column) (f : ForeignDef) (foreign : Foreign) → IsForeignDef f → SaysForeign tables columns f foreign → SaysForeign later columns f foreign
  foreign_later columns f foreign is says =
      let some : 0 < length (table_at tables foreign.table).name = subst (λ (name : List ℕ). 0 < length name) (sym says.table) (name_some f.table is.table) in
      record { cols = says.cols; table = kept_by foreign.table (nat_lt (foreign.table - 1) (length tables)) refl some ∙ says.table }

  foreigns_later : (columns : List Column) (fs : List ForeignDef) (foreigns : List Foreign) → AllByRecursion IsForeignDef fs → Pairwise (SaysForeign tables columns) fs foreigns → Pairwise (SaysForeign later columns) fs foreigns
  foreigns_later columns [] [] are says = tt
  foreigns_later columns [] (x ∷ xs) are says = absurd says
  foreigns_later columns (f ∷ fs) [] are says = absurd says
  foreigns_later columns (f ∷ fs) (x ∷ xs) are says = (foreign_later columns f x are.0 says.0, foreigns_later columns fs xs are.1 says.1)

  says_later : (def : TableDef) (table : Table) → IsTableDef def → Says tables def table → Says later def table
  says_later def table is says = record {
    name = says.name;
    some = says.some;
    columns = says.columns;
    key = says.key;
    limits = says.limits;
    foreign = foreigns_later table.columns def.foreign table.foreign (one_by_one IsForeignDef def.foreign is.foreign) says.foreign;
  }

-- ---- the text

kept_text : (tables : List Table) (table now : Table) → KeepsTable table now → table_text tables (with_first_columns (length table.columns) now) ≡ table_text tables table
unfolding table_text items_text
kept_text tables table now keeps = rw (keeps.name, keeps.columns, keeps.key, keeps.limits, keeps.foreign) refl

pub later_reads : (schema : Schema) (def : TableDef) (table : Table) → All (λ (other : Table). 0 < length other.key) schema.tables → IsTableDef def → new_table schema def ≡ Ok table → IsReadLater (schema.tables ++ table ∷ []) def table
later_reads schema def table keys is made later now keep keeps =
    let says = says_later (schema.tables ++ table ∷ []) later keep def table is (defined_says schema def table keys made) in
    subst (ReadsAs def) (sym (kept_text later table now keeps)) (table_reads later def table is says)
