-- Which columns a sequence holds.
use Rattle.std.proofs.Common.{◌≡◌, ℕ, Bool, true, false, cond, not, ◌||◌, ◌&&◌, List, [], ◌∷◌, map, refl, ap, ◌∙◌, sym}
use Rattle.std.specs.List.{list_any}
use Rattle.pq_base.specs.Columns.{has_col, set_of}
use Rattle.pq_schema.specs.declared.table.KeyPart.{KeyPart}
use Rattle.pq_schema.specs.declared.table.Index.{Index}
use Rattle.pq_schema.specs.declared.table.Table.{Table}
use Rattle.pq_index_keep.specs.declared.write.Scope.{Scope}
use Rattle.pq_index_keep.specs.declared.write.Scope.TheVariants.{Columns}
use Rattle.pq_index_keep.specs.Tested.{touches_index}
use Rattle.pq_schema.specs.Sequences.{ascending_part, columns_of, without, then_key}

any_rest : (set left : ℕ) (key : List ℕ) → list_any (λ col. not (has_col left col) && has_col set col) key ≡ list_any (has_col set) (columns_of (map ascending_part (without left key)))
any_rest set left [] = refl
any_rest set left (col ∷ key) =
    elim (has_col left col) as (λ b. (not b && has_col set col || list_any (λ c. not (has_col left c) && has_col set c) key) ≡ list_any (has_col set) (columns_of (map ascending_part (cond (not b) (col ∷ without left key) (without left key))))) [
      | true ↦ any_rest set left key
      | false ↦ ap (λ b. has_col set col || b) (any_rest set left key)
    ]

-- parts and then the key columns that are not in a set
pub any_sequence : (set left : ℕ) (parts : List KeyPart) (key : List ℕ) → (list_any (λ (part : KeyPart). has_col set part.col) parts || list_any (λ col. not (has_col left col) && has_col set col) key) ≡ list_any (has_col set) (columns_of (then_key parts left key))
any_sequence set left [] key = any_rest set left key
any_sequence set left (part ∷ parts) key =
    elim (has_col set part.col) as (λ b. ((b || list_any (λ (p : KeyPart). has_col set p.col) parts) || list_any (λ col. not (has_col left col) && has_col set col) key) ≡ (b || list_any (has_col set) (columns_of (then_key parts left key)))) [
      | true ↦ refl
      | false ↦ any_sequence set left parts key
    ]

pub or_true : (own rest : Bool) → own ≡ true → own ≡ (own || rest)
or_true true rest is = refl
or_true false rest is = absurd (cc)

pub or_false : (own rest : Bool) → own ≡ false → rest ≡ (own || rest)
or_false true rest is = absurd (cc)
or_false false rest is = refl

-- an index holds a column of a set, in its own parts or in the rest of the key
pub touches_as : (of : Scope) (set : ℕ) (table : Table) (index : Index) → of ≡ Columns set
    → (list_any (λ (part : KeyPart). has_col set part.col) index.cols || list_any (λ col. not (has_col (set_of (columns_of index.cols)) col) && has_col set col) table.key) ≡ touches_index of table index
touches_as of set table index is =
    any_sequence set (set_of (columns_of index.cols)) index.cols table.key
    ∙ ap (λ (s : Scope). touches_index s table index) (sym is)
