-- How many pairs stand in the range of a group: as many as the group has rows.
use Rattle.std.proofs.Common.{◌≡◌, ℕ, zero, suc, ◌+◌, ◌-◌, ◌≤◌, ◌<◌, ◌⊎◌, inl, inr, true, false, cond, eqb, List, [], ◌∷◌, length, take, map, Option, Some, None, refl, sym, ap, subst, ◌∙◌, arith}
use Rattle.std.specs.Prelude.{IsSome, slice_get, slice_index_or, unwrap_or, option_map, count_ones, ◌==◌}
use Rattle.std.specs.List.{position, IsDistinct}
use Rattle.std.proofs.lemmas.Bool.{eqb-true, eq-eqb, false≢true}
use Rattle.std.proofs.lemmas.List.{length-map}
use Rattle.std.proofs.lemmas.List.Quantifiers.{position-Some}
use Rattle.pq_base.specs.Columns.{has_col, set_of}
use Rattle.pq_base.specs.declared.value.ColType.{ColType}
use Rattle.pq_base.specs.declared.value.Value.{Value}
use Rattle.pq_key_code.specs.KeyCode.{past_code}
use Rattle.pq_schema.specs.declared.table.Access.{Access}
use Rattle.pq_schema.specs.declared.table.Access.TheVariants.{Primary, Secondary}
use Rattle.pq_schema.specs.declared.table.Index.{Index}
use Rattle.pq_schema.specs.declared.table.KeyPart.{KeyPart}
use Rattle.pq_schema.specs.declared.table.Table.{Table}
use Rattle.pq_schema.specs.Sequences.{columns_of, primary_sequence, index_sequence, no_index, index_numbered, begins_with, group_access, secondary}
use Rattle.pq_schema.specs.Tables.{table_at}
use Rattle.pq_content.specs.Pairs.{Pair, content_pairs}
use Rattle.pq_content.specs.Tables.{Rows, AllOfKinds, IsOfKind, type_at, types_at, value_of, cells, group_of}
use Rattle.pq_base.specs.Members.{In}
use Rattle.pq_content.proofs.Scans.{columns_of-primary, rows_counted, entries_counted, group_by_first}
use Rattle.pq_store.specs.Content.{Content, pairs_within}
use Rattle.pq_calls.specs.Keys.{sequence_key}
use Rattle.pq_row_keys.specs.Groups.{access_of, first_values, group_key}
use Rattle.pq_index_keep.specs.Promises.{HoldsRows}
use Rattle.pq_schema.specs.Keys.{given_value}
use Rattle.pq_base.proofs.Members.{each_in}
use Rattle.pq_base.proofs.Sets.{set_members, members_set}
use Rattle.pq_index_keep.proofs.Distinct.{are_distinct}

-- ---- values that columns are given

agree_in : {Y : Type 0} (f g : ℕ → Y) (cols : List ℕ) → ((c : ℕ) → In c cols → f c ≡ g c) → map f cols ≡ map g cols
agree_in f g [] h = refl
agree_in {Y} f g (c ∷ cols) h =
    let first : f c ≡ g c = h c (inl refl) in
    let rest = agree_in f g cols (λ d i. h d (inr i)) in
    ap (λ (y : Y). y ∷ map f cols) first ∙ ap (λ (ys : List Y). g c ∷ ys) rest

given_of : (f : ℕ → Value) (cols : List ℕ) (d : ℕ) → In d cols → given_value cols (map f cols) d ≡ f d
given_of f [] d i = absurd i
given_of f (c ∷ cols) d i =
    elim (c == d) as (λ b. (c == d) ≡ b → cond b (f c) (given_value cols (map f cols) d) ≡ f d) [
      | true ↦ λ is. ap f (eqb-true c d is)
      | false ↦ λ is. elim i [
        | inl same ↦ absurd (false≢true (sym is ∙ eq-eqb c d same))
        | inr there ↦ given_of f cols d there
      ]
    ] refl

-- columns are given the values that a row has there
pub given_at : (cols : List ℕ) (row : List Value) → map (given_value cols (cells cols row)) cols ≡ cells cols row
given_at cols row = agree_in (given_value cols (cells cols row)) (value_of row) cols (given_of (value_of row) cols)

given_each : (types : List ColType) (cols : List ℕ) (values : List Value) → IsDistinct eqb cols → AllOfKinds types values → length types ≡ length cols → map (given_value cols values) cols ≡ values
unfolding IsDistinct
given_each types [] [] apart kinds long = refl
given_each [] [] (x ∷ values) apart kinds long = absurd kinds
given_each (t ∷ ts) [] (x ∷ values) apart kinds long = absurd (omega arith)
given_each [] (c ∷ cols) values apart kinds long = absurd (omega arith)
given_each (t ∷ ts) (c ∷ cols) [] apart kinds long = absurd kinds
given_each (t ∷ ts) (c ∷ cols) (x ∷ values) apart kinds long =
    let here : cond (c == c) x (given_value cols values c) ≡ x = ap (λ b. cond b x (given_value cols values c)) (eq-eqb c c refl) in
    let others : map (given_value (c ∷ cols) (x ∷ values)) cols ≡ map (given_value cols values) cols = agree_in (given_value (c ∷ cols) (x ∷ values)) (given_value cols values) cols (λ d i. ap (λ b. cond b x (given_value cols values d)) (each_in (λ (d : ℕ). eqb c d ≡ false) cols apart.0 d i)) in
    let rest : map (given_value cols values) cols ≡ values = given_each ts cols values apart.1 kinds.1 (omega arith) in
    ap (λ (y : Value). y ∷ map (given_value (c ∷ cols) (x ∷ values)) cols) here ∙ ap (λ (ys : List Value). x ∷ ys) (others ∙ rest)

-- different columns are given just these values
pub given_all : (types : List ColType) (cols : List ℕ) (values : List Value) → count_ones (set_of cols) ≡ length cols → AllOfKinds types values → length types ≡ length cols → map (given_value cols values) cols ≡ values
given_all types cols values different kinds long = given_each types cols values (are_distinct cols different) kinds long

kind_given : (table : Table) (cols : List ℕ) (values : List Value) (d : ℕ) → AllOfKinds (types_at table.columns cols) values → In d cols → IsOfKind (type_at table.columns d) (given_value cols values d)
kind_given table [] values d kinds i = absurd i
kind_given table (c ∷ cols) [] d kinds i = absurd kinds
kind_given table (c ∷ cols) (x ∷ values) d kinds i =
    elim (c == d) as (λ b. (c == d) ≡ b → IsOfKind (type_at table.columns d) (cond b x (given_value cols values d))) [
      | true ↦ λ is. subst (λ (n : ℕ). IsOfKind (type_at table.columns n) x) (eqb-true c d is) kinds.0
      | false ↦ λ is. elim i [
        | inl same ↦ absurd (false≢true (sym is ∙ eq-eqb c d same))
        | inr there ↦ kind_given table cols values d kinds.1 there
      ]
    ] refl

kinds_taken : (ty : ℕ → ColType) (f : ℕ → Value) (cols : List ℕ) (n : ℕ) → ((c : ℕ) → In c (take n cols) → IsOfKind (ty c) (f c)) → AllOfKinds (take (length (map f (take n cols))) (map ty cols)) (map f (take n cols))
kinds_taken ty f [] zero h = tt
kinds_taken ty f [] (suc n) h = tt
kinds_taken ty f (c ∷ cols) zero h = tt
kinds_taken ty f (c ∷ cols) (suc n) h = (h c (inl refl), kinds_taken ty f cols n (λ d i. h d (inr i)))

-- the first columns of a sequence that begins with these columns are given values of their kinds
first_kinds : (table : Table) (cols all : List ℕ) (values : List Value) (n : ℕ) → set_of (take n all) ≡ set_of cols → AllOfKinds (types_at table.columns cols) values
    → AllOfKinds (take (length (map (given_value cols values) (take n all))) (types_at table.columns all)) (map (given_value cols values) (take n all))
first_kinds table cols all values n same kinds =
    kinds_taken (type_at table.columns) (given_value cols values) all n
    (λ c i. kind_given table cols values c kinds (set_members cols c (subst (λ (set : ℕ). has_col set c ≡ true) same (members_set (take n all) c i))))

first_short : (f : ℕ → Value) (cols : List ℕ) (n : ℕ) → length (map f (take n cols)) ≤ length cols
first_short f [] zero = omega arith
first_short f [] (suc n) = omega arith
first_short f (c ∷ cols) zero = omega arith
first_short f (c ∷ cols) (suc n) = let rest = first_short f cols n in omega arith

-- ---- the sequence of a group

-- the primary sequence begins with the columns, or that of an index does
abbrev IsAccess : Table → List ℕ → Access → Type 0
IsAccess table cols access =
    ((access ≡ Primary) × (begins_with (primary_sequence table) (set_of cols) ≡ true))
    ⊎ ((place : ℕ) × (access ≡ Secondary (place + 1)) × (slice_get table.indexes place ≡ Some (index_numbered table (place + 1))) × (begins_with (index_sequence table (index_numbered table (place + 1))) (set_of cols) ≡ true))

got : (indexes : List Index) (place : ℕ) → place < length indexes → slice_get indexes place ≡ Some (slice_index_or indexes place no_index)
got [] place less = absurd (omega arith)
got (x ∷ xs) zero less = refl
got (x ∷ xs) (suc place) less = got xs place (omega arith)

pub access_found : (table : Table) (cols : List ℕ) → IsSome (group_access table (set_of cols)) → IsAccess table cols (access_of table cols)
access_found table cols there =
    let set = set_of cols in
    let p = λ (index : Index). begins_with (index_sequence table index) set in
    elim (begins_with (primary_sequence table) set) as (λ b. begins_with (primary_sequence table) set ≡ b → IsSome (cond b (Some Primary) (option_map secondary (position p table.indexes))) → IsAccess table cols (unwrap_or (cond b (Some Primary) (option_map secondary (position p table.indexes))) Primary)) [
      | true ↦ λ is some. inl (refl, is)
      | false ↦ λ is some.
          elim (position p table.indexes) as (λ o. position p table.indexes ≡ o → IsSome (option_map secondary o) → IsAccess table cols (unwrap_or (option_map secondary o) Primary)) [
            | None ↦ λ none some. absurd (cc)
            | Some place ↦ λ found some.
                let at = position-Some p table.indexes place no_index found in
                let same : place + 1 - 1 ≡ place = omega arith in
                let index : slice_index_or table.indexes place no_index ≡ index_numbered table (place + 1) = ap (λ (n : ℕ). slice_index_or table.indexes n no_index) (sym same) in
                inr (place, refl, got table.indexes place at.0 ∙ ap Some index, ap p (sym index) ∙ at.1)
          ] refl some
    ] refl there

-- ---- the range of a group

module _ (tables : List Table) (rows : Rows) (others : List Pair) (told : Option Content) (s : HoldsRows told tables rows others) (t : ℕ) where
  abbrev table : Table
  table = table_at tables t

  abbrev within : List ℕ → ℕ
  within key = length (pairs_within (content_pairs tables rows others) key (past_code key))

  module _ (cols : List ℕ) (values : List Value) (kinds : AllOfKinds (types_at table.columns cols) values) (own : map (given_value cols values) cols ≡ values) where
    abbrev n : ℕ
    n = count_ones (set_of cols)

    under_primary : begins_with (primary_sequence table) (set_of cols) ≡ true → within (sequence_key t table Primary (first_values table Primary cols values)) ≡ length (group_of t cols values rows)
    under_primary begins =
        let all = columns_of (primary_sequence table) in
        let ps = map (given_value cols values) (take n all) in
        let key : all ≡ table.key = columns_of-primary table.key in
        let same : set_of (take n all) ≡ set_of cols = eqb-true _ _ begins in
        let of_kinds : AllOfKinds (take (length ps) (types_at table.columns table.key)) ps = subst (λ (cs : List ℕ). AllOfKinds (take (length ps) (types_at table.columns cs)) ps) key (first_kinds table cols all values n same kinds) in
        let short : length ps ≤ length table.key = subst (λ (cs : List ℕ). length ps ≤ length cs) key (first_short (given_value cols values) all n) in
        rows_counted tables rows others s.keeps.fit s.keeps.apart s.beside t ps of_kinds short
        ∙ ap (λ (cs : List ℕ). length (group_of t (take (length ps) cs) ps rows)) (sym key)
        ∙ ap (λ (rs : List (List Value)). length rs) (group_by_first (primary_sequence table) cols (given_value cols values) t rows begins)
        ∙ ap (λ (vs : List Value). length (group_of t cols vs rows)) own

    under_index : (place : ℕ) → slice_get table.indexes place ≡ Some (index_numbered table (place + 1)) → begins_with (index_sequence table (index_numbered table (place + 1))) (set_of cols) ≡ true
        → within (sequence_key t table (Secondary (place + 1)) (first_values table (Secondary (place + 1)) cols values)) ≡ length (group_of t cols values rows)
    under_index place has begins =
        let sequence = index_sequence table (index_numbered table (place + 1)) in
        let all = columns_of sequence in
        let ps = map (given_value cols values) (take n all) in
        let same : set_of (take n all) ≡ set_of cols = eqb-true _ _ begins in
        let columns : length all ≡ length sequence = length-map sequence (λ (part : KeyPart). part.col) in
        let fits : length ps ≤ length all = first_short (given_value cols values) all n in
        entries_counted tables rows others s.keeps.fit s.keeps.apart s.beside t place (index_numbered table (place + 1)) has (place + 1) (omega arith) ps (first_kinds table cols all values n same kinds) (omega (arith, columns, fits))
        ∙ ap (λ (rs : List (List Value)). length rs) (group_by_first sequence cols (given_value cols values) t rows begins)
        ∙ ap (λ (vs : List Value). length (group_of t cols vs rows)) own

    by_access : (access : Access) → IsAccess table cols access → within (sequence_key t table access (first_values table access cols values)) ≡ length (group_of t cols values rows)
    by_access access (inl primary) = subst (λ (a : Access). within (sequence_key t table a (first_values table a cols values)) ≡ length (group_of t cols values rows)) (sym primary.0) (under_primary primary.1)
    by_access access (inr index) = subst (λ (a : Access). within (sequence_key t table a (first_values table a cols values)) ≡ length (group_of t cols values rows)) (sym index.1) (under_index index.0 index.2 index.3)

    -- as many pairs stand under the group's key as it has rows
    pub counted : IsSome (group_access table (set_of cols)) → within (group_key t table cols values) ≡ length (group_of t cols values rows)
    unfolding group_key
    counted there = by_access (access_of table cols) (access_found table cols there)
