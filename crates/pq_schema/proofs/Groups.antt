-- What indexes for groups of columns make of a table.
use Rattle.std.proofs.Common.{◌≡◌, ℕ, ◌+◌, ◌<◌, ◌≤◌, Bool, true, false, cond, ◌||◌, inl, inr, List, [], ◌∷◌, ◌++◌, map, fold, length, take, count_ones, length-append, Option, Some, None, refl, sym, ap, ◌∙◌, arith}
use Rattle.std.specs.Prelude.{All, IsSome, is_some, position, option_map}
use Rattle.std.specs.List.{AllByRecursion, list_any}
use Rattle.std.proofs.Math.Seq.{take-append_seam}
use Rattle.std.proofs.lemmas.Bool.{eq-eqb, or_left, or_right, or_cases, cond_both}
use Rattle.std.proofs.lemmas.List.{map-append}
use Rattle.std.proofs.lemmas.List.Elements.{All-push, All-map}
use Rattle.std.proofs.lemmas.List.Folds.{list_any-append, list_any_at}
use Rattle.std.proofs.lemmas.List.Quantifiers.{position-Some}
use Rattle.pq_base.specs.Columns.{set_of}
use Rattle.pq_schema.specs.declared.table.Access.{Access}
use Rattle.pq_schema.specs.declared.table.Access.TheVariants.{Primary}
use Rattle.pq_schema.specs.declared.table.Index.{Index}
use Rattle.pq_schema.specs.declared.table.KeyPart.{KeyPart}
use Rattle.pq_schema.specs.declared.table.Table.{Table}
use Rattle.pq_schema.specs.Schema.{with_new_index}
use Rattle.pq_schema.specs.Sequences.{ascending_part, columns_of, without, primary_sequence, index_sequence, begins_with, group_access, secondary, with_group}
use Rattle.pq_schema.specs.Sound.{IsTable, AreColumns, AreParts}
use Rattle.pq_schema.proofs.Counts.{position_is}

no_index : Index
no_index = record { cols = [] }

-- ---- whether a sequence begins with a set

begins_at : Table → ℕ → Index → Bool
begins_at table set index = begins_with (index_sequence table index) set

has_group : Table → ℕ → Bool
unfolding begins_at
has_group table set = begins_with (primary_sequence table) set || list_any (begins_at table set) table.indexes

some_mapped : {X Y : Type 0} (f : X → Y) (o : Option X) → is_some (option_map f o) ≡ is_some o
some_mapped f None = refl
some_mapped f (Some x) = refl

some_found : {X : Type 0} (p : X → Bool) (xs : List X) → list_any p xs ≡ true → is_some (position p xs) ≡ true
some_found p xs any = ap is_some (position_is p xs any)

found_some : {X : Type 0} (p : X → Bool) (xs : List X) (d : X) → is_some (position p xs) ≡ true → list_any p xs ≡ true
found_some p xs d some = by_place (position p xs) refl some
  where
    by_place : (o : Option ℕ) → position p xs ≡ o → is_some o ≡ true → list_any p xs ≡ true
    by_place None is some = let no_such : false ≡ true = some in cc
    by_place (Some i) is some = let found = position-Some p xs i d is in list_any_at p xs i d found.0 found.1

to_some : (table : Table) (set : ℕ) → has_group table set ≡ true → IsSome (group_access table set)
unfolding has_group begins_at
to_some table set has =
    cond_both (begins_with (primary_sequence table) set) (Some Primary) (option_map secondary (position (begins_at table set) table.indexes)) (λ (o : Option Access). is_some o ≡ true) (λ _. refl) (λ none.
    some_mapped secondary (position (begins_at table set) table.indexes)
    ∙ some_found (begins_at table set) table.indexes (sym (ap (λ b. b || list_any (begins_at table set) table.indexes) none) ∙ has))

from_some : (table : Table) (set : ℕ) → IsSome (group_access table set) → has_group table set ≡ true
unfolding has_group begins_at
from_some table set some = by_test (begins_with (primary_sequence table) set) refl some
  where
    by_test : (b : Bool) → begins_with (primary_sequence table) set ≡ b → is_some (cond b (Some Primary) (option_map secondary (position (begins_at table set) table.indexes))) ≡ true → (begins_with (primary_sequence table) set || list_any (begins_at table set) table.indexes) ≡ true
    by_test true is some = or_left (begins_with (primary_sequence table) set) (list_any (begins_at table set) table.indexes) is
    by_test false is some =
        or_right (begins_with (primary_sequence table) set) (list_any (begins_at table set) table.indexes)
        (found_some (begins_at table set) table.indexes no_index (sym (some_mapped secondary (position (begins_at table set) table.indexes)) ∙ some))

kept_by_index : (table : Table) (index : Index) (set : ℕ) → has_group table set ≡ true → has_group (with_new_index table index) set ≡ true
unfolding has_group begins_at
kept_by_index table index set has =
    let first = begins_with (primary_sequence table) set in
    let old = list_any (begins_at table set) table.indexes in
    let new = list_any (begins_at table set) (table.indexes ++ index ∷ []) in
    elim (or_cases first old has) [
      | inl primary ↦ or_left first new primary
      | inr some ↦ or_right first new (list_any-append (begins_at table set) table.indexes (index ∷ []) ∙ or_left old (list_any (begins_at table set) (index ∷ [])) some)
    ]

-- one more index keeps the groups
pub index_keeps : (table : Table) (index : Index) (set : ℕ) → IsSome (group_access table set) → IsSome (group_access (with_new_index table index) set)
index_keeps table index set some = to_some (with_new_index table index) set (kept_by_index table index set (from_some table set some))

index_has : (table : Table) (index : Index) (set : ℕ) → begins_with (index_sequence table index) set ≡ true → has_group (with_new_index table index) set ≡ true
unfolding has_group begins_at
index_has table index set begins =
    let first = begins_with (primary_sequence table) set in
    let old = list_any (begins_at table set) table.indexes in
    or_right first (list_any (begins_at table set) (table.indexes ++ index ∷ []))
    (list_any-append (begins_at table set) table.indexes (index ∷ []) ∙ or_right old (list_any (begins_at table set) (index ∷ [])) (or_left (begins_at table set index) false begins))

-- ---- an index on a group

abbrev pub group_index : List ℕ → Index
group_index cols = record { cols = map ascending_part cols }

abbrev pub IsDifferent : List ℕ → Type 0
IsDifferent cols = count_ones (set_of cols) ≡ length cols

columns_ascending : (cols : List ℕ) → columns_of (map ascending_part cols) ≡ cols
columns_ascending [] = refl
columns_ascending (col ∷ cols) = ap (λ (rest : List ℕ). col ∷ rest) (columns_ascending cols)

own_begins : (table : Table) (cols : List ℕ) → IsDifferent cols → begins_with (index_sequence table (group_index cols)) (set_of cols) ≡ true
own_begins table cols different =
    let left = map ascending_part (without (set_of (columns_of (map ascending_part cols))) table.key) in
    let all : columns_of (map ascending_part cols ++ left) ≡ cols ++ columns_of left =
    map-append (λ (part : KeyPart). part.col) (map ascending_part cols) left ∙ ap (λ (cs : List ℕ). cs ++ columns_of left) (columns_ascending cols) in
    let first : take (count_ones (set_of cols)) (columns_of (map ascending_part cols ++ left)) ≡ cols =
    ap (λ n. take n (columns_of (map ascending_part cols ++ left))) different ∙ ap (take (length cols)) all ∙ take-append_seam cols (columns_of left) in
    eq-eqb (set_of (take (count_ones (set_of cols)) (columns_of (map ascending_part cols ++ left)))) (set_of cols) (ap set_of first)

-- what holds of the table, and of the table with the index where no sequence begins with the set, holds with the group
group_cases : (P : Table → Type 0) (table : Table) (cols : List ℕ) → (IsSome (group_access table (set_of cols)) → P table) → P (with_new_index table (group_index cols)) → P (with_group table cols)
group_cases P table cols kept made = cond_both (is_some (group_access table (set_of cols))) table (with_new_index table (group_index cols)) P kept (λ _. made)

group_keeps : (table : Table) (cols : List ℕ) (set : ℕ) → IsSome (group_access table set) → IsSome (group_access (with_group table cols) set)
group_keeps table cols set some = group_cases (λ (t : Table). IsSome (group_access t set)) table cols (λ _. some) (index_keeps table (group_index cols) set some)

group_has : (table : Table) (cols : List ℕ) → IsDifferent cols → IsSome (group_access (with_group table cols) (set_of cols))
group_has table cols different =
    group_cases (λ (t : Table). IsSome (group_access t (set_of cols))) table cols (λ some. some)
    (to_some (with_new_index table (group_index cols)) (set_of cols) (index_has table (group_index cols) (set_of cols) (own_begins table cols different)))

-- ---- all groups

pub groups_keep : (gs : List (List ℕ)) (table : Table) (set : ℕ) → IsSome (group_access table set) → IsSome (group_access (fold with_group table gs) set)
groups_keep [] table set some = some
groups_keep (g ∷ gs) table set some = groups_keep gs (with_group table g) set (group_keeps table g set some)

pub groups_have : (gs : List (List ℕ)) (table : Table) → AllByRecursion IsDifferent gs → AllByRecursion (λ g. IsSome (group_access (fold with_group table gs) (set_of g))) gs
groups_have [] table different = tt
groups_have (g ∷ gs) table different =
    (groups_keep gs (with_group table g) (set_of g) (group_has table g different.0), groups_have gs (with_group table g) different.1)

-- all but the indexes is as before
pub record IsAsBefore (before now : Table) : Type 0 where
  pub name : now.name ≡ before.name
  pub columns : now.columns ≡ before.columns
  pub fillers : now.fillers ≡ before.fillers
  pub key : now.key ≡ before.key
  pub limits : now.limits ≡ before.limits
  pub foreign : now.foreign ≡ before.foreign

itself : (table : Table) → IsAsBefore table table
itself table = record { name = refl; columns = refl; fillers = refl; key = refl; limits = refl; foreign = refl }

pub index_as_before : (table : Table) (index : Index) → IsAsBefore table (with_new_index table index)
index_as_before table index = record { name = refl; columns = refl; fillers = refl; key = refl; limits = refl; foreign = refl }

group_as_before : (table : Table) (cols : List ℕ) → IsAsBefore table (with_group table cols)
group_as_before table cols = group_cases (IsAsBefore table) table cols (λ _. itself table) (index_as_before table (group_index cols))

after_both : (a b c : Table) → IsAsBefore a b → IsAsBefore b c → IsAsBefore a c
after_both a b c h k = record {
  name = k.name ∙ h.name;
  columns = k.columns ∙ h.columns;
  fillers = k.fillers ∙ h.fillers;
  key = k.key ∙ h.key;
  limits = k.limits ∙ h.limits;
  foreign = k.foreign ∙ h.foreign;
}

pub groups_as_before : (gs : List (List ℕ)) (table : Table) → IsAsBefore table (fold with_group table gs)
groups_as_before [] table = itself table
groups_as_before (g ∷ gs) table = after_both table (with_group table g) (fold with_group (with_group table g) gs) (group_as_before table g) (groups_as_before gs (with_group table g))

-- ---- the indexes

-- the columns of each index are below this number
abbrev pub AreInside : ℕ → List Index → Type 0
AreInside width indexes = All (λ index. All (λ part. part.col < width) index.cols) indexes

pub inside_more : (width : ℕ) (indexes : List Index) (index : Index) → AreInside width indexes → All (λ part. part.col < width) index.cols → AreInside width (indexes ++ index ∷ [])
inside_more width indexes index all one = All-push (λ (i : Index). All (λ part. part.col < width) i.cols) indexes index all one

group_parts : (width : ℕ) (cols : List ℕ) → All (λ col. col < width) cols → All (λ part. part.col < width) (map ascending_part cols)
group_parts width cols all = All-map (λ part. part.col < width) ascending_part cols all

group_inside : (width : ℕ) (table : Table) (cols : List ℕ) → AreInside width table.indexes → All (λ col. col < width) cols → AreInside width (with_group table cols).indexes
group_inside width table cols all inside =
    group_cases (λ (t : Table). AreInside width t.indexes) table cols (λ _. all)
    (inside_more width table.indexes (group_index cols) all (group_parts width cols inside))

pub groups_inside : (width : ℕ) (gs : List (List ℕ)) (table : Table) → AreInside width table.indexes → AllByRecursion (λ g. All (λ col. col < width) g) gs → AreInside width (fold with_group table gs).indexes
groups_inside width [] table all inside = all
groups_inside width (g ∷ gs) table all inside = groups_inside width gs (with_group table g) (group_inside width table g all inside.0) inside.1

group_count : (table : Table) (cols : List ℕ) → length (with_group table cols).indexes ≤ length table.indexes + 1
group_count table cols =
    group_cases (λ (t : Table). length t.indexes ≤ length table.indexes + 1) table cols (λ _. omega arith)
    (omega (arith, length-append table.indexes (group_index cols ∷ [])))

-- a table with one more index
pub sound_index : (table : Table) (index : Index) → IsTable table → length table.indexes < 16 → AreParts index.cols → IsTable (with_new_index table index)
sound_index table index sound room parts = record {
  key = sound.key;
  short = sound.short;
  limits = sound.limits;
  sizes = sound.sizes;
  few = sound.few;
  indexes = inside_more 32 table.indexes index sound.indexes parts;
  few_indexes = let long = length-append table.indexes (index ∷ []) in omega (arith, long, room);
  few_columns = sound.few_columns;
}

sound_group : (table : Table) (cols : List ℕ) → IsTable table → length table.indexes < 16 → AreColumns cols → IsTable (with_group table cols)
sound_group table cols sound room columns = group_cases IsTable table cols (λ _. sound) (sound_index table (group_index cols) sound room (group_parts 32 cols columns))

pub sound_groups : (gs : List (List ℕ)) (table : Table) → IsTable table → AllByRecursion AreColumns gs → length table.indexes + length gs ≤ 16 → IsTable (fold with_group table gs)
sound_groups [] table sound columns room = sound
sound_groups (g ∷ gs) table sound columns room =
    let one = group_count table g in
    sound_groups gs (with_group table g) (sound_group table g sound (omega arith) columns.0) columns.1 (omega (arith, one, room))
