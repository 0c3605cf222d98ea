-- The merge of lists by the codes of positions is their order by position.
use Rattle.std.proofs.Common.{◌≡◌, ◌++◌, ℕ, List, [], ◌∷◌, map, flat_map, Option, Some, None, slice_get, refl, ap, ◌∙◌, subst, append-nil}
use Rattle.std.specs.Prelude.{IsSomeAnd, unwrap_or, slice_index_or}
use Rattle.std.specs.List.{AllByRecursion}
use Rattle.std.proofs.lemmas.List.{map-append}
use Rattle.std.proofs.lemmas.List.Concat.{flat_map-append}
use Rattle.std.proofs.lemmas.Option.{unwrap_or-slice_get}
use Rattle.pq_base.specs.Sorting.{sort_by}
use Rattle.pq_base.specs.Values.{AllFit, FitsType}
use Rattle.pq_base.specs.declared.value.ColType.{ColType}
use Rattle.pq_base.specs.declared.value.Dir.{Dir}
use Rattle.pq_base.specs.declared.value.Value.{Value}
use Rattle.pq_base.proofs.Members.{each_in, each_flat_map}
use Rattle.pq_schema.specs.declared.query.ColRef.{ColRef}
use Rattle.pq_schema.specs.declared.query.OrderItem.{OrderItem}
use Rattle.pq_schema.specs.declared.query.Query.{Query}
use Rattle.pq_schema.specs.declared.table.Table.{Table}
use Rattle.pq_schema.specs.Relations.{position_columns}
use Rattle.pq_schema.specs.Resolved.{IsResolved, ref_type}
use Rattle.pq_schema.specs.Rows.{no_value}
use Rattle.pq_schema.specs.Sound.{IsQuery}
use Rattle.pq_store.specs.Content.{key_cmp}
use Rattle.pq_plan.specs.Answer.{row_of, values_at, position, by_position, question}
use Rattle.pq_serving.proofs.Scans.{sort_alike, sort_by-map}
use Rattle.pq_local_ops.specs.Codes.{code_at}
use Rattle.pq_local_ops.specs.Lists.{AreOrdered}
use Rattle.pq_local_ops.proofs.Codes.{cols_of, dirs_of, codes_are}
use Rattle.pq_scan.specs.Merging.{place_of, item_of}
use Rattle.pq_sorted_join.specs.Merging.{HasFitting, HasPosition, placed_combo}

abbrev Combination : Type 0
Combination = List (List Value)

-- ---- values that are there and fit
there_fits : (t : ColType) (o : Option Value) → IsSomeAnd o (FitsType t) → FitsType t (unwrap_or o no_value)
there_fits t None h = absurd h
there_fits t (Some v) h = h

at_column : (t : ColType) (row : List Value) (n : ℕ) → IsSomeAnd (slice_get row n) (FitsType t) → FitsType t (slice_index_or row n no_value)
at_column t row n h = subst (FitsType t) (unwrap_or-slice_get row n no_value) (there_fits t (slice_get row n) h)

each_fits : (tables : List Table) (query : Query) (combo : Combination) (items : List OrderItem) → AllByRecursion (HasFitting tables query combo) items → AllFit (map (λ (item : OrderItem). ref_type tables query item.col) items) (values_at combo (map (λ (item : OrderItem). item.col) items))
each_fits tables query combo [] h = tt
each_fits tables query combo (item ∷ items) h = (at_column (ref_type tables query item.col) (row_of item.col.rel combo) item.col.col h.0, each_fits tables query combo items h.1)

-- ---- lists one behind the other
abbrev joined : List (List Combination) → List Combination
joined lists = flat_map (λ list. list) lists

pub one_list_more : (cols : List ColRef) (dirs : List Dir) (lists : List (List Combination)) (list : List Combination) → map (placed_combo cols dirs) (flat_map (λ l. l) (lists ++ list ∷ [])) ≡ map (placed_combo cols dirs) (flat_map (λ l. l) lists) ++ map (placed_combo cols dirs) list
one_list_more cols dirs lists list =
    ap (map (placed_combo cols dirs)) (flat_map-append (λ l. l) lists (list ∷ []) ∙ ap (λ l. joined lists ++ l) (append-nil list))
    ∙ map-append (placed_combo cols dirs) (joined lists) list

without_places : (cols : List ColRef) (dirs : List Dir) (combos : List Combination) → map item_of (map (placed_combo cols dirs) combos) ≡ combos
without_places cols dirs [] = refl
without_places cols dirs (combo ∷ combos) = ap (λ (l : List Combination). combo ∷ l) (without_places cols dirs combos)

module _ (tables : List Table) (query : Query) (sound : IsQuery tables query) (resolved : IsResolved tables query) (cols : List ColRef) (dirs : List Dir) (cols_are : cols ≡ cols_of tables query) (dirs_are : dirs ≡ dirs_of tables query) where
  pub merged_order : (lists : List (List Combination)) (waiting : List Combination) → AllByRecursion (AllByRecursion (HasPosition tables query)) lists → waiting ≡ map item_of (sort_by key_cmp place_of (map (placed_combo cols dirs) (flat_map (λ list. list) lists))) → AreOrdered tables query (flat_map (λ list. list) lists) waiting
  merged_order lists waiting have is rows params =
      let q = question tables query rows params in
      let all = joined lists in
      is
      ∙ ap (map item_of) (sort_by-map key_cmp place_of (placed_combo cols dirs) all)
      ∙ without_places cols dirs (sort_by key_cmp (code_at cols dirs) all)
      ∙ ap (λ (ds : List Dir). sort_by key_cmp (code_at cols ds) all) dirs_are
      ∙ ap (λ (cs : List ColRef). sort_by key_cmp (code_at cs (dirs_of tables query)) all) cols_are
      ∙ sort_alike key_cmp (code_at (cols_of tables query) (dirs_of tables query)) (by_position q) (position q) (HasPosition tables query)
      (λ c d f g. codes_are tables query sound resolved rows params (position q c) (position q d) (each_fits tables query c (position_columns tables query) f) (each_fits tables query d (position_columns tables query) g))
      all (each_flat_map (HasPosition tables query) (λ list. list) lists (λ list here. each_in (AllByRecursion (HasPosition tables query)) lists have list here))
