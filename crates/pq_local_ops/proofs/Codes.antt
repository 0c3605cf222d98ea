-- By the codes of positions is by positions.
use Rattle.std.proofs.Common.{◌≡◌, ℕ, ◌<◌, List, [], ◌∷◌, length, map, filter, Some, Result, Ok, Err, refl, sym, ap, subst, ◌∙◌, arith}
use Rattle.std.specs.Prelude.{IfOk}
use Rattle.std.proofs.lemmas.List.{length-map}
use Rattle.std.specs.List.{AllByRecursion}
use Rattle.std.specs.Ordering.{is_lt}
use Rattle.pq_base.specs.Sorting.{sort_by}
use Rattle.pq_base.specs.Values.{AllFit}
use Rattle.pq_base.specs.declared.value.ColType.{ColType}
use Rattle.pq_base.specs.declared.value.Dir.{Dir}
use Rattle.pq_base.specs.declared.value.Value.{Value}
use Rattle.pq_base.proofs.Members.{filter_same}
use Rattle.pq_key_code.specs.KeyCode.{code_of}
use Rattle.pq_key_code.proofs.Order.{codes_cmp}
use Rattle.pq_base.proofs.TypeFits.{length_from_fits}
use Rattle.pq_schema.specs.declared.query.ColRef.{ColRef}
use Rattle.pq_schema.specs.declared.query.OrderItem.{OrderItem}
use Rattle.pq_schema.specs.declared.query.Query.{Query}
use Rattle.pq_schema.specs.declared.table.Table.{Table}
use Rattle.pq_schema.specs.Relations.{position_columns}
use Rattle.pq_schema.specs.Resolved.{IsResolved}
use Rattle.pq_schema.specs.Rows.{Rows}
use Rattle.pq_schema.specs.Sound.{IsQuery}
use Rattle.pq_store.specs.Content.{key_cmp}
use Rattle.pq_plan.specs.Answer.{values_at, position, by_position, in_order, past, question}
use Rattle.pq_nodes.specs.Combos.{FitsTables, position_types}
use Rattle.pq_nodes.proofs.Fitting.{position_fits}
use Rattle.pq_serving.proofs.Keys.{Fits, fits_values, fits_kinds}
use Rattle.pq_serving.proofs.Scans.{sort_alike, sort_by-map}
use Rattle.pq_schema.proofs.TypeKinds.{kind_from_fit}
use Rattle.pq_local_ops.specs.Codes.{code_at, is_above, coded_combo}
use Rattle.pq_local_ops.specs.Lists.{AreOrdered, ArePast, ArePart, IsPositionOf}
use Rattle.pq_local_ops.proofs.Parts.{part_sort, sort_few}
use Rattle.pq_local_ops.specs.declared.sort.Coded.{Coded}

pub of_kinds : (types : List ColType) (values : List Value) → AllFit types values → Fits types values
of_kinds [] [] h = tt
of_kinds [] (x ∷ xs) h = absurd h
of_kinds (t ∷ ts) [] h = absurd h
of_kinds (t ∷ ts) (x ∷ xs) h = (kind_from_fit t x h.0, of_kinds ts xs h.1)

-- the columns of the position, and their directions
abbrev pub cols_of : List Table → Query → List ColRef
cols_of tables query = map (λ (item : OrderItem). item.col) (position_columns tables query)

abbrev pub dirs_of : List Table → Query → List Dir
dirs_of tables query = map (λ (item : OrderItem). item.dir) (position_columns tables query)

module _ (tables : List Table) (query : Query) where
  pub same_long : length (cols_of tables query) ≡ length (dirs_of tables query)
  same_long = length-map (position_columns tables query) (λ (item : OrderItem). item.col) ∙ sym (length-map (position_columns tables query) (λ (item : OrderItem). item.dir))

  pub cursor_long : (after : List Value) → AllFit (position_types tables query) after → length after ≡ length (dirs_of tables query)
  cursor_long after fits =
      length_from_fits (position_types tables query) after fits ∙ length-map (position_columns tables query) _ ∙ sym (length-map (position_columns tables query) (λ (item : OrderItem). item.dir))

  module _ (sound : IsQuery tables query) (resolved : IsResolved tables query) (rows : Rows) (params : List Value) where
    -- values that fit the position columns are in order by their codes
    pub codes_are : (xs ys : List Value) → AllFit (position_types tables query) xs → AllFit (position_types tables query) ys → key_cmp (code_of (dirs_of tables query) xs) (code_of (dirs_of tables query) ys) ≡ by_position (question tables query rows params) xs ys
    codes_are xs ys f g =
        let types = position_types tables query in
        let a = of_kinds types xs f in
        let b = of_kinds types ys g in
        let m = cursor_long xs f in
        let n = cursor_long ys g in
        codes_cmp (dirs_of tables query) xs ys (fits_values types xs a) (fits_values types ys b) (fits_kinds types xs ys a b) (omega arith) (omega arith)

    abbrev Whole : List (List Value) → Type 0
    Whole combo = FitsTables tables query (length query.relations) combo

    fits_of : (combo : List (List Value)) → Whole combo → AllFit (position_types tables query) (position (question tables query rows params) combo)
    fits_of combo fits = position_fits tables query sound resolved rows params combo fits

    -- the sort by codes
    pub sorted_is : (combos : List (List (List Value))) → AllByRecursion Whole combos → sort_by key_cmp (code_at (cols_of tables query) (dirs_of tables query)) combos ≡ in_order (question tables query rows params) combos
    sorted_is combos fits =
        sort_alike key_cmp (code_at (cols_of tables query) (dirs_of tables query)) (by_position (question tables query rows params)) (position (question tables query rows params)) Whole
        (λ c d f g. codes_are (position (question tables query rows params) c) (position (question tables query rows params) d) (fits_of c f) (fits_of d g))
        combos fits

    -- those above the code of a position are those after it
    pub past_is : (after : List Value) → AllFit (position_types tables query) after → (combos : List (List (List Value))) → AllByRecursion Whole combos → filter (is_above (cols_of tables query) (dirs_of tables query) (code_of (dirs_of tables query) after)) combos ≡ past (question tables query rows params) (Some after) combos
    past_is after fits combos all = filter_same _ _ combos (each combos all)
      where
        each : (combos : List (List (List Value))) → AllByRecursion Whole combos → AllByRecursion (λ combo. is_above (cols_of tables query) (dirs_of tables query) (code_of (dirs_of tables query) after) combo ≡ is_lt (by_position (question tables query rows params) after (position (question tables query rows params) combo))) combos
        each [] all = tt
        each (combo ∷ combos) all = (ap is_lt (codes_are after (position (question tables query rows params) combo) fits (fits_of combo all.0)), each combos all.1)

-- without the codes they are as they were
without_codes : (cols : List ColRef) (dirs : List Dir) (combos : List (List (List Value))) → map (λ (item : Coded). item.combo) (map (coded_combo cols dirs) combos) ≡ combos
without_codes cols dirs [] = refl
without_codes cols dirs (combo ∷ combos) = ap (λ (l : List (List (List Value))). combo ∷ l) (without_codes cols dirs combos)

-- the sort of combinations with their codes
pub coded_is : (cols : List ColRef) (dirs : List Dir) (combos : List (List (List Value))) → map (λ (item : Coded). item.combo) (sort_by key_cmp (λ (item : Coded). item.code) (map (coded_combo cols dirs) combos)) ≡ sort_by key_cmp (code_at cols dirs) combos
coded_is cols dirs combos =
    ap (map (λ (item : Coded). item.combo)) (sort_by-map key_cmp (λ (item : Coded). item.code) (coded_combo cols dirs) combos)
    ∙ without_codes cols dirs (sort_by key_cmp (code_at cols dirs) combos)

-- what holds of an answer gives what follows from it
pub ok_more : {A E : Type 0} (P Q : A → Type 0) → ((x : A) → P x → Q x) → (r : Result A E) → IfOk r P → IfOk r Q
ok_more P Q more (Ok x) p = more x p
ok_more P Q more (Err e) p = tt

module _ (tables : List Table) (query : Query) (sound : IsQuery tables query) (resolved : IsResolved tables query) (cols : List ColRef) (dirs : List Dir) (cols_are : cols ≡ cols_of tables query) (dirs_are : dirs ≡ dirs_of tables query) where
  abbrev AllWhole : List (List (List Value)) → Type 0
  AllWhole combos = AllByRecursion (FitsTables tables query (length query.relations)) combos

  pub position_is : (combo : List (List Value)) (values : List Value) → values ≡ values_at combo cols → IsPositionOf tables query combo values
  position_is combo values is rows params = is ∙ ap (values_at combo) cols_are

  pub position_typed : (combo : List (List Value)) (values : List Value) → values ≡ values_at combo cols → FitsTables tables query (length query.relations) combo → AllFit (position_types tables query) values
  position_typed combo values is fits = subst (AllFit (position_types tables query)) (sym (position_is combo values is [] [])) (position_fits tables query sound resolved [] [] combo fits)

  pub kept_past : (after : List Value) (code : List ℕ) (combos kept : List (List (List Value))) → code ≡ code_of dirs after → AllFit (position_types tables query) after → AllWhole combos → kept ≡ filter (is_above cols dirs code) combos → ArePast tables query after combos kept
  kept_past after code combos kept code_is fits all is rows params =
      is
      ∙ ap (λ (k : List ℕ). filter (is_above cols dirs k) combos) code_is
      ∙ ap (λ (ds : List Dir). filter (is_above cols ds (code_of ds after)) combos) dirs_are
      ∙ ap (λ (cs : List ColRef). filter (is_above cs (dirs_of tables query) (code_of (dirs_of tables query) after)) combos) cols_are
      ∙ past_is tables query sound resolved rows params after fits combos all

  sorted_codes : (combos ordered : List (List (List Value))) → ordered ≡ map (λ (item : Coded). item.combo) (sort_by key_cmp (λ (item : Coded). item.code) (map (coded_combo cols dirs) combos)) → ordered ≡ sort_by key_cmp (code_at cols dirs) combos
  sorted_codes combos ordered is = is ∙ coded_is cols dirs combos

  pub sorted_order : (combos ordered : List (List (List Value))) → AllWhole combos → ordered ≡ map (λ (item : Coded). item.combo) (sort_by key_cmp (λ (item : Coded). item.code) (map (coded_combo cols dirs) combos)) → AreOrdered tables query combos ordered
  sorted_order combos ordered all is rows params =
      sorted_codes combos ordered is
      ∙ ap (λ (ds : List Dir). sort_by key_cmp (code_at cols ds) combos) dirs_are
      ∙ ap (λ (cs : List ColRef). sort_by key_cmp (code_at cs (dirs_of tables query)) combos) cols_are
      ∙ sorted_is tables query sound resolved rows params combos all

  pub sorted_part : (combos ordered : List (List (List Value))) → ordered ≡ map (λ (item : Coded). item.combo) (sort_by key_cmp (λ (item : Coded). item.code) (map (coded_combo cols dirs) combos)) → ArePart combos ordered
  sorted_part combos ordered is = part_sort key_cmp (code_at cols dirs) combos ordered (sorted_codes combos ordered is)

-- fewer than two are in order
pub few_order : (tables : List Table) (query : Query) (combos : List (List (List Value))) → length combos < 2 → AreOrdered tables query combos combos
few_order tables query combos few rows params =
    sym (sort_few (by_position (question tables query rows params)) (position (question tables query rows params)) combos few)
