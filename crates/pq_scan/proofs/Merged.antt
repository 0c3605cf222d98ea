-- Over a content that holds rows: the first candidates by position, with their rows, are what the stop scan means.
use Rattle.std.proofs.Common.{◌≡◌, ℕ, zero, suc, ◌+◌, ◌-◌, ◌≤◌, ◌<◌, inl, inr, List, [], ◌∷◌, ◌++◌, length, get_or, map, take, flat_map, Option, refl, sym, ap, ◌∙◌, subst, arith}
use Rattle.std.specs.List.{AllByRecursion}
use Rattle.std.proofs.lemmas.Bool.{cases_lt}
use Rattle.std.proofs.lemmas.List.{take-map, map-append, length-append}
use Rattle.pq_base.specs.declared.value.Value.{Value}
use Rattle.pq_base.specs.Members.{In}
use Rattle.pq_base.specs.Sorting.{sort_by}
use Rattle.pq_base.specs.Values.{AllFit}
use Rattle.pq_base.proofs.Sorts.{each-sort_by}
use Rattle.pq_key_code.specs.KeyCode.{code_of}
use Rattle.pq_schema.specs.declared.query.Query.{Query}
use Rattle.pq_schema.specs.declared.table.KeyPart.{KeyPart}
use Rattle.pq_schema.specs.declared.table.Table.{Table}
use Rattle.pq_schema.specs.Relations.{table_of}
use Rattle.pq_schema.specs.Rows.{Rows, rows_of, types_of}
use Rattle.pq_store.specs.Content.{Content, key_cmp}
use Rattle.pq_content.specs.Pairs.{Pair, HoldsRows}
use Rattle.pq_plan.specs.Answer.{Question, rows_at, position, in_order, first_past}
use Rattle.pq_plan.specs.Meaning.{read}
use Rattle.pq_plan.proofs.Kept.{row_fits}
use Rattle.pq_nodes.specs.Combos.{FitsTables}
use Rattle.pq_nodes.specs.Operators.{AreInputs, IsCursor}
use Rattle.pq_serving.specs.Laws.{IsScanned}
use Rattle.pq_serving.specs.Scanning.{position_directions, found, scan as scanned}
use Rattle.pq_serving.proofs.Found.{found_is}
use Rattle.pq_serving.proofs.Scans.{sort_by-map}
use Rattle.pq_serving.proofs.Whole.{stop_scans, position_codes}
use Rattle.pq_scan.specs.declared.prepared.Scan.{Scan}
use Rattle.pq_scan.specs.Candidates.{Candidate, held_of, row_candidate, all_candidates, place_in, kept_in, rows_behind, AreCombosOf}
use Rattle.pq_scan.specs.Merging.{place_of}
use Rattle.pq_scan.specs.Prepared.{asked_over, item_directions, IsScannable}
use Rattle.pq_scan.proofs.Told.{map_map}

-- an item of the first list, or of the second
at_front : {X : Type 0} (xs ys : List X) (i : ℕ) (d : X) → i < length xs → get_or (xs ++ ys) i d ≡ get_or xs i d
at_front [] ys i d h = absurd (omega arith)
at_front (x ∷ xs) ys zero d h = refl
at_front (x ∷ xs) ys (suc i) d h = at_front xs ys i d (omega arith)

at_end : {X : Type 0} (xs : List X) (y d : X) (i : ℕ) → i ≡ length xs → get_or (xs ++ y ∷ []) i d ≡ y
at_end [] y d zero h = refl
at_end [] y d (suc i) h = absurd (omega arith)
at_end (x ∷ xs) y d zero h = absurd (omega arith)
at_end (x ∷ xs) y d (suc i) h = at_end xs y d i (omega arith)

-- a combination with one more row that fits
pub fits_more : (tables : List Table) (query : Query) (p : ℕ) → 1 ≤ p → (combo : List (List Value)) (row : List Value) → FitsTables tables query (p - 1) combo → AllFit (types_of (table_of tables query p)) row → FitsTables tables query p (combo ++ row ∷ [])
fits_more tables query p low combo row fits fit = record {
  long = let l = fits.long in let a = length-append combo (row ∷ []) in omega arith;
  rows = λ rel one upto. elim (cases_lt rel p) [
    | inl below ↦
        let l = fits.long in
        let inside : rel - 1 < length combo = omega arith in
        subst (AllFit (types_of (table_of tables query rel))) (sym (at_front combo (row ∷ []) (rel - 1) [] inside)) (fits.rows rel one (omega arith))
    | inr above ↦
        let l = fits.long in
        let same : rel ≡ p = omega arith in
        let last : rel - 1 ≡ length combo = omega arith in
        subst (AllFit (types_of (table_of tables query rel))) (sym (at_end combo row [] (rel - 1) last)) (subst (λ (n : ℕ). AllFit (types_of (table_of tables query n)) row) (sym same) fit)
  ];
}

pub each_take : {X : Type 0} (P : X → Type 0) (k : ℕ) (xs : List X) → AllByRecursion P xs → AllByRecursion P (take k xs)
each_take P zero xs h = tt
each_take P (suc k) [] h = tt
each_take P (suc k) (x ∷ xs) h = (h.0, each_take P k xs h.1)

-- the place of an input, the input, and a row found for it
abbrev Triple : Type 0
Triple = ℕ × List (List Value) × List Value

module _ (scan : Scan) (ready : IsScannable scan) (rows : Rows) (after : Option (List Value)) (cursor : IsCursor scan.catalog.now.tables scan.query.now after) (k : ℕ) where
  abbrev q : Question
  q = asked_over scan rows

  abbrev p : ℕ
  p = scan.rel

  abbrev found_for : List (List Value) → List (List Value)
  found_for c = found q p scan.sequence k after c

  abbrev triples : ℕ → List (List (List Value)) → List Triple
  triples place [] = []
  triples place (c ∷ cs) = map (λ (r : List Value). (place, c, r)) (found_for c) ++ triples (place + 1) cs

  abbrev as_candidate : Triple → Candidate
  as_candidate t = row_candidate scan rows t.0 t.1 t.2

  abbrev as_combo : Triple → List (List Value)
  as_combo t = t.1 ++ t.2 ∷ []

  abbrev row_in : Triple → List Value
  row_in t = t.2

  candidates_of : (place : ℕ) (inputs : List (List (List Value))) → all_candidates scan rows k after place inputs ≡ map as_candidate (triples place inputs)
  candidates_of place [] = refl
  candidates_of place (c ∷ cs) =
      (λ i. sym (map_map (λ (r : List Value). (place, c, r)) as_candidate (found_for c)) i ++ candidates_of (place + 1) cs i)
      ∙ sym (map-append as_candidate (map (λ (r : List Value). (place, c, r)) (found_for c)) (triples (place + 1) cs))

  combos_of : (place : ℕ) (inputs : List (List (List Value))) → flat_map (scanned q p scan.sequence k after) inputs ≡ map as_combo (triples place inputs)
  combos_of place [] = refl
  combos_of place (c ∷ cs) =
      (λ i. sym (map_map (λ (r : List Value). (place, c, r)) as_combo (found_for c)) i ++ combos_of (place + 1) cs i)
      ∙ sym (map-append as_combo (map (λ (r : List Value). (place, c, r)) (found_for c)) (triples (place + 1) cs))

  -- it names one of the inputs, which fits, and a row of the relation
  record IsTriple (place : ℕ) (inputs : List (List (List Value))) (t : Triple) : Type 0 where
    at : ℕ
    is_at : t.0 ≡ place + at
    input : get_or inputs at [] ≡ t.1
    fits : FitsTables q.tables q.query (p - 1) t.1
    row : In t.2 (rows_at q p)

  each_both : (P : Triple → Type 0) (xs ys : List Triple) → AllByRecursion P xs → AllByRecursion P ys → AllByRecursion P (xs ++ ys)
  each_both P [] ys g h = h
  each_both P (x ∷ xs) ys g h = (g.0, each_both P xs ys g.1 h)

  of_first : (place : ℕ) (c : List (List Value)) (cs : List (List (List Value))) → FitsTables q.tables q.query (p - 1) c → (rs : List (List Value)) → ((r : List Value) → In r rs → In r (rows_at q p)) → AllByRecursion (IsTriple place (c ∷ cs)) (map (λ (r : List Value). (place, c, r)) rs)
  of_first place c cs fits [] h = tt
  of_first place c cs fits (r ∷ rs) h = (record { at = 0; is_at = omega arith; input = refl; fits = fits; row = h r (inl refl) }, of_first place c cs fits rs (λ x here. h x (inr here)))

  later : (place : ℕ) (c : List (List Value)) (cs : List (List (List Value))) (ts : List Triple) → AllByRecursion (IsTriple (place + 1) cs) ts → AllByRecursion (IsTriple place (c ∷ cs)) ts
  later place c cs [] h = tt
  later place c cs (t ∷ ts) h = let f = h.0 in let e = f.is_at in (record { at = suc f.at; is_at = omega arith; input = f.input; fits = f.fits; row = f.row }, later place c cs ts h.1)

  triples_are : (place : ℕ) (inputs : List (List (List Value))) → AreInputs q.tables q.query p inputs → AllByRecursion (IsTriple place inputs) (triples place inputs)
  triples_are place [] h = tt
  triples_are place (c ∷ cs) h =
      each_both (IsTriple place (c ∷ cs)) (map (λ (r : List Value). (place, c, r)) (found_for c)) (triples (place + 1) cs)
      (of_first place c cs h.0 (found_for c) (λ r here. (found_is q p scan.sequence after k c r here).0))
      (later place c cs (triples (place + 1) cs) (triples_are (place + 1) cs h.1))

  each_maps : (P : List (List Value) → Type 0) (ts : List Triple) → AllByRecursion (λ t. P (as_combo t)) ts → AllByRecursion P (map as_combo ts)
  each_maps P [] h = tt
  each_maps P (t ∷ ts) h = (h.0, each_maps P ts h.1)

  each_so : (P Q : Triple → Type 0) → ((t : Triple) → P t → Q t) → (ts : List Triple) → AllByRecursion P ts → AllByRecursion Q ts
  each_so P Q so [] h = tt
  each_so P Q so (t ∷ ts) h = (so t h.0, each_so P Q so ts h.1)

  longs : (inputs : List (List (List Value))) → AreInputs q.tables q.query p inputs → AllByRecursion (λ c. suc (length c) ≡ p) inputs
  longs [] h = tt
  longs (c ∷ cs) h = (let f = h.0 in let l = f.long in let low = ready.relation.from_one in omega arith, longs cs h.1)

  module _ (told : Option Content) (others : List Pair) (h : HoldsRows told scan.catalog.now.tables rows others) (inputs : List (List (List Value))) (fit : AreInputs q.tables q.query p inputs) where
    is : IsScanned q p
    is = record { asked = ready.asked; rows = h.keeps; relation = ready.relation; can = ready.can }

    abbrev all : List Triple
    all = triples 0 inputs

    abbrev sorted : List Triple
    sorted = sort_by key_cmp (λ t. place_of (as_candidate t)) all

    combos_fit : AllByRecursion (FitsTables q.tables q.query p) (map as_combo all)
    combos_fit = each_maps (FitsTables q.tables q.query p) all (each_so (IsTriple 0 inputs) (λ t. FitsTables q.tables q.query p (as_combo t)) (λ t f.
        let keeps = h.keeps in
        fits_more q.tables q.query p ready.relation.from_one t.1 t.2 f.fits (row_fits q.tables q.rows keeps.schema _ t.2 f.row)) all (triples_are 0 inputs fit))

    dirs_are : scan.position_dirs ≡ position_directions q p
    dirs_are = ready.sound.position_dirs_is ∙ ap item_directions ready.sound.items_is

    means : map as_combo (take k sorted) ≡ first_past q after k (in_order q (read q p inputs))
    means =
        sym (take-map as_combo k sorted)
        ∙ ap (take k) (sym (sort_by-map key_cmp (λ c. code_of scan.position_dirs (position q c)) as_combo all)
        ∙ (λ i. sort_by key_cmp (λ c. code_of (dirs_are i) (position q c)) (map as_combo all))
        ∙ position_codes q p is (map as_combo all) combos_fit
        ∙ ap (in_order q) (sym (combos_of 0 inputs)))
        ∙ subst (λ (s : List KeyPart). take k (in_order q (flat_map (scanned q p s k after) inputs)) ≡ first_past q after k (in_order q (read q p inputs))) (sym ready.sound.sequence_is)
        (sym (stop_scans q p is scan.access ready.serves after cursor k inputs (longs inputs fit)))

    rows_there : (ts : List Triple) → AllByRecursion (IsTriple 0 inputs) ts → AllByRecursion (λ row. In row (rows_of scan.number rows)) (map row_in ts)
    rows_there [] g = tt
    rows_there (t ∷ ts) g = let triple = g.0 in (subst (λ (n : ℕ). In t.2 (rows_of n rows)) (sym ready.sound.number_is) triple.row, rows_there ts g.1)

    behind_are : (ts : List Triple) → AllByRecursion (IsTriple 0 inputs) ts → rows_behind inputs (map place_in (map as_candidate ts)) (map row_in ts) ≡ map as_combo ts
    behind_are [] g = refl
    behind_are (t ∷ ts) g =
        let triple = g.0 in
        let e = triple.is_at in
        let place : t.0 ≡ triple.at = omega arith in
        let one : get_or inputs t.0 [] ++ t.2 ∷ [] ≡ t.1 ++ t.2 ∷ [] = ap (λ (n : ℕ). get_or inputs n [] ++ t.2 ∷ []) place ∙ ap (λ c. c ++ t.2 ∷ []) triple.input in
        λ i. one i ∷ behind_are ts g.1 i

    fetched : (ts : List Triple) → AllByRecursion (IsTriple 0 inputs) ts → (found : List (List (List Value))) → AreCombosOf scan told inputs (map as_candidate ts) found → found ≡ map as_combo ts
    fetched ts g found a =
        a rows others (map row_in ts) h (rows_there ts g) (map_map as_candidate kept_in ts ∙ sym (map_map row_in (held_of scan.access scan.sequence) ts))
        ∙ behind_are ts g

    pub stop_scan_made : (candidates first : List Candidate) → candidates ≡ all_candidates scan rows k after 0 inputs → first ≡ take k (sort_by key_cmp place_of candidates) → (found : List (List (List Value))) → AreCombosOf scan told inputs first found → found ≡ first_past q after k (in_order q (read q p inputs))
    stop_scan_made candidates first same cut found a =
        let first_is : first ≡ map as_candidate (take k sorted) =
        cut ∙ ap (λ cs. take k (sort_by key_cmp place_of cs)) (same ∙ candidates_of 0 inputs)
        ∙ ap (take k) (sort_by-map key_cmp place_of as_candidate all)
        ∙ take-map as_candidate k sorted in
        fetched (take k sorted) (each_take (IsTriple 0 inputs) k sorted (each-sort_by key_cmp (λ t. place_of (as_candidate t)) (IsTriple 0 inputs) all (triples_are 0 inputs fit))) found (subst (λ cs. AreCombosOf scan told inputs cs found) first_is a)
        ∙ means
