-- What the answers to all ranges at once make of the inputs.
use Rattle.std.proofs.Common.{◌≡◌, ℕ, zero, suc, ◌-◌, ◌≤◌, ◌<◌, Bool, true, false, cond, List, [], ◌∷◌, ◌++◌, length, get_or, map, take, Option, Some, None, refl, sym, ap, ◌∙◌, subst, arith}
use Rattle.std.specs.Prelude.{All, Err, IfSome}
use Rattle.std.specs.List.{AllByRecursion, AllZip}
use Rattle.std.proofs.lemmas.List.{append-nil, length-map, nil_from_length}
use Rattle.pq_base.specs.declared.value.Value.{Value}
use Rattle.pq_schema.specs.declared.table.Access.{Access}
use Rattle.pq_schema.specs.declared.table.Access.TheVariants.{Primary, Secondary}
use Rattle.pq_schema.specs.declared.table.Table.{Table}
use Rattle.pq_schema.specs.Sequences.{sequence_of}
use Rattle.pq_store.specs.Breaks.{IsAnswered}
use Rattle.pq_store.specs.Content.{Content, AreAnswers, entry, pairs_within}
use Rattle.pq_store.specs.Rounds.{ArePairsOf, IsPartAsked}
use Rattle.pq_store.specs.declared.damage.Broke.{Broke}
use Rattle.pq_store.specs.declared.damage.Broke.TheVariants.{Failed, NoMem, Damaged}
use Rattle.pq_store.specs.declared.store.Ends.{Ends}
use Rattle.pq_store.specs.declared.store.Pair.{Pair}
use Rattle.pq_calls.specs.World.{World, Explains, where_told}
use Rattle.pq_content.specs.Pairs.{row_pair}
use Rattle.pq_content.specs.Tables.{values_of}
use Rattle.pq_entries.specs.Entries.{AreOfRange, OfEachRange, IsUnread, OneShows, TellsPair, key_front, pair_of}
use Rattle.pq_entries.proofs.Answered.{read_answered}
use Rattle.pq_entries.proofs.Told.{part_long, unread_explains}
use Rattle.pq_entries.proofs.Zipped.{zipped_at}
use Rattle.pq_nodes.specs.Combos.{FitsTables}
use Rattle.pq_nodes.specs.Operators.{IsCursor, ShowsRead}
use Rattle.pq_serving.specs.Scanning.{passes}
use Rattle.pq_scan.specs.declared.forms.PlaceForm.{PlaceForm}
use Rattle.pq_scan.specs.declared.prepared.Scan.{Scan}
use Rattle.pq_scan.specs.Asked.{input_at, range_of, range_asked, constants_asked, AddsHeld}
use Rattle.pq_scan.specs.Candidates.{Candidate, scanned_table, AreHeldWithin, AreFirst, IsHeld, IsCandidate, AddsCandidates, candidate_at}
use Rattle.pq_scan.specs.Forms.{form_asked}
use Rattle.pq_scan.specs.Inputs.{low_code, high_code}
use Rattle.pq_scan.specs.Prepared.{asked_over, IsScannable}
use Rattle.pq_scan.specs.Scanned.{AreReadOf}
use Rattle.pq_scan.proofs.Gathered.{AddsGathered}
use Rattle.pq_scan.proofs.Steps.{each_at}
use Rattle.pq_scan.proofs.Reading.{adds, skips, kept_more}

-- ---- lists, place by place

at_itself : {A : Type 0} (xs : List A) (i : ℕ) (d : A) → i < length xs → get_or xs i d ≡ get_or xs i (get_or xs i d)
at_itself [] i d less = absurd (omega arith)
at_itself (x ∷ xs) zero d less = refl
at_itself (x ∷ xs) (suc i) d less = at_itself xs i d (omega arith)

map_at : {A B : Type 0} (f : A → B) (xs : List A) (i : ℕ) (x : A) (y : B) → i < length xs → x ≡ get_or xs i x → y ≡ get_or (map f xs) i y → y ≡ f x
map_at f [] i x y less at at' = absurd (omega arith)
map_at f (w ∷ xs) zero x y less at at' = at' ∙ ap f (sym at)
map_at f (w ∷ xs) (suc i) x y less at at' = map_at f xs i x y (omega arith) at at'

mapped_zip : {A B D : Type 0} (f : A → B) (R : B → D → Type 0) (xs : List A) (ys : List D) → AllZip R (map f xs) ys → AllZip (λ x y. R (f x) y) xs ys
mapped_zip f R [] [] h = tt
mapped_zip f R [] (y ∷ ys) h = absurd h
mapped_zip f R (x ∷ xs) [] h = absurd h
mapped_zip f R (x ∷ xs) (y ∷ ys) h = (h.0, mapped_zip f R xs ys h.1)

-- ---- no pairs

nothing_taken : {A B : Type 0} (f : A → B) (n : ℕ) (xs : List A) → [] ≡ take n (map f xs) → [] ≡ take n xs
nothing_taken f zero xs h = refl
nothing_taken f (suc n) [] h = refl
nothing_taken f (suc n) (x ∷ xs) h = cc

first_none : (t : ℕ) (table : Table) (access : Access) (low high : List ℕ) (limit : ℕ) (content : Content) → [] ≡ take limit (pairs_within content low high) → AreFirst t table access low high limit [] content
first_none t table Primary low high limit content is = λ rows fit range. nothing_taken (row_pair t table) limit rows (is ∙ ap (take limit) range)
first_none t table (Secondary index) low high limit content is = λ rows fit range.
    ap (map (values_of (sequence_of table (Secondary index)))) (nothing_taken (pair_of t table (Secondary index)) limit rows (is ∙ ap (take limit) range))

within_none : (t : ℕ) (table : Table) (access : Access) (low high : List ℕ) (limit : ℕ) (content : Content) → [] ≡ take limit (pairs_within content low high) → AreHeldWithin t table access low high limit [] content
within_none t table Primary low high limit content is = ap (map (λ pair. pair.1)) is
within_none t table (Secondary index) low high limit content is = ap (map (λ pair. pair.0)) is

-- of no pairs nothing is kept
pub none_held : (scan : Scan) (constants : List (Option Value)) (place : ℕ) (pairs : List Pair) (old : List Candidate) → pairs ≡ [] → AddsHeld scan constants place pairs old old
none_held scan constants place pairs old is = record {
  held = [];
  long = sym (ap (λ (l : List Pair). length l) is);
  fit = λ told low high limit of. tt;
  within = λ told low high limit of. within told low high limit of.are;
  first = λ told low high limit of. by told low high limit of.are;
  is = sym (append-nil old);
}
  where
    by : (told : Option Content) (low high : List ℕ) (limit : ℕ) → IfSome told (λ content. map entry pairs ≡ take limit (pairs_within content low high)) → IfSome told (AreFirst scan.number (scanned_table scan) scan.access low high limit [])
    by None low high limit are = tt
    by (Some content) low high limit are = first_none scan.number (scanned_table scan) scan.access low high limit content (ap (map entry) (sym is) ∙ are)

    within : (told : Option Content) (low high : List ℕ) (limit : ℕ) → IfSome told (λ content. map entry pairs ≡ take limit (pairs_within content low high)) → IfSome told (AreHeldWithin scan.number (scanned_table scan) scan.access low high limit [])
    within None low high limit are = tt
    within (Some content) low high limit are = within_none scan.number (scanned_table scan) scan.access low high limit content (ap (map entry) (sym is) ∙ are)

-- ---- one input

module _ (scan : Scan) (after : Option (List Value)) (combo : List (List Value)) (limit : ℕ) (pairs : List Pair) (part : IsPartAsked limit (range_asked scan after combo) pairs) where
  abbrev passed : Bool
  passed = passes (asked_over scan []) scan.rel combo

  abbrev range : Ends
  range = range_of scan after combo

  asked_as : (b : Bool) → passed ≡ b → range_asked scan after combo ≡ cond b (Some range) None
  asked_as b is = ap (λ (c : Bool). cond c (Some range) None) is

  -- where nothing is asked there are no pairs
  no_pairs : passed ≡ false → pairs ≡ []
  no_pairs is = subst (λ (o : Option Ends). IsPartAsked limit o pairs) (asked_as false is) part

  -- and else those of the range
  of_range : (told : Option Content) → ArePairsOf told limit (range_asked scan after combo) pairs → passed ≡ true → AreOfRange scan.number scan.access told range.low range.high limit pairs
  of_range told are is = record {
    ends = record { from = (low_code scan combo (input_at scan combo) after, refl); upto = (high_code scan combo (input_at scan combo), refl) };
    part = subst (λ (o : Option Ends). IsPartAsked limit o pairs) (asked_as true is) part;
    are = subst (λ (o : Option Ends). ArePairsOf told limit o pairs) (asked_as true is) are;
  }

  untold : ArePairsOf None limit (range_asked scan after combo) pairs
  untold = tt

  -- each key is long enough
  pub fronts_there : All (λ (pair : Pair). length (key_front 0 scan.access) ≤ length pair.key) pairs
  fronts_there = by passed refl
    where
      by : (b : Bool) → passed ≡ b → All (λ (pair : Pair). length (key_front 0 scan.access) ≤ length pair.key) pairs
      by true is = let of = of_range None untold is in part_long scan.number scan.access range.low range.high limit pairs of.ends of.part
      by false is = subst (All (λ (pair : Pair). length (key_front 0 scan.access) ≤ length pair.key)) (sym (no_pairs is)) (λ i d less. absurd (omega arith))

  -- ---- why its pairs can't be read

  none_shown : (a b : World) (why : Broke) → IsUnread (OneShows TellsPair []) why → Explains (where_told (ShowsRead scan.catalog.now.tables)) a b why
  none_shown a b Failed h = absurd h
  none_shown a b NoMem h = tt
  none_shown a b (Damaged damage) h = absurd h.1

  pub found_stops : (a b : World) → ArePairsOf a.told limit (range_asked scan after combo) pairs → (why : Broke) → OfEachRange scan.number scan.access pairs (λ told low high limit. IsUnread (where_told (ShowsRead scan.catalog.now.tables) told) why) → IsUnread (OneShows TellsPair (map entry pairs)) why → Explains (where_told (ShowsRead scan.catalog.now.tables)) a b why
  found_stops a b are why cause tells = by passed refl
    where
      by : (c : Bool) → passed ≡ c → Explains (where_told (ShowsRead scan.catalog.now.tables)) a b why
      by true is = unread_explains (where_told (ShowsRead scan.catalog.now.tables)) a b why (cause a.told range.low range.high limit (of_range a.told are is))
      by false is = none_shown a b why (subst (λ (l : List Pair). IsUnread (OneShows TellsPair (map entry l)) why) (no_pairs is) tells)

  -- ---- what is found of them

  module _ (told : Option Content) (are : ArePairsOf told limit (range_asked scan after combo) pairs) (constants : List (Option Value)) (constants_is : constants ≡ constants_asked scan combo) (place : ℕ) (old new : List Candidate) (made : AddsHeld scan constants place pairs old new) where
    constants_as : passed ≡ true → constants ≡ (input_at scan combo).constants
    constants_as is = constants_is ∙ ap (λ (b : Bool). cond b (input_at scan combo).constants []) is

    none_kept : passed ≡ false → made.held ≡ []
    none_kept is = nil_from_length made.held (made.long ∙ ap (λ (l : List Pair). length l) (no_pairs is))

    none_added : passed ≡ false → new ≡ old
    none_added is = made.is ∙ ap (λ (l : List (List Value)). old ++ map (candidate_at scan constants place) l) (none_kept is) ∙ append-nil old

    -- in any content
    abbrev Within : Option Ends → Content → Type 0
    Within ends content = AreReadOf (λ low high. AreHeldWithin scan.number (scanned_table scan) scan.access low high limit) ends made.held content

    adds_gathered : (o : Option Content) → AllByRecursion (IsHeld scan o) made.held → IfSome o (Within (range_asked scan after combo)) → IfSome o (AddsGathered scan limit after place combo old new)
    adds_gathered None fit within = tt
    adds_gathered (Some content) fit within =
        (made.held, record { fit = fit; within = within }, made.is ∙ ap (λ (gs : List (Option Value)). old ++ map (candidate_at scan gs place) made.held) constants_is)

    nothing : (o : Option Content) → made.held ≡ [] → IfSome o (Within None)
    nothing None none = tt
    nothing (Some content) none = none

    pub found_gathered : IfSome told (AddsGathered scan limit after place combo old new)
    found_gathered = by passed refl
      where
        by : (b : Bool) → passed ≡ b → IfSome told (AddsGathered scan limit after place combo old new)
        by true is =
            let of = of_range told are is in
            adds_gathered told (made.fit told range.low range.high limit of)
            (subst (λ (o : Option Ends). IfSome told (Within o)) (sym (asked_as true is)) (made.within told range.low range.high limit of))
        by false is =
            adds_gathered told (subst (AllByRecursion (IsHeld scan told)) (sym (none_kept is)) tt)
            (subst (λ (o : Option Ends). IfSome told (Within o)) (sym (asked_as false is)) (nothing told (none_kept is)))

    pub found_adds : IsScannable scan → IsCursor scan.catalog.now.tables scan.query.now after → FitsTables scan.catalog.now.tables scan.query.now (scan.rel - 1) combo → AddsCandidates scan told limit after place combo old new
    found_adds ready cursor fits = by passed refl
      where
        by : (b : Bool) → passed ≡ b → AddsCandidates scan told limit after place combo old new
        by true is =
            adds scan told after combo limit place ready cursor fits is (input_at scan combo) (record { ties_is = refl; constants_is = refl })
            range.low range.high refl refl made.held (made.first told range.low range.high limit (of_range told are is)) old new
            (made.is ∙ ap (λ (gs : List (Option Value)). old ++ map (candidate_at scan gs place) made.held) (constants_as is))
        by false is = subst (AddsCandidates scan told limit after place combo old) (sym (none_added is)) (skips scan told after combo limit place is old)

    pub found_kept : (count : ℕ) → place < count → AllByRecursion (IsCandidate scan told count) old → AllByRecursion (IsCandidate scan told count) new
    found_kept count inside all = by passed refl
      where
        by : (b : Bool) → passed ≡ b → AllByRecursion (IsCandidate scan told count) new
        by true is =
            subst (AllByRecursion (IsCandidate scan told count)) (sym made.is)
            (kept_more scan told after combo limit place count inside constants made.held (made.fit told range.low range.high limit (of_range told are is)) old all)
        by false is = subst (AllByRecursion (IsCandidate scan told count)) (sym (none_added is)) all

-- ---- the input at a place

-- damage that is told of a part was answered
pub found_answered : (answers : List ℕ → Option (List ℕ) → Type 0) (pairs : List Pair) → AreAnswers answers pairs → (why : Broke) → IsUnread (OneShows TellsPair (map entry pairs)) why → IsAnswered answers why
found_answered answers pairs each why tells = read_answered answers (map entry pairs) each TellsPair (λ pair damage told. told) {A = ℕ} (Err why) tells

module _ (scan : Scan) (after : Option (List Value)) (inputs : List (List (List Value))) (place : ℕ) (within : place < length inputs) where
  abbrev combo : List (List Value)
  combo = get_or inputs place []

  pub combo_here : combo ≡ get_or inputs place combo
  combo_here = at_itself inputs place [] within

  pub form_here : (forms listed : List PlaceForm) (one : PlaceForm) → forms ≡ map (form_asked scan) inputs → listed ≡ forms → one ≡ get_or listed place one → one ≡ form_asked scan combo
  form_here forms listed one is given at =
      map_at (form_asked scan) inputs place combo one within combo_here (subst (λ (l : List PlaceForm). one ≡ get_or l place one) (given ∙ is) at)

  module _ (asked ranges : List (Option Ends)) (parts listed : List (List Pair)) (one pairs : List Pair) (given : asked ≡ ranges) (is : ranges ≡ map (range_asked scan after) inputs) (told : listed ≡ parts) (at : one ≡ get_or listed place one) (same : pairs ≡ one) where
    one_here : one ≡ get_or parts place one
    one_here = subst (λ (l : List (List Pair)). one ≡ get_or l place one) told at

    pub pairs_here : (R : Option Ends → List Pair → Type 0) → AllZip R asked parts → R (range_asked scan after combo) pairs
    pairs_here R all =
        subst (R (range_asked scan after combo)) (sym same)
        (zipped_at (λ (c : List (List Value)) (ps : List Pair). R (range_asked scan after c) ps) inputs parts place combo one
        (mapped_zip (range_asked scan after) R inputs parts (subst (λ (l : List (Option Ends)). AllZip R l parts) (given ∙ is) all)) within combo_here one_here)

    pub each_here : (P : List Pair → Type 0) → length parts ≡ length asked → AllByRecursion P parts → P pairs
    each_here P long all =
        let as_many = long ∙ ap (λ (l : List (Option Ends)). length l) (given ∙ is) ∙ length-map inputs (range_asked scan after) in
        subst P (sym same) (each_at P parts place one all (omega (arith, within, as_many)) one_here)
