-- Entries with the places of their inputs, and the rows that they name.
use Rattle.std.proofs.Common.{◌≡◌, ℕ, suc, ◌+◌, ◌-◌, ◌*◌, ◌<◌, ◌≤◌, List, [], ◌∷◌, ◌++◌, length, get_or, map, drop, Option, None, Some, IsPermutation, refl, sym, ap, ◌∙◌, subst, arith}
use Rattle.std.specs.Prelude.{IfSome}
use Rattle.std.specs.List.{AllByRecursion}
use Rattle.std.proofs.lemmas.List.{get_or_default, length-append, length-map, length_push, map-append, nil_from_length}
use Rattle.pq_base.specs.Members.{In}
use Rattle.pq_base.specs.Values.{AllFit}
use Rattle.pq_base.specs.declared.value.Value.{Value}
use Rattle.pq_base.proofs.Members.{at_in, each_append, each_in}
use Rattle.pq_schema.specs.declared.table.Access.{Access}
use Rattle.pq_schema.specs.declared.table.Access.TheVariants.{Secondary}
use Rattle.pq_schema.specs.declared.table.Table.{Table}
use Rattle.pq_schema.specs.declared.query.Query.{Query}
use Rattle.pq_schema.specs.Relations.{table_of}
use Rattle.pq_schema.specs.Rows.{Rows, rows_of, types_of}
use Rattle.pq_schema.specs.Sequences.{index_sequence, index_numbered, sequence_of}
use Rattle.pq_schema.specs.Tables.{table_at}
use Rattle.pq_store.specs.Content.{Content}
use Rattle.pq_store.specs.declared.store.Pair.{Pair as StoredPair}
use Rattle.pq_calls.specs.Keys.{sequence_types}
use Rattle.pq_content.specs.Pairs.{Pair, HoldsRows}
use Rattle.pq_store.specs.declared.store.Ends.{Ends}
use Rattle.pq_content.specs.Tables.{values_of, stored_code}
use Rattle.pq_plan.specs.Answer.{question}
use Rattle.pq_plan.specs.Running.{ranged, limit_columns}
use Rattle.pq_nodes.specs.Combos.{FitsTables}
use Rattle.pq_nodes.specs.Operators.{IsAsked}
use Rattle.pq_entries.specs.Entries.{IsKeyThere, AreKeysWithin, AreNamedRows, AreSequenceRows, named_value}
use Rattle.pq_scan.specs.Scanned.{AreReadOf}
use Rattle.pq_index_scan.specs.declared.limit.Entries.{Entries}
use Rattle.pq_index_scan.specs.declared.limit.LimitRange.{LimitRange}
use Rattle.pq_index_scan.specs.Ranged.{IsRangeOf, IsPartBehind, AddsPart, AreFollowed, AreEntriesFrom, ends_behind, followed_at, NamesRanged, AreEntriesBehind, AddsRanged}
use Rattle.pq_index_scan.proofs.Following.{ranged_then}
use Rattle.pq_index_scan.proofs.Parts.{part_few, part_read, part_there, PartNames, part_names}
use Rattle.pq_index_scan.proofs.Ranging.{fits_next}
use Rattle.pq_index_scan.proofs.Read.{entries_next}

-- ---- lists

module _ (inputs : List (List (List Value))) where
  followed_both : (places more : List ℕ) (rows later : List (List Value)) → length rows ≡ length places → followed_at inputs (places ++ more) (rows ++ later) ≡ followed_at inputs places rows ++ followed_at inputs more later
  followed_both [] more [] later long = refl
  followed_both [] more (row ∷ rows) later long = absurd (omega (arith, long))
  followed_both (place ∷ places) more [] later long = absurd (omega (arith, long))
  followed_both (place ∷ places) more (row ∷ rows) later long = ap (λ (l : List (List (List Value))). (get_or inputs place [] ++ row ∷ []) ∷ l) (followed_both places more rows later (omega (arith, long)))

  -- rows behind one input
  followed_one : {X : Type 0} (place : ℕ) (input : List (List Value)) → get_or inputs place [] ≡ input → (held : List X) (rows : List (List Value)) → length held ≡ length rows → followed_at inputs (map (λ h. place) held) rows ≡ map (λ row. input ++ row ∷ []) rows
  followed_one place input at [] [] long = refl
  followed_one place input at (h ∷ held) [] long = absurd (omega (arith, long))
  followed_one place input at [] (row ∷ rows) long = absurd (omega (arith, long))
  followed_one place input at (h ∷ held) (row ∷ rows) long = λ i. (at i ++ row ∷ []) ∷ followed_one place input at held rows (omega (arith, long)) i

  pub followed_few : (places : List ℕ) (rows : List (List Value)) → length (followed_at inputs places rows) ≤ length rows
  followed_few [] rows = omega arith
  followed_few (place ∷ places) [] = omega arith
  followed_few (place ∷ places) (row ∷ rows) = let rest = followed_few places rows in omega (arith, rest)

  pub followed_fit : (tables : List Table) (query : Query) (rel : ℕ) → 1 ≤ rel → AllByRecursion (FitsTables tables query (rel - 1)) inputs → (places : List ℕ) (rows : List (List Value)) → AllByRecursion (λ place. place < length inputs) places → AllByRecursion (AllFit (types_of (table_of tables query rel))) rows
      → AllByRecursion (FitsTables tables query rel) (followed_at inputs places rows)
  followed_fit tables query rel low fits [] rows within fit = tt
  followed_fit tables query rel low fits (place ∷ places) [] within fit = tt
  followed_fit tables query rel low fits (place ∷ places) (row ∷ rows) within fit = (
    fits_next tables query rel low (get_or inputs place []) row (each_in (FitsTables tables query (rel - 1)) inputs fits (get_or inputs place []) (at_in inputs place [] within.0)) fit.0,
    followed_fit tables query rel low fits places rows within.1 fit.1,
  )

  pub none_followed : (places : List ℕ) → followed_at inputs places [] ≡ []
  none_followed [] = refl
  none_followed (place ∷ places) = refl

  -- one more row, behind the input at the next place
  pub followed_more : (places : List ℕ) (rows : List (List Value)) (row : List Value) (place : ℕ) (input : List (List Value)) → length rows < length places → place ≡ get_or places (length rows) 0 → place < length inputs → input ≡ get_or inputs place input → followed_at inputs places (rows ++ row ∷ []) ≡ followed_at inputs places rows ++ (input ++ row ∷ []) ∷ []
  followed_more [] rows row place input less at within is = absurd (omega (arith, less))
  followed_more (p ∷ places) [] row place input less at within is =
      λ i. ((ap (λ (n : ℕ). get_or inputs n []) (sym at) ∙ get_or_default inputs place [] input within ∙ sym is) i ++ row ∷ []) ∷ none_followed places i
  followed_more (p ∷ places) (r ∷ rows) row place input less at within is =
      ap (λ (l : List (List (List Value))). (get_or inputs p [] ++ r ∷ []) ∷ l) (followed_more places rows row place input (omega (arith, less)) at within is)

-- ---- the entries of one more part

module _ (told : Option Content) (tables : List Table) (query : Query) (params : List Value) (range : LimitRange) (inputs : List (List (List Value))) where
  module _ (given : IsAsked tables query params) (is : IsRangeOf tables query range) (place : ℕ) (input : List (List Value)) (low : place < length inputs) (at : input ≡ get_or inputs place input) (fits : FitsTables tables query (range.rel - 1) input) (part : List StoredPair) (behind : IsPartBehind told tables query params range input part)
      (first : List (List (List Value))) (long : length first ≡ place) (before after : Entries) (so_far : AreEntriesBehind told tables query params range inputs first before) (adds : AddsPart tables range place part before after) where
    input_is : get_or inputs place [] ≡ input
    input_is = get_or_default inputs place [] input low ∙ sym at

    all_within : {X : Type 0} (held : List X) → AllByRecursion (λ p. p < length inputs) (map (λ h. place) held)
    all_within [] = tt
    all_within (h ∷ held) = (low, all_within held)

    named_more : (rows : Rows) (others : List Pair) → HoldsRows told tables rows others → NamesRanged tables query params range rows inputs (first ++ input ∷ []) after
    named_more rows others holds =
        let q = question tables query rows params in
        let value = values_of (sequence_of (table_at tables range.number) range.access) in
        let old = so_far.answer rows others holds in
        let new : PartNames tables query params range input rows adds.values = part_names tables query params range input told part behind adds.values adds.long given is fits adds.first rows others holds in
        let old_long = ap (λ (l : List (List Value)). length l) old.values ∙ length-map old.named value in
        let new_long = ap (λ (l : List (List Value)). length l) new.values ∙ length-map new.named value in
        let alike = so_far.alike in
        let places : followed_at inputs after.places (old.named ++ new.named) ≡ followed_at inputs before.places old.named ++ map (λ row. input ++ row ∷ []) new.named =
        ap (λ (ps : List ℕ). followed_at inputs ps (old.named ++ new.named)) adds.places_are
        ∙ followed_both inputs before.places (map (λ held. place) adds.values) old.named new.named (omega (arith, old_long, alike))
        ∙ ap (λ (l : List (List (List Value))). followed_at inputs before.places old.named ++ l) (followed_one inputs place input input_is adds.values new.named new_long) in
        record {
          named = old.named ++ new.named;
          there = each_append (λ row. In row (rows_of range.number rows)) old.named new.named old.there new.there;
          values = adds.values_are ∙ (λ i. old.values i ++ new.values i) ∙ sym (map-append value old.named new.named);
          made = subst (IsPermutation (ranged q range.rel (limit_columns q range.rel range.limit) (first ++ input ∷ []))) (sym places)
              (ranged_then q range.rel (limit_columns q range.rel range.limit) first input (followed_at inputs before.places old.named) new.named old.made new.matches);
        }

    pub more_entries : AreEntriesBehind told tables query params range inputs (first ++ input ∷ []) after
    more_entries =
        let types = AllFit (sequence_types (table_at tables range.number) range.access) in
        let there = IsKeyThere range.number (table_at tables range.number) range.access told in
        record {
          few =
              let values = ap (λ (l : List (List Value)). length l) adds.values_are ∙ length-append before.values adds.values in
              let old = so_far.few in
              let new = part_few tables query params range input told part behind in
              let long = adds.long in
              let all : length after.values ≤ (length first + 1) * range.n = omega (arith, values, old, new, long) in
              subst (λ (n : ℕ). length after.values ≤ n * range.n) (sym (length_push first input)) all;
          alike =
              let values = ap (λ (l : List (List Value)). length l) adds.values_are ∙ length-append before.values adds.values in
              let places = ap (λ (l : List ℕ). length l) adds.places_are ∙ length-append before.places (map (λ held. place) adds.values) in
              let same = length-map adds.values (λ (held : List Value). place) in
              let old = so_far.alike in
              omega (arith, values, places, same, old);
          within = subst (AllByRecursion (λ p. p < length inputs)) (sym adds.places_are) (each_append (λ p. p < length inputs) before.places (map (λ held. place) adds.values) so_far.within (all_within adds.values));
          fit = subst (AllByRecursion types) (sym adds.values_are) (each_append types before.values adds.values so_far.fit adds.fit);
          there = subst (AllByRecursion there) (sym adds.values_are) (each_append there before.values adds.values so_far.there (part_there tables query params range input told part behind adds.values adds.long adds.there));
          codes = entries_next tables query params range told first place input adds.values before after long so_far.codes adds.fit
              (part_read tables query params range input told part behind adds.values adds.long (λ low high limit values content. AreKeysWithin range.number (table_at tables range.number) range.access low high limit values content) adds.keys)
              adds.places_are adds.values_are;
          answer = named_more;
        }

-- ---- the rows that all entries name

pub named_ranged : (told now : Option Content) (tables : List Table) (query : Query) (params : List Value) (range : LimitRange) (inputs : List (List (List Value))) (index : ℕ) → now ≡ told → range.access ≡ Secondary index → (entries : Entries) (values named : List (List Value)) (places : List ℕ) → AreEntriesBehind told tables query params range inputs inputs entries → values ≡ entries.values → places ≡ entries.places
    → ((rows : Rows) (others : List Pair) (wanted : List (List Value)) → HoldsRows now tables rows others → AllByRecursion (λ row. In row (rows_of range.number rows)) wanted → values ≡ map (values_of (index_sequence (table_at tables range.number) (index_numbered (table_at tables range.number) index))) wanted → named ≡ wanted)
    → AddsRanged told tables query params range.rel range.limit inputs [] (followed_at inputs places named)
named_ranged told now tables query params range inputs index later secondary entries values named places is seen placed answer = λ rows others holds.
    let q = question tables query rows params in
    let h = is.answer rows others holds in
    let same = answer rows others h.named (record { keeps = holds.keeps; beside = holds.beside; is = later ∙ holds.is }) h.there
    (seen ∙ h.values ∙ ap (λ (a : Access). map (values_of (sequence_of (table_at tables range.number) a)) h.named) secondary) in (
      followed_at inputs places named,
      refl,
      subst (λ (ps : List ℕ). IsPermutation (ranged q range.rel (limit_columns q range.rel range.limit) inputs) (followed_at inputs ps named)) (sym placed)
          (subst (λ (l : List (List Value)). IsPermutation (ranged q range.rel (limit_columns q range.rel range.limit) inputs) (followed_at inputs entries.places l)) (sym same) h.made),
    )

-- and in any content

module _ (tables : List Table) (query : Query) (params : List Value) (range : LimitRange) (index : ℕ) (secondary : range.access ≡ Secondary index) (content : Content) where
  abbrev table : Table
  table = table_at tables range.number

  abbrev value_at : List Value → Option (List ℕ)
  value_at values = named_value range.number table index content values

  abbrev coded : List Value → Option (List ℕ)
  coded row = Some (stored_code table row)

  -- the rows of two lists of entries are those of the one, and those of the other
  record NamesBoth (values more rows : List (List Value)) : Type 0 where
    first : List (List Value)
    later : List (List Value)
    both : rows ≡ first ++ later
    long : length first ≡ length values
    named : map value_at values ≡ map coded first
    named_later : map value_at more ≡ map coded later

  names_both : (values more rows : List (List Value)) → map value_at (values ++ more) ≡ map coded rows → NamesBoth values more rows
  names_both [] more rows is = record { first = []; later = rows; both = refl; long = refl; named = refl; named_later = is }
  names_both (v ∷ values) more [] is = let long = ap (λ (l : List (Option (List ℕ))). length l) is in absurd (omega (arith, long))
  names_both (v ∷ values) more (row ∷ rows) is =
      let one : value_at v ≡ coded row = ap (λ (l : List (Option (List ℕ))). get_or l 0 None) is in
      let rest = names_both values more rows (ap (λ (l : List (Option (List ℕ))). drop 1 l) is) in
      record {
        first = row ∷ rest.first;
        later = rest.later;
        both = ap (λ (l : List (List Value)). row ∷ l) rest.both;
        long = ap suc rest.long;
        named = λ i. one i ∷ rest.named i;
        named_later = rest.named_later;
      }

  -- the rows of the entries of one range
  rows_of_ends : (ends : Option Ends) (values rows : List (List Value)) → AllByRecursion (AllFit (sequence_types table range.access)) values → AreReadOf (λ low high. AreKeysWithin range.number table range.access low high range.n) ends values content → length rows ≡ length values → map value_at values ≡ map coded rows
      → AreReadOf (λ low high. AreSequenceRows range.number table range.access low high range.n) ends rows content
  rows_of_ends None values rows fit keys long named = nil_from_length rows (long ∙ ap (λ (l : List (List Value)). length l) keys)
  rows_of_ends (Some ends) values rows fit keys long named =
      subst (λ (a : Access). AreSequenceRows range.number table a ends.low ends.high range.n rows content) (sym secondary) (record {
        values = values;
        fit = subst (λ (a : Access). AllByRecursion (AllFit (sequence_types table a)) values) secondary fit;
        within = subst (λ (a : Access). AreKeysWithin range.number table a ends.low ends.high range.n values content) secondary keys;
        named = named;
      })

  rows_followed : (inputs : List (List (List Value))) (place : ℕ) (left : List (List (List Value))) (entries : Entries) (rows : List (List Value)) → ((i : ℕ) → get_or inputs (place + i) [] ≡ get_or left i []) → AreEntriesFrom tables query params range place left entries content → map value_at entries.values ≡ map coded rows
      → AreFollowed tables query params range left (followed_at inputs entries.places rows) content
  rows_followed inputs place [] entries rows at h named = ap (λ (l : List ℕ). followed_at inputs l rows) h.0
  rows_followed inputs place (input ∷ left) entries rows at h named =
      let both = names_both h.0 h.1.values rows (sym (ap (map value_at) h.5) ∙ named) in
      let start : place ≡ place + 0 = omega arith in
      let here : get_or inputs place [] ≡ input = ap (λ (n : ℕ). get_or inputs n []) start ∙ at 0 in
      let places : List ℕ = map (λ (held : List Value). place) h.0 in
      let as_many : length both.first ≡ length places = both.long ∙ sym (length-map h.0 (λ (held : List Value). place)) in (
        both.first,
        followed_at inputs h.1.places both.later,
        rows_of_ends (ends_behind tables query params range input) h.0 both.first h.2 h.3 both.long both.named,
        (λ i. followed_at inputs (h.4 i) (both.both i))
            ∙ followed_both inputs places h.1.places both.first both.later as_many
            ∙ ap (λ (l : List (List (List Value))). l ++ followed_at inputs h.1.places both.later) (followed_one inputs place input here h.0 both.first (sym both.long)),
        rows_followed inputs (place + 1) left h.1 both.later (λ i. let more : (place + 1) + i ≡ place + suc i = omega arith in ap (λ (n : ℕ). get_or inputs n []) more ∙ at (suc i)) h.6 both.named_later,
      )

pub named_followed : (told now : Option Content) (tables : List Table) (query : Query) (params : List Value) (range : LimitRange) (inputs : List (List (List Value))) (index : ℕ) → now ≡ told → range.access ≡ Secondary index → (entries : Entries) (values named : List (List Value)) (places : List ℕ) → IfSome told (AreEntriesFrom tables query params range 0 inputs entries) → values ≡ entries.values → places ≡ entries.places
    → IfSome now (AreNamedRows range.number (table_at tables range.number) index values named) → IfSome told (AreFollowed tables query params range inputs (followed_at inputs places named))
named_followed None now tables query params range inputs index later secondary entries values named places h seen placed answer = tt
named_followed (Some content) now tables query params range inputs index later secondary entries values named places h seen placed answer =
    let own : AreNamedRows range.number (table_at tables range.number) index values named content = subst (λ (o : Option Content). IfSome o (AreNamedRows range.number (table_at tables range.number) index values named)) later answer in
    subst (λ (l : List ℕ). AreFollowed tables query params range inputs (followed_at inputs l named) content) (sym placed)
    (rows_followed tables query params range index secondary content inputs 0 inputs entries named (λ i. let same : 0 + i ≡ i = omega arith in ap (λ (n : ℕ). get_or inputs n []) same) h
    (subst (λ (l : List (List Value)). AreNamedRows range.number (table_at tables range.number) index l named content) seen own))
