-- Inputs that are followed by the rows that any content has for them, one after the other.
use Rattle.std.proofs.Common.{◌≡◌, ℕ, suc, ◌+◌, List, [], ◌∷◌, ◌++◌, length, map, Option, None, Some, refl, sym, ap, ◌∙◌, subst, arith, append_assoc}
use Rattle.std.specs.Prelude.{IfSome}
use Rattle.std.specs.List.{AllByRecursion}
use Rattle.std.proofs.lemmas.List.{append-nil}
use Rattle.pq_base.specs.Values.{AllFit}
use Rattle.pq_base.specs.declared.value.Value.{Value}
use Rattle.pq_schema.specs.declared.table.Table.{Table}
use Rattle.pq_schema.specs.declared.query.Query.{Query}
use Rattle.pq_schema.specs.Tables.{table_at}
use Rattle.pq_store.specs.Content.{Content}
use Rattle.pq_calls.specs.Keys.{sequence_types}
use Rattle.pq_index_scan.specs.declared.limit.Entries.{Entries}
use Rattle.pq_index_scan.specs.declared.limit.LimitRange.{LimitRange}
use Rattle.pq_index_scan.specs.Ranged.{AreRowsBehind, AreFollowed, AreValuesBehind, AreEntriesFrom}

module _ (tables : List Table) (query : Query) (params : List Value) (range : LimitRange) where
  -- ---- one input more

  followed_last : (content : Content) (inputs : List (List (List Value))) (input : List (List Value)) (rows : List (List Value)) (found : List (List (List Value))) → AreFollowed tables query params range inputs found content → AreRowsBehind tables query params range input rows content → AreFollowed tables query params range (inputs ++ input ∷ []) (found ++ map (λ row. input ++ row ∷ []) rows) content
  followed_last content [] input rows found none now =
      let more = map (λ (row : List Value). input ++ row ∷ []) rows in
      (rows, [], now, ap (λ (l : List (List (List Value))). l ++ more) none ∙ sym (append-nil more), refl)
  followed_last content (c ∷ inputs) input rows found h now =
      let more = map (λ (row : List Value). input ++ row ∷ []) rows in
      (h.0, h.1 ++ more, h.2, ap (λ (l : List (List (List Value))). l ++ more) h.3 ∙ append_assoc (map (λ row. c ++ row ∷ []) h.0) h.1 more, followed_last content inputs input rows h.1 h.4 now)

  pub followed_next : (told : Option Content) (inputs : List (List (List Value))) (input : List (List Value)) (rows : List (List Value)) (found after : List (List (List Value))) → IfSome told (AreFollowed tables query params range inputs found) → IfSome told (AreRowsBehind tables query params range input rows) → after ≡ found ++ map (λ row. input ++ row ∷ []) rows → IfSome told (AreFollowed tables query params range (inputs ++ input ∷ []) after)
  followed_next None inputs input rows found after h now is = tt
  followed_next (Some content) inputs input rows found after h now is = subst (λ (l : List (List (List Value))). AreFollowed tables query params range (inputs ++ input ∷ []) l content) (sym is) (followed_last content inputs input rows found h now)

  -- ---- the entries of one input more

  abbrev Fits : List (List Value) → Type 0
  Fits values = AllByRecursion (AllFit (sequence_types (table_at tables range.number) range.access)) values

  -- behind what was there come values, all with one place
  abbrev then_values : Entries → ℕ → List (List Value) → Entries
  then_values entries place values = record { places = entries.places ++ map (λ held. place) values; values = entries.values ++ values }

  entries_last : (content : Content) (place : ℕ) (inputs : List (List (List Value))) (input : List (List Value)) (values : List (List Value)) (entries : Entries) → AreEntriesFrom tables query params range place inputs entries content → Fits values → AreValuesBehind tables query params range input values content → AreEntriesFrom tables query params range place (inputs ++ input ∷ []) (then_values entries (place + length inputs) values) content
  entries_last content place [] input values entries none fit now =
      let here : place + 0 ≡ place = omega arith in (
        values,
        record { places = []; values = [] },
        fit,
        now,
        (λ i. none.0 i ++ map (λ (held : List Value). here i) values) ∙ sym (append-nil (map (λ (held : List Value). place) values)),
        ap (λ (l : List (List Value)). l ++ values) none.1 ∙ sym (append-nil values),
        (refl, refl),
      )
  entries_last content place (c ∷ inputs) input values entries h fit now =
      let here : (place + 1) + length inputs ≡ place + suc (length inputs) = omega arith in
      let more : List ℕ = map (λ (held : List Value). place + suc (length inputs)) values in (
        h.0,
        then_values h.1 (place + suc (length inputs)) values,
        h.2,
        h.3,
        ap (λ (l : List ℕ). l ++ more) h.4 ∙ append_assoc (map (λ (held : List Value). place) h.0) h.1.places more,
        ap (λ (l : List (List Value)). l ++ values) h.5 ∙ append_assoc h.0 h.1.values values,
        subst (λ (n : ℕ). AreEntriesFrom tables query params range (place + 1) (inputs ++ input ∷ []) (then_values h.1 n values) content) here (entries_last content (place + 1) inputs input values h.1 h.6 fit now),
      )

  pub entries_next : (told : Option Content) (inputs : List (List (List Value))) (place : ℕ) (input : List (List Value)) (values : List (List Value)) (before after : Entries) → length inputs ≡ place → IfSome told (AreEntriesFrom tables query params range 0 inputs before) → Fits values → IfSome told (AreValuesBehind tables query params range input values) → after.places ≡ before.places ++ map (λ held. place) values → after.values ≡ before.values ++ values
      → IfSome told (AreEntriesFrom tables query params range 0 (inputs ++ input ∷ []) after)
  entries_next None inputs place input values before after at h fit now places_are values_are = tt
  entries_next (Some content) inputs place input values before after at h fit now places_are values_are =
      let here : 0 + length inputs ≡ place = omega (arith, at) in
      let same : then_values before (0 + length inputs) values ≡ after =
      ap (λ (n : ℕ). then_values before n values) here ∙ (λ i. record { places = sym places_are i; values = sym values_are i }) in
      subst (λ (e : Entries). AreEntriesFrom tables query params range 0 (inputs ++ input ∷ []) e content) same (entries_last content 0 inputs input values before h fit now)
