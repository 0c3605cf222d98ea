-- Joined rows by the codes that a content has for them, one input after the other.
use Rattle.std.proofs.Common.{◌≡◌, ℕ, ◌-◌, ◌≤◌, List, [], ◌∷◌, ◌++◌, length, map, take, Option, Some, None, sym, ap, ◌∙◌, subst, arith}
use Rattle.std.specs.Prelude.{IfSome, option_to_list}
use Rattle.std.proofs.Math.Seq.{take-append_seam}
use Rattle.std.proofs.lemmas.Grind.{flat_map-append}
use Rattle.std.proofs.lemmas.List.{map-append}
use Rattle.pq_base.specs.declared.value.Value.{Value}
use Rattle.pq_schema.specs.declared.query.Query.{Query}
use Rattle.pq_schema.specs.declared.table.Table.{Table}
use Rattle.pq_schema.specs.Relations.{table_of}
use Rattle.pq_schema.specs.Rows.{shape_of}
use Rattle.pq_store.specs.Content.{Content}
use Rattle.pq_calls.specs.Evidence.{IsRead}
use Rattle.pq_content.specs.Tables.{stored_code}
use Rattle.pq_plan.specs.Answer.{question, row_of}
use Rattle.pq_plan.specs.Meaning.{key_of}
use Rattle.pq_plan.specs.Running.{matching, looked_up}
use Rattle.pq_plan.proofs.Fixed.{last}
use Rattle.pq_nodes.specs.Combos.{FitsTables}
use Rattle.pq_fk_join.specs.Joined.{tied_code, tied_codes, coded_row, IsTiedRow, AreJoined, AddsJoined, AddsLookedUp}

module _ (tables : List Table) (query : Query) (params : List Value) (rel : ℕ) where
  -- ---- one input

  -- an input followed by a row is taken apart again
  coded_again : (input : List (List Value)) (row : List Value) (code : List ℕ) → 1 ≤ rel → length input ≡ rel - 1 → stored_code (table_of tables query rel) row ≡ code → coded_row tables query rel (input ++ row ∷ []) ≡ (input, code)
  coded_again input row code low long is =
      let front : take (rel - 1) (input ++ row ∷ []) ≡ input = ap (λ (n : ℕ). take n (input ++ row ∷ [])) (sym long) ∙ take-append_seam input (row ∷ []) in
      let behind : stored_code (table_of tables query rel) (row_of rel (input ++ row ∷ [])) ≡ code = ap (stored_code (table_of tables query rel)) (last input row rel (omega (arith, long, low))) ∙ is in
      λ i. (front i, behind i)

  one_joined : (input : List (List Value)) → 1 ≤ rel → length input ≡ rel - 1 → (before : List (List (List Value))) (code : Option (List ℕ)) (found : Option (List Value)) → IsRead (shape_of (table_of tables query rel)) code found
      → map (coded_row tables query rel) (before ++ map (λ row. input ++ row ∷ []) (option_to_list found)) ≡ map (coded_row tables query rel) before ++ (map (λ c. (input, c)) (option_to_list code) ++ [])
  one_joined input low long before None None h = map-append (coded_row tables query rel) before []
  one_joined input low long before None (Some row) h = absurd h
  one_joined input low long before (Some code) None h = absurd h
  one_joined input low long before (Some code) (Some row) h =
      map-append (coded_row tables query rel) before ((input ++ row ∷ []) ∷ [])
      ∙ ap (λ c. map (coded_row tables query rel) before ++ c ∷ []) (coded_again input row code low long h.1)

  pub adds_one : (told : Option Content) (input : List (List Value)) → 1 ≤ rel → FitsTables tables query (rel - 1) input → (before : List (List (List Value))) (found : Option (List Value)) → IsTiedRow told tables query params rel input found
      → AddsJoined told tables query params rel (input ∷ []) before (before ++ map (λ row. input ++ row ∷ []) (option_to_list found))
  adds_one None input low fits before found h = tt
  adds_one (Some content) input low fits before found h = one_joined input low fits.long before (tied_code tables query params rel content input) found h

  -- ---- several inputs

  pub adds_more : (told now : Option Content) (inputs : List (List (List Value))) (input : List (List Value)) (found after : List (List (List Value))) → now ≡ told → AddsJoined now tables query params rel (input ∷ []) found after → AddsJoined told tables query params rel inputs [] found
      → AddsJoined told tables query params rel (inputs ++ input ∷ []) [] after
  adds_more None now inputs input found after same one so_far = tt
  adds_more (Some content) now inputs input found after same one so_far =
      let is : AddsJoined (Some content) tables query params rel (input ∷ []) found after = subst (λ (o : Option Content). AddsJoined o tables query params rel (input ∷ []) found after) same one in
      let done : map (coded_row tables query rel) found ≡ tied_codes tables query params rel content inputs = so_far in
      is ∙ ap (λ l. l ++ tied_codes tables query params rel content (input ∷ [])) done
      ∙ sym (flat_map-append (λ (one : List (List Value)). map (λ code. (one, code)) (option_to_list (tied_code tables query params rel content one))) inputs (input ∷ []))

  pub are_joined : (told : Option Content) (inputs found : List (List (List Value))) → AddsJoined told tables query params rel inputs [] found → IfSome told (AreJoined tables query params rel inputs found)
  are_joined None inputs found h = tt
  are_joined (Some content) inputs found h = h

  pub looks_up_more : (told now : Option Content) (inputs : List (List (List Value))) (input : List (List Value)) (found after : List (List (List Value))) → now ≡ told → AddsLookedUp now tables query params rel (input ∷ []) found after → AddsLookedUp told tables query params rel inputs [] found
      → AddsLookedUp told tables query params rel (inputs ++ input ∷ []) [] after
  looks_up_more told now inputs input found after same one so_far = λ rows others holds.
      let q = question tables query rows params in
      one rows others (record { keeps = holds.keeps; beside = holds.beside; is = same ∙ holds.is })
      ∙ ap (λ l. l ++ looked_up q rel (input ∷ [])) (so_far rows others holds)
      ∙ sym (flat_map-append (λ (combo : List (List Value)). map (λ row. combo ++ row ∷ []) (take 1 (matching q rel (key_of q rel) combo))) inputs (input ∷ []))
