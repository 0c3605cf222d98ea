-- What a join by a key makes of one input and of several.
use Rattle.std.specs.Prelude.{◌≡◌, ℕ, ◌-◌, cond, List, [], ◌∷◌, ◌++◌, map, take, Option, None, Some, option_to_list, IfSome}
use Rattle.std.specs.FinMap.{get}
use Rattle.std.specs.List.{flat_map}
use Rattle.pq_base.specs.Shapes.{RowShape}
use Rattle.pq_base.specs.Values.{has_null}
use Rattle.pq_base.specs.declared.value.Value.{Value}
use Rattle.pq_key_code.specs.KeyCode.{row_key}
use Rattle.pq_schema.specs.declared.query.Query.{Query}
use Rattle.pq_schema.specs.declared.table.Table.{Table}
use Rattle.pq_schema.specs.Relations.{relation_at, table_of}
use Rattle.pq_schema.specs.Rows.{Rows, shape_of}
use Rattle.pq_store.specs.Content.{Content}
use Rattle.pq_store.specs.declared.damage.Broke.{Broke}
use Rattle.pq_calls.specs.Evidence.{IsRead, IsUnreadRow}
use Rattle.pq_content.specs.Pairs.{Pair, HoldsRows}
use Rattle.pq_content.specs.Tables.{stored_code}
use Rattle.pq_nodes.specs.Inverse.{IsLookup}
use Rattle.pq_operands.specs.Ties.{cells_tied}
use Rattle.pq_plan.specs.Meaning.{key_of}
use Rattle.pq_plan.specs.Running.{matching, looked_up}
use Rattle.pq_plan.specs.Answer.{question, row_of}
use Rattle.pq_scan.specs.declared.request.Request.{Request}

-- ---- what is read of any content

-- the value at the key that is tied behind the input, where there is one; a tied NULL names none
abbrev pub tied_code : List Table → Query → List Value → ℕ → Content → List (List Value) → Option (List ℕ)
tied_code tables query params rel content input =
    let key = cells_tied query params rel input (table_of tables query rel).key in
    cond (has_null key) None (get content (row_key (relation_at query rel).table key))

-- the key that is tied behind the input, as the store has it; none where a tied value is NULL
abbrev pub tied_at : List Table → Query → List Value → ℕ → List (List Value) → Option (List ℕ)
tied_at tables query params rel input =
    let key = cells_tied query params rel input (table_of tables query rel).key in
    cond (has_null key) None (Some (row_key (relation_at query rel).table key))

-- what is told as damage is the value at the key that was asked for, and the code of no row that fits
abbrev pub IsUnreadFrom : RowShape → Option (List ℕ) → Option (List ℕ) → Broke → Type 0
IsUnreadFrom shape None code why = ⊥
IsUnreadFrom shape (Some key) None why = ⊥
IsUnreadFrom shape (Some key) (Some code) why = IsUnreadRow shape key code why

-- the row with this code, where there is one, comes behind the input, and the input behind those that were there
pub record AddsRead (shape : RowShape) (input : List (List Value)) (code : Option (List ℕ))
    (before after : List (List (List Value))) : Type 0 where
  pub row : Option (List Value)
  pub read : IsRead shape code row
  pub is : after ≡ before ++ map (λ row. input ++ row ∷ []) (option_to_list row)

-- what is found is the row with this code, and nothing only where there is no value
abbrev pub IsTiedRow : Option Content → List Table → Query → List Value → ℕ → List (List Value)
    → Option (List Value) → Type 0
IsTiedRow told tables query params rel input found = IfSome told (λ content.
    IsRead (shape_of (table_of tables query rel)) (tied_code tables query params rel content input) found)

-- each input with the value that is tied behind it, where there is one
abbrev pub tied_codes : List Table → Query → List Value → ℕ → Content → List (List (List Value))
    → List (List (List Value) × List ℕ)
tied_codes tables query params rel content inputs = flat_map (λ input.
    map (λ code. (input, code)) (option_to_list (tied_code tables query params rel content input))) inputs

-- a combination as its input and the code of the relation's row
abbrev pub coded_row : List Table → Query → ℕ → List (List Value) → List (List Value) × List ℕ
coded_row tables query rel combo = (take (rel - 1) combo, stored_code (table_of tables query rel) (row_of rel combo))

-- the codes of the rows behind the inputs are the values at the tied keys, one for each input that has such a value
abbrev pub AreJoined : List Table → Query → List Value → ℕ → List (List (List Value)) → List (List (List Value))
    → Content → Type 0
AreJoined tables query params rel inputs found content =
    map (coded_row tables query rel) found ≡ tied_codes tables query params rel content inputs

-- such combinations come behind those that were there
abbrev pub AddsJoined : Option Content → List Table → Query → List Value → ℕ → List (List (List Value))
    → List (List (List Value)) → List (List (List Value)) → Type 0
AddsJoined told tables query params rel inputs before after = IfSome told (λ content.
    map (coded_row tables query rel) after
    ≡ map (coded_row tables query rel) before ++ tied_codes tables query params rel content inputs)

-- ---- what is read of a content that holds rows

-- the row is the one whose key is tied behind the input, and none where there is none
abbrev pub IsPartner : Option Content → List Table → Query → List Value → ℕ → List (List Value)
    → Option (List Value) → Type 0
IsPartner told tables query params rel input found =
    (rows : Rows) (others : List Pair) → HoldsRows told tables rows others →
    let q = question tables query rows params in option_to_list found ≡ take 1 (matching q rel (key_of q rel) input)

-- what was found is followed by what the lookup makes of the inputs
abbrev pub AddsLookedUp : Option Content → List Table → Query → List Value → ℕ → List (List (List Value))
    → List (List (List Value)) → List (List (List Value)) → Type 0
AddsLookedUp told tables query params rel inputs before after =
    (rows : Rows) (others : List Pair) → HoldsRows told tables rows others →
    after ≡ before ++ looked_up (question tables query rows params) rel inputs

-- ---- the same for what is asked

abbrev pub IsLookupFor : Request → ℕ → Type 0
IsLookupFor request rel = IsLookup request.catalog.now.tables request.query.now rel

abbrev pub tied_for : Request → ℕ → List (List Value) → Option (List ℕ)
tied_for request rel input =
    tied_at request.catalog.now.tables request.query.now request.params.now rel input

abbrev pub AreJoinedFor : Request → ℕ → List (List (List Value)) → List (List (List Value)) → Content → Type 0
AreJoinedFor request rel inputs found content =
    AreJoined request.catalog.now.tables request.query.now request.params.now rel inputs found content

abbrev pub AddsJoinedFor : Option Content → Request → ℕ → List (List (List Value)) → List (List (List Value))
    → List (List (List Value)) → Type 0
AddsJoinedFor told request rel inputs before after =
    AddsJoined told request.catalog.now.tables request.query.now request.params.now rel inputs before after

abbrev pub AddsLookedUpFor : Option Content → Request → ℕ → List (List (List Value)) → List (List (List Value))
    → List (List (List Value)) → Type 0
AddsLookedUpFor told request rel inputs before after =
    AddsLookedUp told request.catalog.now.tables request.query.now request.params.now rel inputs before after
