-- The row that is read by the tied key is the partner of the input.
use Rattle.std.proofs.Common.{◌≡◌, ℕ, ◌-◌, Bool, true, false, cond, List, [], Option, Some, None, refl, sym, ap, ◌∙◌, subst, arith}
use Rattle.std.specs.Prelude.{All, IfSome, option_map, option_to_list}
use Rattle.std.specs.FinMap.{get}
use Rattle.pq_base.specs.Values.{IsType, has_null}
use Rattle.pq_base.specs.declared.value.Value.{Value}
use Rattle.pq_key_code.specs.KeyCode.{row_key}
use Rattle.pq_row_code.proofs.Stored.{code_as_injective}
use Rattle.pq_schema.specs.declared.query.Query.{Query}
use Rattle.pq_schema.specs.declared.table.Access.TheVariants.{Primary}
use Rattle.pq_schema.specs.declared.table.Table.{Table}
use Rattle.pq_schema.specs.Keys.{AllOfKinds, key_types}
use Rattle.pq_schema.specs.Relations.{no_relation, relation_at, table_of}
use Rattle.pq_schema.specs.Rows.{Rows, IsTableNumber, types_of, shape_of, row_at}
use Rattle.pq_schema.specs.Schema.{Schema}
use Rattle.pq_schema.specs.Valid.{IsValid}
use Rattle.pq_store.specs.Content.{Content}
use Rattle.pq_store.specs.declared.damage.Broke.{Broke}
use Rattle.pq_store.specs.declared.damage.Damage.{Damage}
use Rattle.pq_calls.specs.Evidence.{IsRead, IsNoRow, IsNoRowAt}
use Rattle.pq_calls.specs.World.{World, Explains, where_told}
use Rattle.pq_calls.proofs.Shown.{no_row_explains}
use Rattle.pq_calls.proofs.Steps.{explained_as}
use Rattle.pq_content.specs.Pairs.{Pair, HoldsRows}
use Rattle.pq_content.specs.Tables.{stored_code}
use Rattle.pq_content.proofs.Gets.{get_row}
use Rattle.pq_content.proofs.Keeping.{row_found}
use Rattle.pq_entries.proofs.Tables.{sequence_types_known}
use Rattle.pq_nodes.specs.Combos.{FitsTables}
use Rattle.pq_nodes.specs.Inverse.{IsLookup}
use Rattle.pq_nodes.specs.Operators.{IsAsked, ShowsRead, no_row}
use Rattle.pq_nodes.proofs.Tied.{tied_kinds, matching_row, within_tied}
use Rattle.pq_operands.specs.Ties.{cells_tied}
use Rattle.pq_fk_join.specs.Joined.{IsTiedRow, IsPartner}

shows_read : (tables : List Table) (told : Option Content) (damage : Damage) → where_told (IsNoRow tables) told damage → where_told (ShowsRead tables) told damage
shows_read tables None damage shown = tt
shows_read tables (Some content) damage shown = no_row shown

module _ (s : Schema) (query : Query) (params : List Value) (rel : ℕ) (input : List (List Value)) (asked : IsAsked s.tables query params) (is : IsLookup s.tables query rel) (fits : FitsTables s.tables query (rel - 1) input) where
  abbrev number : ℕ
  number = (relation_at query rel).table

  abbrev table : Table
  table = table_of s.tables query rel

  abbrev tied_key : List Value
  tied_key = cells_tied query params rel input table.key

  number_there : IsTableNumber s.tables number
  number_there =
      let low = is.relation.from_one in
      let high = is.relation.there in
      let here = asked.resolved.relations (rel - 1) no_relation (omega arith) in
      (here.from_one, here.there)

  kinds : AllOfKinds (key_types table) tied_key
  kinds = tied_kinds s.tables query [] params asked.resolved asked.params_fit rel input fits table.key (within_tied query rel table.key is.tied)

  -- ---- why the read gives up
  module _ (t : ℕ) (own : Table) (key : List Value) (t_is : t ≡ number) (own_is : own ≡ table) (key_is : key ≡ cells_tied query params rel input own.key) where
    tied_is : key ≡ tied_key
    tied_is = key_is ∙ ap (λ (other : Table). cells_tied query params rel input other.key) own_is

    pub partner_explains : (a b : World) (error : Broke) → Explains (IsNoRowAt (shape_of own) (row_key t key)) a b error → Explains (where_told (ShowsRead s.tables)) a b error
    partner_explains a b error h =
        explained_as (where_told (IsNoRow s.tables)) (where_told (ShowsRead s.tables)) (shows_read s.tables) a b error
        (no_row_explains s.tables number tied_key number_there kinds a b error
        (subst (λ (k : List Value). Explains (IsNoRowAt (shape_of table) (row_key number k)) a b error) tied_is
        (subst (λ (other : Table). Explains (IsNoRowAt (shape_of other) (row_key number key)) a b error) own_is
        (subst (λ (n : ℕ). Explains (IsNoRowAt (shape_of own) (row_key n key)) a b error) t_is h))))

    -- ---- what it reads
    module _ (valid : IsValid s) (told : Option Content) (found : Option (List Value)) (read : IfSome told (λ content. IsRead (shape_of own) (get content (row_key t key)) found)) where
      read_there : IfSome told (λ content. IsRead (shape_of table) (get content (row_key number tied_key)) found)
      read_there =
          subst (λ (k : List Value). IfSome told (λ content. IsRead (shape_of table) (get content (row_key number k)) found)) tied_is
          (subst (λ (other : Table). IfSome told (λ content. IsRead (shape_of other) (get content (row_key number key)) found)) own_is
          (subst (λ (n : ℕ). IfSome told (λ content. IsRead (shape_of own) (get content (row_key n key)) found)) t_is read))

      -- where no tied value is NULL, it is what stands at the tied key
      pub partner_code : has_null key ≡ false → IsTiedRow told s.tables query params rel input found
      partner_code plain =
          subst (λ (b : Bool). IfSome told (λ content. IsRead (shape_of table) (cond b None (get content (row_key number tied_key))) found))
          (sym (sym (ap has_null tied_is) ∙ plain)) read_there

      types : All IsType (types_of table)
      types = sequence_types_known s number Primary valid (record { number = number_there; is_access = tt })

      module _ (rows : Rows) (others : List Pair) (holds : HoldsRows told s.tables rows others) where
        read_is : (o : Option (List Value)) → row_at s.tables rows number tied_key ≡ o → (row : Option (List Value)) → IsRead (shape_of table) (option_map (stored_code table) o) row → row ≡ o
        read_is None at None h = refl
        read_is None at (Some row) h = absurd h
        read_is (Some r) at None h = absurd h
        read_is (Some r) at (Some row) h = ap Some (code_as_injective (shape_of table) row r types h.0 (row_found s.tables rows number tied_key r holds.keeps at).fits h.1)

        row_is : found ≡ row_at s.tables rows number tied_key
        row_is =
            read_is (row_at s.tables rows number tied_key) refl found
            (subst (λ (o : Option (List ℕ)). IsRead (shape_of table) o found) (get_row s.tables rows others number tied_key holds.keeps.fit kinds holds.beside)
            (subst (λ (o : Option Content). IfSome o (λ content. IsRead (shape_of table) (get content (row_key number tied_key)) found)) holds.is read_there))

      pub partner_is : has_null key ≡ false → IsPartner told s.tables query params rel input found
      partner_is plain rows others holds =
          ap option_to_list (row_is rows others holds)
          ∙ sym (ap (λ (b : Bool). cond b [] (option_to_list (row_at s.tables rows number tied_key))) (sym (ap has_null tied_is) ∙ plain))
          ∙ sym (matching_row s.tables query rows params asked.resolved asked.params_fit rel input fits holds.keeps.schema (within_tied query rel table.key is.tied))

    -- ---- with a tied NULL nothing matches

    no_code : (told : Option Content) → IfSome told (λ content. IsRead (shape_of table) None None)
    no_code None = tt
    no_code (Some content) = tt

    pub none_code : (told : Option Content) → has_null key ≡ true → IsTiedRow told s.tables query params rel input None
    none_code told null =
        subst (λ (b : Bool). IfSome told (λ content. IsRead (shape_of table) (cond b None (get content (row_key number tied_key))) None))
        (sym (sym (ap has_null tied_is) ∙ null)) (no_code told)

    pub partner_none : (told : Option Content) → has_null key ≡ true → IsPartner told s.tables query params rel input None
    partner_none told null rows others holds =
        sym (matching_row s.tables query rows params asked.resolved asked.params_fit rel input fits holds.keeps.schema (within_tied query rel table.key is.tied)
        ∙ ap (λ (b : Bool). cond b [] (option_to_list (row_at s.tables rows number tied_key))) (sym (ap has_null tied_is) ∙ null))
