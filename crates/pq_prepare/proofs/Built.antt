-- What a build shows of a content is evidence.
use Rattle.std.proofs.Common.{◌≡◌, ℕ, ◌+◌, ◌<◌, true, false, inl, inr, ◌⊎◌, List, [], ◌∷◌, length, replicate, Option, Some, None, refl, sym, ap, ◌∙◌, subst, arith}
use Rattle.std.specs.Prelude.{IfSome, nat_le}
use Rattle.std.specs.FinMap.{entries, get}
use Rattle.std.proofs.lemmas.Bool.{leb-true, leb-false}
use Rattle.std.proofs.lemmas.List.Elements.{All-cons, All-nil}
use Rattle.std.proofs.Math.Seq.{take-length}
use Rattle.pq_base.specs.Members.{In}
use Rattle.pq_base.specs.Values.{AreValues}
use Rattle.pq_base.specs.declared.value.Dir.TheVariants.{Asc}
use Rattle.pq_base.specs.declared.value.Value.{Value}
use Rattle.pq_base.proofs.Members.{in_filter, in_from_contains}
use Rattle.pq_key_code.specs.KeyCode.{IsBytes, catalog_key, row_key}
use Rattle.pq_key_code.proofs.CodeBytes.{code_bytes}
use Rattle.pq_schema.specs.Rows.{IsTableNumber, shape_of}
use Rattle.pq_schema.specs.Schema.{Schema}
use Rattle.pq_schema.specs.Tables.{table_at}
use Rattle.pq_schema.specs.Valid.{IsValid}
use Rattle.pq_schema.specs.declared.table.Access.TheVariants.{Primary}
use Rattle.pq_schema.specs.declared.table.NewIndex.{NewIndex}
use Rattle.pq_schema.specs.declared.table.Table.{Table}
use Rattle.pq_schema.proofs.Valid.{valid_small}
use Rattle.pq_store.specs.Breaks.{IsPresent}
use Rattle.pq_store.specs.Content.{Content, IsPartOf, is_within}
use Rattle.pq_store.specs.declared.damage.Broke.{Broke}
use Rattle.pq_store.specs.declared.damage.Broke.TheVariants.{Failed, NoMem, Damaged}
use Rattle.pq_store.specs.declared.damage.Damage.{Damage}
use Rattle.pq_store.specs.declared.store.Pair.{Pair as Found}
use Rattle.pq_content.specs.Pairs.{Pair}
use Rattle.pq_schema.proofs.TypeKinds.{kinds_from_fit}
use Rattle.pq_content.proofs.Values.{AreValues_from_kinds}
use Rattle.pq_calls.specs.Keys.{sequence_types}
use Rattle.pq_nodes.specs.Operators.{ShowsRead, no_key}
use Rattle.pq_entries.specs.Entries.{AreEnds, Begins, key_front}
use Rattle.pq_entries.proofs.Told.{no_row_shows, part_begins, within_there}
use Rattle.pq_builds.specs.Filling.{IsNoRowPair, first_key, past_key, row_pairs_in}
use Rattle.pq_builds.specs.Stages.{ShowsBuild}
use Rattle.pq_builds.specs.Targets.{target_of}
use Rattle.pq_builds.specs.declared.target.NewQuery.{NewQuery}
use Rattle.pq_reports.specs.Evidence.{TellsEvidence}

-- ---- bytes

row_key_bytes : (t : ℕ) (values : List Value) → t < 256 → AreValues values → IsBytes (row_key t values)
row_key_bytes t values low known = (omega arith, (low, code_bytes (replicate (length values) Asc) values known))

bytes_or_not : (list : List ℕ) → IsBytes list ⊎ (IsBytes list → ⊥)
bytes_or_not [] = inl tt
bytes_or_not (b ∷ list) =
    elim (nat_le 256 b) as (λ (large : _). nat_le 256 b ≡ large → IsBytes (b ∷ list) ⊎ (IsBytes (b ∷ list) → ⊥)) [
      | true ↦ λ is. inr (λ bytes. let low = bytes.0 in let high = leb-true 256 b is in absurd (omega arith))
      | false ↦ λ is. elim (bytes_or_not list) [
        | inl rest ↦ inl (leb-false 256 b is, rest)
        | inr other ↦ inr (λ bytes. other bytes.1)
      ]
    ] refl

-- ---- a pair of the rows of a table

module _ (content : Content) (t : ℕ) (pair : Pair) (here : In pair (row_pairs_in t content)) where
  pair_there : get content pair.0 ≡ Some pair.1
  pair_there =
      let pairs = row_pairs_in t content in
      within_there content (first_key t) (past_key t) (length pairs) pair (subst (In pair) (sym (take-length pairs)) here)

  pair_begins : Begins (key_front t Primary) pair.0
  pair_begins =
      let one : Found = record { key = pair.0; value = pair.1 } in
      part_begins t Primary (first_key t) (past_key t) 1 (one ∷ []) pair ends part (inl refl)
    where
      ends : AreEnds t Primary (first_key t) (past_key t)
      ends = record { from = ([], refl); upto = (32 ∷ [], refl) }

      within : is_within (first_key t) (past_key t) pair ≡ true
      within = (in_filter (is_within (first_key t) (past_key t)) pair (entries content) here).1

      part : IsPartOf (first_key t) (past_key t) 1 (pair ∷ [])
      part = record {
        few = omega arith;
        within = All-cons (λ (p : Pair). is_within (first_key t) (past_key t) p ≡ true) pair [] within (All-nil (λ (p : Pair). is_within (first_key t) (past_key t) p ≡ true));
        rising = refl;
      }

-- a value that is the code of no row shows damage, whether its key is the code of values or of none
pair_shows : (tables : List Table) (t : ℕ) → IsTableNumber tables t → t < 256 → (content : Content) (pair : Pair) (damage : Damage) → In pair (row_pairs_in t content) → IsNoRowPair (shape_of (table_at tables t)) pair damage → ShowsRead tables content damage
pair_shows tables t number low content pair damage here shown =
    let there = pair_there content t pair here in
    let begins = pair_begins content t pair here in
    elim (bytes_or_not pair.0) [
      | inl bytes ↦ no_row_shows tables t number content pair damage there begins record {
        tells = record { bytes = bytes; at = shown.at; has = shown.has };
        no_row = shown.no_row;
      }
      | inr other ↦ no_key record {
        table = t;
        access = Primary;
        rest = begins.0;
        value = pair.1;
        number = number;
        is_access = tt;
        at = shown.at ∙ begins.1;
        has = shown.has;
        there = ap (get content) shown.at ∙ there;
        no_values = λ values fits is.
            let types = sequence_types (table_at tables t) Primary in
            let known = AreValues_from_kinds types values (kinds_from_fit types values fits) in
            other (subst IsBytes (is ∙ shown.at) (row_key_bytes t values low known));
      }
    ]

-- ---- a build

-- what a build of an index shows is evidence for the definition that is made
pub build_shown : (old : Option Content) (schema : Schema) (new : NewIndex) (query : NewQuery) (broke : Broke) → IsValid schema → IsTableNumber schema.tables new.table → query.key ≡ catalog_key (length schema.definitions + 1) → IfSome old (λ c. ShowsBuild (target_of new.table new.number (table_at schema.tables new.table) new.index) query c broke) → IfSome old (λ content. TellsEvidence schema content broke)
build_shown None schema new query broke valid number key shown = tt
build_shown (Some content) schema new query Failed valid number key shown = tt
build_shown (Some content) schema new query NoMem valid number key shown = tt
build_shown (Some content) schema new query (Damaged damage) valid number key (inl present) = inr (inr (inr (subst (λ (k : List ℕ). IsPresent k content damage) key present)))
build_shown (Some content) schema new query (Damaged damage) valid number key (inr among) =
    let few = (valid_small valid).tables in
    let last = number.1 in
    let low : new.table < 256 = omega arith in
    inl (pair_shows schema.tables new.table number low content among.pair damage (in_from_contains (row_pairs_in new.table content) among.pair among.there) among.no_row)
