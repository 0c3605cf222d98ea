-- What an opening tells as damage was answered.
use Rattle.std.proofs.Common.{◌≡◌, ℕ, ◌+◌, Bool, true, false, cond, List, [], ◌∷◌, length, Option, Some, None, Result, Ok, Err, refl, sym, ap, ◌∙◌, subst}
use Rattle.std.specs.Prelude.{option_and_then}
use Rattle.std.specs.List.{AllByRecursion}
use Rattle.std.specs.Str.{bytes_eq}
use Rattle.std.proofs.lemmas.Option.{none-some}
use Rattle.std.proofs.lemmas.Slice.Eq.{bytes_eq-Decides}
use Rattle.pq_key_code.specs.KeyCode.{catalog_key}
use Rattle.pq_schema.specs.Schema.{Schema}
use Rattle.pq_content.specs.Pairs.{Pair}
use Rattle.pq_store.specs.declared.damage.Damage.{Damage}
use Rattle.pq_catalog.specs.Format.{marked_text}
use Rattle.pq_catalog.specs.Stands.{last_key}
use Rattle.pq_catalog.specs.declared.format.Mark.TheVariants.{Ready, Building}
use Rattle.pq_opening.specs.Opened.{TellsOpened}
use Rattle.pq_opening.specs.Opening.{SchemaAndMark, none_added, value_adds, pair_adds, goes_on, opened_by, added_from, HasAnswer}
use Rattle.pq_opening.proofs.Openings.{adds_one, added_in}

-- the pair that is named in place of definitions
abbrev named_in : Pair → Result SchemaAndMark Pair → Pair
named_in other (Ok added) = other
named_in other (Err pair) = pair

-- a pair that is added has the key of the definition that it makes
adds_key : (schema : Schema) (added : SchemaAndMark) (pair : Pair) → pair_adds schema pair ≡ Some added → pair.0 ≡ last_key added.0
unfolding pair_adds
adds_key schema added pair adds = by_test (bytes_eq pair.0 (catalog_key (length schema.definitions + 1))) refl adds
  where
    by_test : (b : Bool) → bytes_eq pair.0 (catalog_key (length schema.definitions + 1)) ≡ b → cond b (option_and_then (value_adds schema pair.1) (marked_text pair.1)) None ≡ Some added → pair.0 ≡ last_key added.0
    by_test true same e = (bytes_eq-Decides pair.0 (catalog_key (length schema.definitions + 1))).0 same ∙ ap catalog_key (sym (adds_one schema added pair adds))
    by_test false same e = absurd (none-some _ e)

-- where something holds of each pair
module _ (P : Pair → Type 0) where
  -- it holds of the first that is no definition's
  named_step : (p : Pair) (ps : List Pair) (pair : Pair) (o : Option SchemaAndMark) (more : SchemaAndMark → Result SchemaAndMark Pair) → P p → ((n : SchemaAndMark) → more n ≡ Err pair → P pair)
      → opened_by p ps o more ≡ Err pair → P pair
  named_step p ps pair None more has rest e = subst P (ap (named_in p) e) has
  named_step p ps pair (Some n) more has rest e =
      elim (goes_on n ps) as (λ t. cond t (more n) (Err p) ≡ Err pair → P pair) [
        | true ↦ λ e. rest n e
        | false ↦ λ e. subst P (ap (named_in p) e) has
      ] e

  named_among : (ps : List Pair) (a : SchemaAndMark) (pair : Pair) → AllByRecursion P ps → added_from a ps ≡ Err pair → P pair
  unfolding added_from
  named_among [] a pair each e = absurd (cc)
  named_among (p ∷ ps) a pair each e = named_step p ps pair (pair_adds a.0 p) (λ n. added_from n ps) each.0 (λ n is. named_among ps n pair each.1 is) e

  -- and of that of the last definition, which the mark of a build comes with
  abbrev HasLast : SchemaAndMark → Type 0
  HasLast added = added.1 ≡ Building → (value : List ℕ) × P (last_key added.0, value)

  last_step : (p : Pair) (ps : List Pair) (a b : SchemaAndMark) (o : Option SchemaAndMark) (more : SchemaAndMark → Result SchemaAndMark Pair) → pair_adds a.0 p ≡ o → P p
      → ((n : SchemaAndMark) → HasLast n → more n ≡ Ok b → HasLast b) → opened_by p ps o more ≡ Ok b → HasLast b
  last_step p ps a b None more is has rest e = absurd (cc)
  last_step p ps a b (Some n) more is has rest e =
      elim (goes_on n ps) as (λ t. cond t (more n) (Err p) ≡ Ok b → HasLast b) [
        | true ↦ λ e. rest n (λ _. (p.1, subst (λ (key : List ℕ). P (key, p.1)) (adds_key a.0 n p is) has)) e
        | false ↦ λ e. absurd (cc)
      ] e

  last_among : (ps : List Pair) (a b : SchemaAndMark) → AllByRecursion P ps → HasLast a → added_from a ps ≡ Ok b → HasLast b
  unfolding added_from
  last_among [] a b each first e = subst HasLast (ap added_in e) first
  last_among (p ∷ ps) a b each first e = last_step p ps a b (pair_adds a.0 p) (λ n. added_from n ps) refl each.0 (λ n has is. last_among ps n b each.1 has is) e

module _ (answers : List ℕ → Option (List ℕ) → Type 0) where
  abbrev WasAnswered : Pair → Type 0
  WasAnswered pair = answers pair.0 (Some pair.1)

  pub damage_answered : (r : Result SchemaAndMark Damage) (a : SchemaAndMark) (ps : List Pair) (damage : Damage) → AllByRecursion WasAnswered ps → TellsOpened r (added_from a ps) → r ≡ Err damage → answers damage.key damage.value
  damage_answered r a ps damage each tells is =
      let told = subst (λ (x : Result SchemaAndMark Damage). TellsOpened x (added_from a ps)) is tells in
      subst (answers damage.key) (sym told.1) (named_among WasAnswered ps a (damage.key, told.0) each told.2)

  pub last_answered : (ps : List Pair) (b : SchemaAndMark) → AllByRecursion WasAnswered ps → added_from none_added ps ≡ Ok b → b.1 ≡ Building → HasAnswer answers (last_key b.0)
  last_answered ps b each is = last_among WasAnswered ps none_added b each (λ e. absurd (let wrong : Ready ≡ Building = e in cc)) is
