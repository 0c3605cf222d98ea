-- The pair of the next definition among those of the catalog.
use Rattle.std.proofs.Common.{◌≡◌, ℕ, ◌+◌, ◌-◌, ◌<◌, ◌≤◌, false, cond, List, [], ◌∷◌, ◌++◌, length, get_or, Some, None, refl, sym, ap, ◌∙◌, arith}
use Rattle.std.specs.declared.cmp.Ordering.TheVariants.{Greater}
use Rattle.std.specs.List.{AllByRecursion}
use Rattle.std.specs.Ordering.{is_eq, eq_by_cmp}
use Rattle.std.specs.Cmp.{nat_cmp_is}
use Rattle.std.specs.FinMap.{find}
use Rattle.std.proofs.Math.Seq.{get_or-append_seam}
use Rattle.pq_schema.specs.declared.made.Definition.{Definition}
use Rattle.pq_schema.specs.declared.table.Table.{Table}
use Rattle.pq_schema.specs.Schema.{Schema, no_definition}
use Rattle.pq_key_code.specs.KeyCode.{catalog_key}
use Rattle.pq_key_code.proofs.StoreKeys.{catalog_key_cmp}
use Rattle.pq_print.specs.Canonical.{text_of, definition_text}
use Rattle.pq_content.specs.Pairs.{Pair}
use Rattle.pq_store.specs.Content.{key_cmp}
use Rattle.pq_schema.specs.Sound.{AreMade}
use Rattle.pq_runnable.specs.Grown.{HaveGrown}
use Rattle.pq_catalog.proofs.Known.{IsKnownDefinition}
use Rattle.pq_catalog.specs.Stands.{catalog_value, value_at, catalog_pair, catalog_from, catalog_pairs}
use Rattle.pq_catalog.proofs.Texts.{text_stays}

-- a greater number has another key
other_key : (n k : ℕ) → k < n → n < 65536 → eq_by_cmp key_cmp (catalog_key n) (catalog_key k) ≡ false
other_key n k lt small = ap is_eq (catalog_key_cmp n k small (omega arith) ∙ sym (nat_cmp_is n k Greater lt))

pub absent_above : (tables : List Table) (number n : ℕ) (definitions : List Definition) → number + length definitions ≤ n → n < 65536 → find key_cmp (catalog_key n) (catalog_from tables number definitions) ≡ None
absent_above tables number n [] above small = refl
absent_above tables number n (definition ∷ definitions) above small =
    ap (λ b. cond b (Some (catalog_pair tables number definition).1) (find key_cmp (catalog_key n) (catalog_from tables (number + 1) definitions))) (other_key n number (omega arith) small)
    ∙ absent_above tables (number + 1) n definitions (omega arith) small

-- tables that have grown change no pair
pub pairs_stay : (tables later : List Table) (number : ℕ) (definitions : List Definition) → HaveGrown tables later → AreMade tables → AllByRecursion (IsKnownDefinition tables) definitions
    → catalog_from later number definitions ≡ catalog_from tables number definitions
pairs_stay tables later number [] grown made known = refl
pairs_stay tables later number (definition ∷ definitions) grown made known =
    λ i. (catalog_key number, catalog_value definition (text_stays tables later grown definition made known.0 i)) ∷ pairs_stay tables later (number + 1) definitions grown made known.1 i

-- the pair of the last definition comes last
last_pair : (tables : List Table) (number n : ℕ) (definitions : List Definition) (definition : Definition) → n ≡ number + length definitions
    → catalog_from tables number (definitions ++ definition ∷ []) ≡ catalog_from tables number definitions ++ catalog_pair tables n definition ∷ []
last_pair tables number n [] definition is = let same : number ≡ n = omega arith in ap (λ k. catalog_pair tables k definition ∷ []) same
last_pair tables number n (first ∷ definitions) definition is = ap (λ (rest : List Pair). catalog_pair tables number first ∷ rest) (last_pair tables (number + 1) n definitions definition (omega arith))

-- a schema with one definition more
abbrev pub ending : List Table → List Definition → Definition → Schema
ending tables definitions definition = record { tables = tables; definitions = definitions ++ definition ∷ [] }

last_value_of : (tables : List Table) (definitions : List Definition) (definition : Definition) → value_at (ending tables definitions definition) (length definitions + 1) ≡ catalog_value definition (text_of tables definition)
unfolding definition_text
last_value_of tables definitions definition =
    let place : length definitions + 1 - 1 ≡ length definitions = omega arith in
    ap (λ (d : Definition). catalog_value d (text_of tables d)) (ap (λ k. get_or (definitions ++ definition ∷ []) k no_definition) place ∙ get_or-append_seam definitions definition [] no_definition)

pub ending_pairs : (tables : List Table) (definitions : List Definition) (definition : Definition)
    → catalog_pairs (ending tables definitions definition) ≡ catalog_from tables 1 definitions ++ (catalog_key (length definitions + 1), value_at (ending tables definitions definition) (length definitions + 1)) ∷ []
ending_pairs tables definitions definition =
    last_pair tables 1 (length definitions + 1) definitions definition (omega arith)
    ∙ ap (λ (value : List ℕ). catalog_from tables 1 definitions ++ (catalog_key (length definitions + 1), value) ∷ []) (sym (last_value_of tables definitions definition))
