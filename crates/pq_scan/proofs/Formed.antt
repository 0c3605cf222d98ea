-- A position's code, with its constants coded before.
use Rattle.std.proofs.Common.{◌≡◌, ℕ, zero, suc, List, [], ◌∷◌, ◌++◌, drop, map, Option, None, Some, refl, sym, ap, ◌∙◌, append_assoc}
use Rattle.std.specs.Prelude.{count_ones}
use Rattle.std.proofs.lemmas.List.{append-nil}
use Rattle.pq_base.specs.declared.value.Dir.{Dir}
use Rattle.pq_base.specs.declared.value.Value.{Value}
use Rattle.pq_key_code.specs.KeyCode.{component, code_of}
use Rattle.pq_schema.specs.declared.table.KeyPart.{KeyPart}
use Rattle.pq_schema.specs.Rows.{cells}
use Rattle.pq_schema.specs.Sequences.{columns_of}
use Rattle.pq_serving.specs.Starts.{filled_values}
use Rattle.pq_scan.specs.declared.forms.PlaceForm.{PlaceForm}
use Rattle.pq_scan.specs.declared.prepared.Scan.{Scan}
use Rattle.pq_scan.specs.Candidates.{Candidate, candidate_at, shown_values}
use Rattle.pq_scan.specs.Forms.{form_parts, form_behind, form_of, filled_code, formed_at}

no_code : (ds : List Dir) → code_of ds [] ≡ []
no_code [] = refl
no_code (d ∷ ds) = refl

pub filled_is : (code : List ℕ) (gs : List (Option Value)) (ds : List Dir) (xs : List Value) → filled_code (form_parts code gs ds) (form_behind code gs ds) xs ≡ code ++ code_of ds (filled_values gs xs)
filled_is code [] ds xs = sym (append-nil code) ∙ ap (λ (more : List ℕ). code ++ more) (sym (no_code ds))
filled_is code (g ∷ gs) [] xs = sym (append-nil code)
filled_is code (Some v ∷ gs) (d ∷ ds) xs = filled_is (code ++ component d v) gs ds xs ∙ append_assoc code (component d v) (code_of ds (filled_values gs xs))
filled_is code (None ∷ gs) (d ∷ ds) [] = sym (append-nil code)
filled_is code (None ∷ gs) (d ∷ ds) (x ∷ xs) = ap (λ (more : List ℕ). code ++ component d x ++ more) (filled_is [] gs ds xs) ∙ append_assoc code (component d x) (code_of ds (filled_values gs xs))

-- what is found for an input, by the form of its positions
pub formed_same : (scan : Scan) (constants : List (Option Value)) (form : PlaceForm) (input : ℕ) (held : List (List Value)) → form ≡ form_of constants scan.position_dirs → map (formed_at scan form input) held ≡ map (candidate_at scan constants input) held
formed_same scan constants form input held is = ap (λ (f : PlaceForm). map (formed_at scan f input) held) is ∙ each held
  where
    each : (rows : List (List Value)) → map (formed_at scan (form_of constants scan.position_dirs) input) rows ≡ map (candidate_at scan constants input) rows
    each [] = refl
    each (row ∷ rows) =
        let place : List ℕ → Candidate = λ code. record { place = code; item = record { input = input; held = row } } in
        ap (λ (code : List ℕ). place code ∷ map (formed_at scan (form_of constants scan.position_dirs) input) rows) (filled_is [] constants scan.position_dirs (drop (count_ones scan.fixed) (shown_values scan.access scan.sequence row)))
        ∙ ap (λ (cs : List Candidate). candidate_at scan constants input row ∷ cs) (each rows)

-- the values at the columns from a place on
pub cells_from : (n : ℕ) (sequence : List KeyPart) (row : List Value) → cells (columns_of (drop n sequence)) row ≡ drop n (cells (columns_of sequence) row)
cells_from zero sequence row = refl
cells_from (suc n) [] row = refl
cells_from (suc n) (part ∷ sequence) row = cells_from n sequence row
