-- Rows that fit have as many values as types; directions past a row's end play no part in its code; the keys of definitions rise with their numbers.
use Rattle.std.proofs.Common.{◌≡◌, ℕ, zero, suc, ◌≤◌, ◌<◌, List, [], ◌∷◌, ◌++◌, length, refl, sym, ap, ◌∙◌, arith}
use Rattle.std.specs.Prelude.{replicate}
use Rattle.std.specs.Int.{w16, to_be_bytes}
use Rattle.std.specs.declared.cmp.Ordering.TheVariants.{Less}
use Rattle.std.specs.Ordering.{nat_cmp}
use Rattle.std.specs.Cmp.{nat_cmp_is}
use Rattle.std.specs.Cmp.Lexicographic.{slice_cmp}
use Rattle.std.proofs.lemmas.Nat.{from_be_bytes-to_be_bytes_2}
use Rattle.pq_base.specs.declared.value.Dir.TheVariants.{Asc}
use Rattle.pq_base.specs.declared.value.Value.{Value}
use Rattle.pq_key_code.specs.KeyCode.{IsBytes, component, code_of, catalog_key}
use Rattle.pq_key_code.proofs.Bytes.{worth, worth_cmp}

pub code_of-ascending : (n : ℕ) (xs : List Value) → length xs ≤ n → code_of (replicate n Asc) xs ≡ code_of (replicate (length xs) Asc) xs
code_of-ascending n [] le = elim n as (λ n. code_of (replicate n Asc) [] ≡ []) [ zero ↦ refl | suc n ↦ refl ]
code_of-ascending zero (x ∷ xs) le = absurd (omega arith)
code_of-ascending (suc n) (x ∷ xs) le = ap (λ (c : List ℕ). component Asc x ++ c) (code_of-ascending n xs (omega arith))

-- ---- keys of definitions

IsBytes-two : (n : ℕ) → IsBytes (to_be_bytes w16 n)
IsBytes-two n = (omega arith, (omega arith, tt))

worth_two : (n : ℕ) → n < 65536 → worth (to_be_bytes w16 n) ≡ n
worth_two n lt = omega (arith, from_be_bytes-to_be_bytes_2 n lt)

pub catalog_key_cmp : (m n : ℕ) → m < 65536 → n < 65536 → slice_cmp nat_cmp (catalog_key m) (catalog_key n) ≡ nat_cmp m n
catalog_key_cmp m n lm ln =
    worth_cmp (to_be_bytes w16 m) (to_be_bytes w16 n) (IsBytes-two m) (IsBytes-two n) refl
    ∙ ap (λ (k : ℕ). nat_cmp k (worth (to_be_bytes w16 n))) (worth_two m lm)
    ∙ ap (nat_cmp m) (worth_two n ln)

pub catalog_key_rises : (m n : ℕ) → m < n → n < 65536 → slice_cmp nat_cmp (catalog_key m) (catalog_key n) ≡ Less
catalog_key_rises m n lt ln = catalog_key_cmp m n (omega arith) ln ∙ sym (nat_cmp_is m n Less (omega arith))
