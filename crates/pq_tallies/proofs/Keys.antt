-- Keys of counters: which are equal, and of which counter a key is.
use Rattle.std.proofs.Common.{◌≡◌, ℕ, ◌<◌, Bool, true, false, List, [], ◌∷◌, ◌++◌, length, replicate, take, refl, sym, ap, ◌∙◌}
use Rattle.std.specs.Int.{w16, to_be_bytes}
use Rattle.std.specs.Ordering.{eq_by_cmp, is_eq}
use Rattle.std.specs.Cmp.{eq_by_cmp_equiv}
use Rattle.std.specs.Cmp.Lexicographic.{nat_list_cmp_total}
use Rattle.pq_base.specs.declared.value.ColType.{ColType}
use Rattle.pq_base.specs.declared.value.Dir.TheVariants.{Asc}
use Rattle.pq_base.specs.declared.value.Value.{Value}
use Rattle.pq_key_code.specs.KeyCode.{code_of}
use Rattle.pq_key_code.proofs.StoreKeys.{catalog_key_rises}
use Rattle.pq_content.specs.Tables.{AllOfKinds, same_values}
use Rattle.pq_content.proofs.Keys.{cmp-cons, row_ties, same_key}
use Rattle.pq_store.specs.Content.{key_cmp}
use Rattle.pq_tallies.specs.Counters.{counter_key}

-- what stands in front of two keys plays no part
front : (xs a b : List ℕ) → eq_by_cmp key_cmp (xs ++ a) (xs ++ b) ≡ eq_by_cmp key_cmp a b
front [] a b = refl
front (x ∷ xs) a b = ap is_eq (cmp-cons x (xs ++ a) (xs ++ b)) ∙ front xs a b

-- keys of one counter are equal exactly where the values are
pub counter_ties : (number : ℕ) (ts : List ColType) (a b : List Value) → AllOfKinds ts a → AllOfKinds ts b → eq_by_cmp key_cmp (counter_key number a) (counter_key number b) ≡ same_values b a
counter_ties number ts a b f g =
    let code = λ (x : List Value). code_of (replicate (length x) Asc) x in
    front (5 ∷ to_be_bytes w16 number) (code a) (code b)
    ∙ sym (front (2 ∷ 0 ∷ []) (code a) (code b))
    ∙ row_ties 0 0 ts a b f (λ _. g)

-- ---- of which counter a key is

abbrev pub counter_front : ℕ → List ℕ
counter_front number = 5 ∷ to_be_bytes w16 number

abbrev pub of_counter : ℕ → List ℕ → Bool
of_counter number key = eq_by_cmp key_cmp (take 3 key) (counter_front number)

key_itself : (k : List ℕ) → eq_by_cmp key_cmp k k ≡ true
key_itself k = (eq_by_cmp_equiv nat_list_cmp_total).refl k

pub its_own : (number : ℕ) (values : List Value) → of_counter number (counter_key number values) ≡ true
its_own number values = key_itself (counter_front number)

fronts_apart : (m n : ℕ) → m < n → n < 65536 → eq_by_cmp key_cmp (counter_front m) (counter_front n) ≡ false
fronts_apart m n less small =
    front (5 ∷ []) (to_be_bytes w16 m) (to_be_bytes w16 n)
    ∙ sym (front (1 ∷ []) (to_be_bytes w16 m) (to_be_bytes w16 n))
    ∙ ap is_eq (catalog_key_rises m n less small)

-- a key of one counter is of none behind it
pub of_none_behind : (m n : ℕ) (key : List ℕ) → m < n → n < 65536 → of_counter m key ≡ true → of_counter n key ≡ false
of_none_behind m n key less small here =
    ap (λ (k : List ℕ). eq_by_cmp key_cmp k (counter_front n)) (same_key (take 3 key) (counter_front m) here)
    ∙ fronts_apart m n less small
