-- The order by turns, and how many calls writes make.
use Rattle.std.proofs.Common.{◌≡◌, ℕ, zero, suc, ◌+◌, ◌*◌, ◌^◌, ◌≤◌, ◌<◌, ◌==◌, Bool, true, false, cond, List, [], ◌∷◌, ◌++◌, length, take, get_or, All, refl, sym, ap, ◌∙◌, subst, arith, append_assoc, append-nil}
use Rattle.std.proofs.lemmas.Bool.{ne_eqb}
use Rattle.std.proofs.lemmas.List.{take_more, take_all}
use Rattle.std.proofs.lemmas.List.Sums.{sum_by-append, sum_by-cons}
use Rattle.std.specs.List.{AllByRecursion, sum_by, count_by}
use Rattle.pq_schema.specs.declared.table.Foreign.{Foreign}
use Rattle.pq_schema.specs.declared.table.Limit.{Limit}
use Rattle.pq_schema.specs.declared.table.Table.{Table}
use Rattle.pq_schema.specs.Tables.{table_at}
use Rattle.pq_schema.specs.Valid.{IsValid}
use Rattle.pq_schema.specs.Schema.{Schema}
use Rattle.pq_index_keep.specs.Bounds.{write_bound}
use Rattle.pq_index_keep.specs.Sound.{IsWrite}
use Rattle.pq_index_keep.specs.Tested.{touches, touches_index, scope_of}
use Rattle.pq_index_keep.specs.declared.write.Scope.TheVariants as scope
use Rattle.pq_index_keep.specs.declared.write.Write.{Write}
use Rattle.pq_index_keep.specs.declared.write.Write.TheVariants as write
use Rattle.pq_index_keep.proofs.Few.{few_of}
use Rattle.pq_index_keep.proofs.Narrow.{valid_writable}
use Rattle.pq_content.specs.Standing.{write_ops}
use Rattle.pq_clients.specs.Promised.{places_below, by_turns}
use Rattle.pq_clients.specs.Promises.{calls_of_write}

-- ---- the order

pub round_more : (k : ℕ) (front : List ℕ) → front ++ places_below (k + 1) ≡ (front ++ places_below k) ++ k ∷ []
round_more k front = let e : k + 1 ≡ suc k = omega arith in ap (λ n. front ++ places_below n) e ∙ sym (append_assoc front (places_below k) (k ∷ []))

pub turns_more : (k n : ℕ) → by_turns k (n + 1) ≡ by_turns k n ++ places_below k
turns_more k zero = append-nil (places_below k)
turns_more k (suc n) = let e : suc n + 1 ≡ suc (n + 1) = omega arith in ap (by_turns k) e ∙ ap (λ ps. places_below k ++ ps) (turns_more k n) ∙ sym (append_assoc (places_below k) (by_turns k n) (places_below k))

all_append : {A : Type 0} (P : A → Type 0) (xs ys : List A) → AllByRecursion P xs → AllByRecursion P ys → AllByRecursion P (xs ++ ys)
all_append P [] ys p q = q
all_append P (x ∷ xs) ys p q = (p.0, all_append P xs ys p.1 q)

places_small : (k m : ℕ) → k ≤ m → AllByRecursion (λ p. p < m) (places_below k)
places_small zero m le = tt
places_small (suc k) m le = all_append (λ p. p < m) (places_below k) (k ∷ []) (places_small k m (omega (arith, le))) (omega (arith, le), tt)

pub turns_small : (k n : ℕ) → AllByRecursion (λ p. p < k) (by_turns k n)
turns_small k zero = tt
turns_small k (suc n) = all_append (λ p. p < k) (places_below k) (by_turns k n) (places_small k k (omega arith)) (turns_small k n)

-- ---- calls

cond_other : {A : Type 0} (b : Bool) (x y : A) → b ≡ false → cond b x y ≡ y
cond_other true x y e = absurd (cc)
cond_other false x y e = refl

ops_two : (n : ℕ) → 2 ≤ n → write_ops n ≡ n + 2
ops_two n two = cond_other (n == 1) 1 (n + 2) (ne_eqb n 1 (λ e. omega (arith, two, e)))

count_all : {A : Type 0} (f : A → Bool) (xs : List A) → ((x : A) → f x ≡ true) → count_by f xs ≡ length xs
count_all f [] all = refl
count_all f (x ∷ xs) all = sum_by-cons (λ y. cond {A = ℕ} (f y) 1 0) x xs ∙ omega (arith, ap (λ b. cond {A = ℕ} b 1 0) (all x), count_all f xs all)

-- one and then so many changes
ops_after : (n : ℕ) → 4 + 2 * n ≤ 2 + 2 * write_ops (1 + n)
ops_after zero = omega arith
ops_after (suc n) = omega (arith, ops_two (1 + suc n) (omega arith))

ops_after_two : (n : ℕ) → 4 + 3 * n ≤ 2 + 2 * write_ops (1 + 2 * n)
ops_after_two zero = omega arith
ops_after_two (suc n) = omega (arith, ops_two (1 + 2 * suc n) (omega arith))

-- a write makes at most twice as many calls as its bound has operations
pub calls_within : (tables : List Table) (w : Write) → calls_of_write tables w ≤ 2 * (write_bound tables w).ops
calls_within tables (write.Insert t row) = omega (arith, count_all (λ (f : Foreign). touches scope.All f.cols) (table_at tables t).foreign (λ f. refl), count_all (λ (limit : Limit). touches scope.All limit.cols) (table_at tables t).limits (λ limit. refl), ops_after (length (table_at tables t).indexes))
calls_within tables (write.Update t key sets conds) = omega (arith, ops_after_two (count_by (touches_index (scope_of sets) (table_at tables t)) (table_at tables t).indexes))
calls_within tables (write.Delete t key conds) = omega (arith, ops_after (length (table_at tables t).indexes))

pub few_ops : (s : Schema) (w : Write) → IsValid s → length s.tables ≤ 64 → IsWrite s.tables w → (write_bound s.tables w).ops < 2 ^ 32
few_ops s w valid few is = (few_of s.tables w (valid_writable valid) few is).ops

module _ (tables : List Table) where
  pub calls_more : (ws : List Write) (i c m : ℕ) (w : Write) → i < length ws → w ≡ get_or ws i w → sum_by (calls_of_write tables) (take i ws) ≤ c → calls_of_write tables w ≤ m → sum_by (calls_of_write tables) (take (i + 1) ws) ≤ c + m
  calls_more ws i c m w short is so_far most =
      let cut : take (i + 1) ws ≡ take i ws ++ w ∷ [] = take_more ws i w short ∙ ap (λ x. take i ws ++ x ∷ []) (sym is) in
      omega (arith, so_far, most, ap (sum_by (calls_of_write tables)) cut, sum_by-append (calls_of_write tables) (take i ws) (w ∷ []), sum_by-cons (calls_of_write tables) w [])

  pub calls_all : (ws : List Write) (i c : ℕ) → length ws ≤ i → sum_by (calls_of_write tables) (take i ws) ≤ c → sum_by (calls_of_write tables) ws ≤ c
  calls_all ws i c long so_far = omega (arith, so_far, ap (sum_by (calls_of_write tables)) (take_all i ws long))

  abbrev pub HasCalls : ℕ → List Write → Type 0
  HasCalls r hand = sum_by (calls_of_write tables) hand ≤ r

  weaker : (r m : ℕ) (hs : List (List Write)) → r ≤ m → AllByRecursion (HasCalls r) hs → AllByRecursion (HasCalls m) hs
  weaker r m [] le all = tt
  weaker r m (h ∷ hs) le all = (omega (arith, all.0, le), weaker r m hs le all.1)

  pub rounds_more : (hs : List (List Write)) (i r m n : ℕ) (h : List Write) → i < length hs → h ≡ get_or hs i h → AllByRecursion (HasCalls r) (take i hs) → HasCalls m h → r ≤ n → m ≤ n → AllByRecursion (HasCalls n) (take (i + 1) hs)
  rounds_more hs i r m n h short is so_far most le le2 =
      let cut : take (i + 1) hs ≡ take i hs ++ h ∷ [] = take_more hs i h short ∙ ap (λ x. take i hs ++ x ∷ []) (sym is) in
      subst (AllByRecursion (HasCalls n)) (sym cut) (all_append (HasCalls n) (take i hs) (h ∷ []) (weaker r n (take i hs) le so_far) (omega (arith, most, le2), tt))

  pub rounds_all : (hs : List (List Write)) (i r : ℕ) → length hs ≤ i → AllByRecursion (HasCalls r) (take i hs) → AllByRecursion (HasCalls r) hs
  rounds_all hs i r long so_far = subst (AllByRecursion (HasCalls r)) (take_all i hs long) so_far
