-- One call after another over changes that are not made yet.
use Rattle.std.proofs.Common.{◌≡◌, ◌≤◌, ◌<◌, ◌+◌, ℕ, List, length, take, get_or, Option, sym, ap, ◌∙◌, arith}
use Rattle.std.specs.List.{sum_by}
use Rattle.std.proofs.lemmas.List.Sums.{sum_by_more, sum_by-take-le}
use Rattle.pq_store.specs.Content.{Content}
use Rattle.pq_calls.specs.World.{Affords}
use Rattle.pq_calls.proofs.Steps.{reads_then, reads_within, rest_left}
use Rattle.pq_pending.specs.Calls.{Uses, seen_world}
use Rattle.pq_pending.specs.declared.calls.PendingCalls.{PendingCalls}

module _ {S L : Type 0} (content : S → Option Content) (faults : S → ℕ) where
  -- two calls as one
  pub uses_then : (a b c : PendingCalls S L) (o e p q o' e' : ℕ) → Uses content faults a b o e → Uses content faults b c p q → o + p ≤ o' → e + q ≤ e' → Uses content faults a c o' e'
  uses_then a b c o e p q o' e' r s ops entries = record {
    same_pending = s.same_pending ∙ r.same_pending;
    same_store = s.same_store ∙ r.same_store;
    same_allowance = s.same_allowance ∙ r.same_allowance;
    same_meter = s.same_meter ∙ r.same_meter;
    same_content = s.same_content ∙ r.same_content;
    reads = reads_then _ _ _ _ _ _ _ _ _ r.reads s.reads ops entries;
  }

  pub uses_within : (a b : PendingCalls S L) (o e o' e' : ℕ) → Uses content faults a b o e → o ≤ o' → e ≤ e' → Uses content faults a b o' e'
  uses_within a b o e o' e' r ops entries = record {
    same_pending = r.same_pending;
    same_store = r.same_store;
    same_allowance = r.same_allowance;
    same_meter = r.same_meter;
    same_content = r.same_content;
    reads = reads_within _ _ _ _ _ _ r.reads ops entries;
  }

-- ---- a loop in which each item has its own share

one_more : {X : Type 0} (h : X → ℕ) (xs : List X) (i : ℕ) (x : X) → i < length xs → x ≡ get_or xs i x → sum_by h (take (i + 1) xs) ≡ sum_by h (take i xs) + h x
one_more h xs i x within at = sum_by_more h xs i x within ∙ ap (λ y. sum_by h (take i xs) + h y) (sym at)

module _ {S L : Type 0} (content : S → Option Content) (faults : S → ℕ) {X : Type 0} (f g : X → ℕ) (xs : List X) (i : ℕ) (x : X) (within : i < length xs) (at : x ≡ get_or xs i x) where
  pub share_next : (a b : PendingCalls S L) → Uses content faults a b (sum_by f (take i xs)) (sum_by g (take i xs)) → Affords a.allowance.now (sum_by f xs) (sum_by g xs) → Affords b.allowance.now (f x) (g x)
  share_next a b r left =
      let p = one_more f xs i x within at in
      let q = one_more g xs i x within at in
      let p' = sum_by-take-le f xs (i + 1) in
      let q' = sum_by-take-le g xs (i + 1) in
      rest_left (seen_world content faults a) (seen_world content faults b) _ _ (f x) (g x) _ _ r.reads left (omega arith) (omega arith)

  pub uses_next : (a b c : PendingCalls S L) → Uses content faults a b (sum_by f (take i xs)) (sum_by g (take i xs)) → Uses content faults b c (f x) (g x) → Uses content faults a c (sum_by f (take (i + 1) xs)) (sum_by g (take (i + 1) xs))
  uses_next a b c r s =
      let p = one_more f xs i x within at in
      let q = one_more g xs i x within at in
      uses_then content faults a b c _ _ _ _ _ _ r s (omega arith) (omega arith)

  pub uses_stop : (a b c : PendingCalls S L) → Uses content faults a b (sum_by f (take i xs)) (sum_by g (take i xs)) → Uses content faults b c (f x) (g x) → Uses content faults a c (sum_by f xs) (sum_by g xs)
  uses_stop a b c r s =
      let p' = sum_by-take-le f xs (i + 1) in
      let q' = sum_by-take-le g xs (i + 1) in
      uses_within content faults a c _ _ _ _ (uses_next a b c r s) p' q'
