-- What a range or a count has from the parts before a place, and what it gets from the others.
use Rattle.std.specs.Prelude.{◌≡◌, ℕ, ◌+◌, ◌-◌, ◌≤◌, true, List, [], ◌∷◌, ◌++◌, length, map, take, drop, filter, min, Option, Some, None, IfSome, Result, IfOk}
use Rattle.std.specs.List.{list_all}
use Rattle.pq_store.specs.declared.store.Pair.{Pair}
use Rattle.pq_store.specs.declared.store.StoreErr.{StoreErr}
use Rattle.pq_store.specs.Content.{entry, is_within, ranged_entries, counted_entries, IsPartOf}
use Rattle.pq_parts.specs.Clips.{is_key_before}
use Rattle.pq_parts.specs.Spans.{Span, number_met, own_content, concatenation, IsPieceOf}
use Rattle.pq_parts.specs.Tally.{TalliedCalls, HasCalled, HasAsked}

-- where the first of the parts begins
abbrev pub begin_of : List Span → Option (List ℕ)
begin_of [] = None
begin_of (span ∷ spans) = Some span.from

-- each part ends where the next one begins, behind where it begins itself
pub data LinkedSpans : List Span → Type 0 where
  none : LinkedSpans []
  link : (span : Span) (spans : List Span) → span.until ≡ begin_of spans → is_key_before span.from span.until ≡ true
      → LinkedSpans spans → LinkedSpans (span ∷ spans)

-- nodes of the parts before the place were called
pub record HasCome (spans : List Span) (before now : TalliedCalls) (at : ℕ) (low high : List ℕ) (found : ℕ) :
    Type 0 where
  pub met : ℕ
  pub left : met + number_met low high (drop at spans) ≡ number_met low high spans
  pub called : HasCalled before now met found

-- what the part at the place has answered to a range
pub record IsPieceAt (spans : List Span) (at : ℕ) (low high : List ℕ) (limit : ℕ) (before now : TalliedCalls)
    (result : Result (List Pair) StoreErr) : Type 0 where
  pub links : LinkedSpans spans
  pub span : Span
  pub cut : drop at spans ≡ span ∷ drop (at + 1) spans
  pub asked : HasAsked before now (number_met low high (span ∷ [])) limit (ranged_entries result) result
  pub piece : IfOk result (λ found. IsPieceOf span low high limit (map entry found))
  pub answer : IfOk result (λ found. IfSome (own_content span)
      (λ mine. map entry found ≡ take limit (filter (is_within low high) mine)))

-- and to a count
pub record IsCountAt (spans : List Span) (at : ℕ) (low high : List ℕ) (cap : ℕ) (before now : TalliedCalls)
    (result : Result ℕ StoreErr) : Type 0 where
  pub span : Span
  pub cut : drop at spans ≡ span ∷ drop (at + 1) spans
  pub asked : HasAsked before now (number_met low high (span ∷ [])) cap (counted_entries result) result
  pub few : IfOk result (λ n. n ≤ cap)
  pub answer : IfOk result (λ n. IfSome (own_content span)
      (λ mine. n ≡ min cap (length (filter (is_within low high) mine))))

-- the parts from the place on have the rest of the range
pub record LeavesRange (spans : List Span) (at : ℕ) (low high : List ℕ) (limit : ℕ)
    (found pairs : List (List ℕ × List ℕ)) : Type 0 where
  pub rest : List (List ℕ × List ℕ)
  pub behind : concatenation (drop at spans) ≡ Some rest
  pub whole : found ++ take (limit - length found) (filter (is_within low high) rest)
      ≡ take limit (filter (is_within low high) pairs)

-- the pairs of the parts before the place
pub record IsGathered (spans : List Span) (before now : TalliedCalls) (at : ℕ) (low high : List ℕ) (limit : ℕ)
    (found : List (List ℕ × List ℕ)) : Type 0 where
  pub come : HasCome spans before now at low high (length found)
  pub part : IsPartOf low high limit found
  pub passed : list_all (λ pair. is_key_before pair.0 (begin_of (drop at spans))) found ≡ true
  pub answer : (pairs : List (List ℕ × List ℕ)) → concatenation spans ≡ Some pairs
      → LeavesRange spans at low high limit found pairs
