-- What a store over several parts holds: the part at each place has the keys from its own on, before
-- the next part's.
use Rattle.std.specs.Prelude.{◌≡◌, ℕ, zero, suc, ◌≤◌, Bool, true, false, ◌&&◌, List, [], ◌∷◌, ◌++◌, length, map, sum_by, count_by, Option, Some, None, IsTrue, All, if◌then◌else◌}
use Rattle.std.specs.List.{list_all}
use Rattle.std.specs.Option.{option_map, option_and_then}
use Rattle.std.specs.Ordering.{is_lt, is_le}
use Rattle.std.specs.FinMap.{entries, from_sorted}
use Rattle.pq_store.specs.Content.{Content, key_cmp, is_rising, IsPartOf}
use Rattle.pq_parts.specs.declared.part.Part.{Part}
use Rattle.pq_parts.specs.Clips.{is_key_before}
use Rattle.pq_parts.specs.Tally.{TalliedCalls, raised_number}

-- the keys of one part, and what its node tells
pub record Span : Type 0 where
  pub from : List ℕ
  pub until : Option (List ℕ)
  pub held : Option Content

-- the key is one of the part
abbrev pub is_of : Span → List ℕ → Bool
is_of span key = is_le (key_cmp span.from key) && is_key_before key span.until

-- the part has a key of the range
abbrev pub span_meets : List ℕ → List ℕ → Span → Bool
span_meets low high span = is_lt (key_cmp low high) && (is_lt (key_cmp span.from high) && is_key_before low span.until)

-- how many parts have keys of the range
abbrev pub number_met : List ℕ → List ℕ → List Span → ℕ
number_met low high spans = count_by (span_meets low high) spans

-- where the first part begins
abbrev pub first_from : {S : Type 0} → List (Part S) → Option (List ℕ)
first_from [] = None
first_from (part ∷ parts) = Some part.from

abbrev pub span_of : {S : Type 0} → (S → Option Content) → Part S → Option (List ℕ) → Span
span_of content part until = record { from = part.from; until = until; held = content part.store }

-- the parts in order, each up to the next one's first key
abbrev pub spans : {S : Type 0} → (S → Option Content) → List (Part S) → List Span
spans content [] = []
spans content (part ∷ parts) = span_of content part (first_from parts) ∷ spans content parts

-- the key is one of the part at this place
abbrev pub part_has_key : {S : Type 0} → List (Part S) → ℕ → List ℕ → Bool
part_has_key [] at key = false
part_has_key (part ∷ parts) zero key = is_le (key_cmp part.from key) && is_key_before key (first_from parts)
part_has_key (part ∷ parts) (suc at) key = part_has_key parts at key

abbrev pub own_of : Span → Content → Option (List (List ℕ × List ℕ))
own_of span content = if list_all (λ pair. is_of span pair.0) (entries content) then Some (entries content) else None

-- the node's pairs, where it tells them and all are of its part
abbrev pub own_content : Span → Option (List (List ℕ × List ℕ))
own_content span = option_and_then (own_of span) span.held

abbrev pub followed_by : Option (List (List ℕ × List ℕ)) → Option (List (List ℕ × List ℕ))
    → Option (List (List ℕ × List ℕ))
followed_by None rest = None
followed_by (Some pairs) None = None
followed_by (Some pairs) (Some rest) = Some (pairs ++ rest)

-- the pairs of all parts in order, where each has its own
abbrev pub concatenation : List Span → Option (List (List ℕ × List ℕ))
concatenation [] = Some []
concatenation (span ∷ spans) = followed_by (own_content span) (concatenation spans)

-- pairs of the part that lie in the range, in order and at most so many
pub record IsPieceOf (span : Span) (low high : List ℕ) (limit : ℕ) (pairs : List (List ℕ × List ℕ)) : Type 0 where
  pub part : IsPartOf low high limit pairs
  pub own : All (λ pair. is_of span pair.0 ≡ true) pairs

-- what the parts hold together
abbrev pub joined_content : List Span → Option Content
joined_content spans = option_map from_sorted (concatenation spans)

-- what the nodes of the parts hold together
abbrev pub content_of : {S : Type 0} → (S → Option Content) → List (Part S) → Option Content
content_of content parts = joined_content (spans content parts)

-- the first keys in order, as keys of pairs
abbrev pub firsts : {S : Type 0} → List (Part S) → List (List ℕ × List ℕ)
firsts parts = map (λ part. (part.from, [])) parts

abbrev pub are_rising : {S : Type 0} → List (Part S) → Bool
are_rising parts = is_rising (firsts parts)

-- the parts begin at the empty key and strictly rise
pub record IsPlacement {S : Type 0} (parts : List (Part S)) : Type 0 where
  pub first : first_from parts ≡ Some []
  pub few : length parts ≤ 64
  pub rising : IsTrue (are_rising parts)

-- the parts, and the calls of their nodes so far
pub record PlacedNode (S : Type 0) : Type 0 where
  pub parts : List (Part S)
  pub tally : TalliedCalls

-- the faults of the nodes together, up to the last number of 64 bits
abbrev pub faults_of : {S : Type 0} → (S → ℕ) → List (Part S) → ℕ
faults_of faults parts = raised_number 0 (sum_by (λ part. faults part.store) parts)
