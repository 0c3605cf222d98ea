-- What nodes are asked together: each its own questions, whose answers go back to their places.
use Rattle.std.specs.Prelude.{◌≡◌, ℕ, zero, suc, ◌+◌, ◌&&◌, Bool, true, false, List, [], ◌∷◌, length, map, take, drop, Option, Some, None, Result, IfSome, ◌≤◌, if◌then◌else◌}
use Rattle.std.specs.Ordering.{is_le}
use Rattle.std.specs.List.{AllByRecursion, sum_by}
use Rattle.std.specs.FinMap.{get}
use Rattle.pq_store.specs.declared.store.Ends.{Ends}
use Rattle.pq_store.specs.declared.store.Pair.{Pair}
use Rattle.pq_store.specs.declared.store.Store.{Ghosts}
use Rattle.pq_store.specs.declared.store.StoreErr.{StoreErr}
use Rattle.pq_store.specs.declared.store.Test.{Test}
use Rattle.pq_store.specs.declared.store.Test.TheVariants.{Has, Lacks, Full}
use Rattle.pq_store.specs.Content.{Content, key_cmp, entry, pairs_within, IsPartOf, HasCause}
use Rattle.pq_parts.specs.declared.part.Part.{Part}
use Rattle.pq_parts.specs.Clips.{is_key_before}
use Rattle.pq_parts.specs.Spans.{Span, spans, first_from, firsts, faults_of, part_has_key}

-- the answers of what was asked, in the places of what stood there
abbrev pub put_answers : {Q A : Type 0} → List (Option Q) → List A → List A → List A
put_answers [] answers old = old
put_answers (asked ∷ asks) [] old = old
put_answers (asked ∷ asks) (answer ∷ answers) [] = []
put_answers (None ∷ asks) (answer ∷ answers) (x ∷ old) = x ∷ put_answers asks answers old
put_answers (Some asked ∷ asks) (answer ∷ answers) (x ∷ old) = answer ∷ put_answers asks answers old

-- the answer in its place, where something was asked
abbrev pub put_answer : {Q A : Type 0} → List (Option Q) → ℕ → A → List A → List A
put_answer [] at answer old = old
put_answer (asked ∷ asks) at answer [] = []
put_answer (None ∷ asks) zero answer (x ∷ old) = x ∷ old
put_answer (Some asked ∷ asks) zero answer (x ∷ old) = answer ∷ old
put_answer (asked ∷ asks) (suc at) answer (x ∷ old) = x ∷ put_answer asks at answer old

-- what was asked is answered, and at the other places stands what stood there
abbrev pub AreAnswersPut : {Q A : Type 0} → (Q → A → Type 0) → List (Option Q) → List A → List A → Type 0
AreAnswersPut R [] [] [] = Unit {0}
AreAnswersPut R (None ∷ asks) (x ∷ old) (y ∷ new) = (y ≡ x) × AreAnswersPut R asks old new
AreAnswersPut R (Some asked ∷ asks) (x ∷ old) (y ∷ new) = R asked y × AreAnswersPut R asks old new
AreAnswersPut R _ _ _ = ⊥

-- the key lies from the first one on, before the end
abbrev pub lies : List ℕ → Option (List ℕ) → List ℕ → Bool
lies from until key = is_le (key_cmp from key) && is_key_before key until

-- the key, where it lies there
abbrev pub own_key : List ℕ → Option (List ℕ) → Option (List ℕ) → Option (List ℕ)
own_key from until None = None
own_key from until (Some key) = if lies from until key then Some key else None

-- the value of the key in the content, where that is told
abbrev pub IsTold : Option Content → List ℕ → Option (List ℕ) → Type 0
IsTold told key value = IfSome told (λ content. value ≡ get content key)

-- the part at the place has put the values of its keys
pub record IsGetsAt (spans : List Span) (at : ℕ) (keys old new : List (Option (List ℕ))) : Type 0 where
  pub span : Span
  pub cut : drop at spans ≡ span ∷ drop (at + 1) spans
  pub put : AreAnswersPut (IsTold span.held) (map (own_key span.from span.until) keys) old new

-- how often the nodes were asked together
abbrev pub rounds_of : {S : Type 0} → (S → ℕ) → List (Part S) → ℕ
rounds_of rounds parts = sum_by (λ part. rounds part.store) parts

module _ {S L : Type 0} (s : Ghosts S L) where
  -- a node was asked, at most once: it holds what it held
  pub record AsksOnce (before after : S) {A : Type 0} (result : Result A StoreErr) : Type 0 where
    pub same : s.content after ≡ s.content before
    pub cause : HasCause (s.faults before) (s.faults after) result
    pub round : s.rounds after ≤ s.rounds before + 1

  -- the node of a part was asked, at most once
  pub record AsksNode (before after : Part S) {A : Type 0} (result : Result A StoreErr) : Type 0 where
    pub from : after.from ≡ before.from
    pub node : AsksOnce before.store after.store result

  -- nodes were asked, at most so often together: each part is where it was and holds what it held
  pub record AsksNodes (before after : List (Part S)) (rounds : ℕ) {A : Type 0} (result : Result A StoreErr) : Type 0 where
    pub same : spans s.content after ≡ spans s.content before
    pub places : firsts after ≡ firsts before
    pub cause : HasCause (faults_of s.faults before) (faults_of s.faults after) result
    pub few : rounds_of s.rounds after ≤ rounds_of s.rounds before + rounds

-- the end stands at the other one or before it, where there is one
abbrev pub is_end_within : List ℕ → Option (List ℕ) → Bool
is_end_within high None = true
is_end_within high (Some end) = is_le (key_cmp high end)

-- all keys of the range lie from the first one on, before the end
abbrev pub covers_range : List ℕ → Option (List ℕ) → List ℕ → List ℕ → Bool
covers_range from until low high = is_le (key_cmp from low) && is_end_within high until

abbrev pub covers : List ℕ → Option (List ℕ) → Ends → Bool
covers from until ends = covers_range from until ends.low ends.high

-- the range, where it lies there
abbrev pub own_ask : List ℕ → Option (List ℕ) → Option Ends → Option Ends
own_ask from until None = None
own_ask from until (Some ends) = if covers from until ends then Some ends else None

-- none of the parts has all keys of the range
abbrev pub is_spread : List Span → Ends → Bool
is_spread [] ends = true
is_spread (span ∷ list) ends = if covers span.from span.until ends then false else is_spread list ends

-- how often nodes are asked for the range, where it lies in no part alone
abbrev pub range_calls : List Span → Ends → ℕ
range_calls spans ends = if is_spread spans ends then length spans else 0

abbrev pub spread_calls : List Span → Option Ends → ℕ
spread_calls spans None = 0
spread_calls spans (Some ends) = range_calls spans ends

-- the first pairs of the range in the content, where that is told
pub record ArePairsTold (told : Option Content) (limit : ℕ) (ends : Ends) (found : List Pair) : Type 0 where
  pub answer : IfSome told (λ content. map entry found ≡ take limit (pairs_within content ends.low ends.high))
  pub part : IsPartOf ends.low ends.high limit (map entry found)

-- the pairs are found, unless one of the parts behind has all keys of the range
abbrev pub AreFoundBut : Option Content → List Span → ℕ → Option Ends → List Pair → Type 0
AreFoundBut told behind limit None found = found ≡ []
AreFoundBut told behind limit (Some ends) found = is_spread behind ends ≡ true → ArePairsTold told limit ends found

-- the part at the place has put the pairs of its ranges
pub record IsRangesAt (spans : List Span) (at : ℕ) (limit : ℕ) (asks : List (Option Ends)) (old new : List (List Pair)) : Type 0 where
  pub span : Span
  pub cut : drop at spans ≡ span ∷ drop (at + 1) spans
  pub put : AreAnswersPut (ArePairsTold span.held limit) (map (own_ask span.from span.until) asks) old new

-- the part at the place answers the test alone: it has the key, or all keys of the range
abbrev pub answers_test : {S : Type 0} → List (Part S) → ℕ → Test → Bool
answers_test parts at (Has key) = part_has_key parts at key
answers_test parts at (Lacks key) = part_has_key parts at key
answers_test parts at (Full ends n) = part_has_key parts at ends.low && is_end_within ends.high (first_from (drop (at + 1) parts))

abbrev pub AreAnswered : {S : Type 0} → List (Part S) → ℕ → List Test → Type 0
AreAnswered parts at tests = AllByRecursion (λ test. answers_test parts at test ≡ true) tests
