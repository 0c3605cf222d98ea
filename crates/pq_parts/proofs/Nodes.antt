-- Parts of which one has another node: what they hold together, and their faults.
use Rattle.std.proofs.Common.{◌≡◌, ℕ, zero, suc, ◌+◌, ◌<◌, ◌≤◌, inl, inr, List, [], ◌∷◌, length, get_or, set, IsTrue, IfSome, Option, Some, Result, Ok, Err, IfOk, OnOk, refl, sym, subst, ap, ◌∙◌, arith}
use Rattle.std.specs.Option.{option_map}
use Rattle.std.specs.FinMap.{get}
use Rattle.std.proofs.lemmas.List.{length-set}
use Rattle.std.proofs.lemmas.List.Sums.{sum_by-set, get_or-le-sum_by}
use Rattle.std.specs.List.{sum_by}
use Rattle.pq_store.specs.declared.store.Guard.{Guard}
use Rattle.pq_store.specs.declared.store.Store.{Ghosts}
use Rattle.pq_store.specs.declared.store.StoreErr.{StoreErr}
use Rattle.pq_store.specs.Content.{Content, after_write, HasRisen, HasCause}
use Rattle.pq_parts.specs.declared.part.Part.{Part}
use Rattle.pq_parts.specs.Asking.{rounds_of, AsksOnce, AsksNode, AsksNodes}
use Rattle.pq_parts.specs.Tally.{raised_number}
use Rattle.pq_parts.specs.Spans.{span_of, spans, joined_content, first_from, firsts, part_has_key, IsPlacement, faults_of}
use Rattle.pq_parts.proofs.Joined.{linked, has_span, answer_at, with_held, joined_written}

-- the part with another node
abbrev pub with_node : {S : Type 0} → Part S → S → Part S
with_node part store = record { from = part.from; store = store }

module _ {S : Type 0} (part : Part S) (store : S) where
  first_set : (parts : List (Part S)) (at : ℕ) → part ≡ get_or parts at part → first_from (set parts at (with_node part store)) ≡ first_from parts
  first_set [] at here = refl
  first_set (first ∷ parts) zero here = ap (λ p. Some p.from) here
  first_set (first ∷ parts) (suc at) here = refl

  pub firsts_set : (parts : List (Part S)) (at : ℕ) → part ≡ get_or parts at part → firsts (set parts at (with_node part store)) ≡ firsts parts
  firsts_set [] at here = refl
  firsts_set (first ∷ parts) zero here = ap (λ p. (p.from, []) ∷ firsts parts) here
  firsts_set (first ∷ parts) (suc at) here = ap (λ rest. (first.from, []) ∷ rest) (firsts_set parts at here)

  pub placed_set : (parts : List (Part S)) (at : ℕ) → part ≡ get_or parts at part → IsPlacement parts → IsPlacement (set parts at (with_node part store))
  placed_set parts at here placed = record {
    first = first_set parts at here ∙ placed.first;
    few = let few = placed.few in omega (arith, length-set parts at (with_node part store));
    rising = rw (firsts_set parts at here) placed.rising;
  }

  pub spans_set : (content : S → Option Content) (parts : List (Part S)) (at : ℕ) → part ≡ get_or parts at part
      → spans content (set parts at (with_node part store)) ≡ with_held (spans content parts) at (content store)
  spans_set content [] at here = refl
  spans_set content (first ∷ parts) zero here = ap (λ p. record { from = p.from; until = first_from parts; held = content store } ∷ spans content parts) here
  spans_set content (first ∷ parts) (suc at) here =
      ap (λ until. span_of content first until ∷ spans content (set parts at (with_node part store))) (first_set parts at here)
      ∙ ap (λ rest. span_of content first (first_from parts) ∷ rest) (spans_set content parts at here)

  pub same_set : (content : S → Option Content) (parts : List (Part S)) (at : ℕ) → part ≡ get_or parts at part → content store ≡ content part.store
      → spans content (set parts at (with_node part store)) ≡ spans content parts
  same_set content parts at here same = spans_set content parts at here ∙ kept parts at here
    where
      kept : (parts : List (Part S)) (at : ℕ) → part ≡ get_or parts at part → with_held (spans content parts) at (content store) ≡ spans content parts
      kept [] at here = refl
      kept (first ∷ parts) zero here = ap (λ held. record { from = first.from; until = first_from parts; held = held } ∷ spans content parts) (same ∙ ap (λ p. content p.store) here)
      kept (first ∷ parts) (suc at) here = ap (λ rest. span_of content first (first_from parts) ∷ rest) (kept parts at here)

  -- what the node's faults tell of the faults of all
  pub cause_set : (faults : S → ℕ) (parts : List (Part S)) (at : ℕ) → at < length parts → part ≡ get_or parts at part → {A : Type 0} (result : Result A StoreErr)
      → HasCause (faults part.store) (faults store) result → HasCause (faults_of faults parts) (faults_of faults (set parts at (with_node part store))) result
  cause_set faults parts at within here result cause =
      let sums : sum_by (λ p. faults p.store) (set parts at (with_node part store)) + faults part.store ≡ sum_by (λ p. faults p.store) parts + faults store
      = rw (← here) at (sum_by-set (λ p. faults p.store) parts at (with_node part store) part within) in
      let one : faults part.store ≤ sum_by (λ p. faults p.store) parts = rw (← here) at (get_or-le-sum_by (λ p. faults p.store) parts at part within) in
      record {
        later = rises _ _ _ _ sums cause.later;
        failed = λ is. risen _ _ _ _ sums one (cause.failed is);
      }
    where
      rises : (old new before now : ℕ) → now + old ≡ before + new → old ≤ new → raised_number 0 before ≤ raised_number 0 now
      rises old new before now sums le = omega arith

      risen : (old new before now : ℕ) → now + old ≡ before + new → old ≤ before → HasRisen old new → HasRisen (raised_number 0 before) (raised_number 0 now)
      risen old new before now sums one (inl less) = grind arith
      risen old new before now sums one (inr last) = grind arith

  -- one round more of the node
  pub rounds_set : (rounds : S → ℕ) (parts : List (Part S)) (at : ℕ) → at < length parts → part ≡ get_or parts at part → rounds store ≤ rounds part.store + 1
      → rounds_of rounds (set parts at (with_node part store)) ≤ rounds_of rounds parts + 1
  rounds_set rounds parts at within here once =
      let sums : rounds_of rounds (set parts at (with_node part store)) + rounds part.store ≡ rounds_of rounds parts + rounds store
      = rw (← here) at (sum_by-set (λ p. rounds p.store) parts at (with_node part store) part within) in
      omega (arith, sums, once)

-- the same of a part that begins where the old one does
module _ {S : Type 0} (part new : Part S) (kept : new.from ≡ part.from) (parts : List (Part S)) (at : ℕ) (here : part ≡ get_or parts at part) where
  moved : new ≡ with_node part new.store
  moved = λ i. record { from = kept i; store = new.store }

  pub placed_moved : IsPlacement parts → IsPlacement (set parts at new)
  placed_moved placed = subst (λ p. IsPlacement (set parts at p)) (sym moved) (placed_set part new.store parts at here placed)

-- a call of one part's node is one of all parts' nodes
pub asks_set : {S L : Type 0} (s : Ghosts S L) (part : Part S) (store : S) (parts : List (Part S)) (at : ℕ) → part ≡ get_or parts at part → at < length parts
    → {A : Type 0} (result : Result A StoreErr) → AsksOnce s part.store store result → AsksNodes s parts (set parts at (with_node part store)) 1 result
asks_set s part store parts at here within result asks = record {
  same = same_set part store s.content parts at here asks.same;
  places = firsts_set part store parts at here;
  cause = cause_set part store s.faults parts at within here result asks.cause;
  few = rounds_set part store s.rounds parts at within here asks.round;
}

-- the same of a part that begins where the old one does
pub asks_moved : {S L : Type 0} (s : Ghosts S L) (part new : Part S) (parts : List (Part S)) (at : ℕ) → part ≡ get_or parts at part → at < length parts
    → {A : Type 0} (result : Result A StoreErr) → AsksNode s part new result → AsksNodes s parts (set parts at new) 1 result
asks_moved s part new parts at here within result asks =
    subst (λ p. AsksNodes s parts (set parts at p) 1 result) (sym (moved part new asks.from parts at here)) (asks_set s part new.store parts at here within result asks.node)

-- the span of the part at a place
pub span_here : {S : Type 0} (content : S → Option Content) (parts : List (Part S)) (at : ℕ) (part : Part S) → at < length parts → part ≡ get_or parts at part
    → (until : Option (List ℕ)) × (span_of content part until ≡ get_or (spans content parts) at (span_of content part until))
span_here content [] at part within here = absurd (omega arith)
span_here content (first ∷ parts) zero part within here = (first_from parts, ap (λ p. span_of content p (first_from parts)) here)
span_here content (first ∷ parts) (suc at) part within here = span_here content parts at part (omega arith) here

module _ {S : Type 0} (content : S → Option Content) (parts : List (Part S)) (placed : IsPlacement parts) (at : ℕ) (key : List ℕ) (has : IsTrue (part_has_key parts at key))
    (within : at < length parts) (part : Part S) (here : part ≡ get_or parts at part) where
  -- an answer of the node that has the key is one of the whole
  pub answer_set : {A : Type 0} (P : A → Option (List ℕ) → Type 0) (result : Result A StoreErr) → IfOk result (λ x. IfSome (content part.store) (λ c. P x (get c key)))
      → IfOk result (λ x. IfSome (joined_content (spans content parts)) (λ c. P x (get c key)))
  answer_set P (Ok x) answer =
      let span = span_here content parts at part within here in
      answer_at (P x) (spans content parts) (linked content parts placed.rising) at key (has_span content parts at key has) _ span.1 answer
  answer_set P (Err e) answer = tt

  -- a write at that node is one of the whole
  pub content_set : (guard : Guard) (new : Option (List ℕ)) (store : S) → content store ≡ option_map (after_write guard key new) (content part.store)
      → joined_content (spans content (set parts at (with_node part store))) ≡ option_map (after_write guard key new) (joined_content (spans content parts))
  content_set guard new store is =
      let span = span_here content parts at part within here in
      ap joined_content (spans_set part store content parts at here)
      ∙ joined_written guard key new (spans content parts) (linked content parts placed.rising) at (has_span content parts at key has) _ span.1 (content store) is

-- a fact where the call is done, by another
pub done_by : {A : Type 0} (P Q : Type 0) (result : Result A StoreErr) → (P → Q) → OnOk result P → OnOk result Q
done_by P Q (Ok x) shows p = shows p
done_by P Q (Err e) shows p = tt
