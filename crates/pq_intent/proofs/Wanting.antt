-- Where memory was wanting: the last call was not made.
use Rattle.std.proofs.Common.{◌≡◌, suc, ◌+◌, ◌≤◌, List, [], ◌∷◌, ◌++◌, length, take, Option, refl, sym, ap, ◌∙◌, arith}
use Rattle.std.proofs.lemmas.List.{take_at, take-append-le}
use Rattle.pq_content.specs.Pairs.{Change}
use Rattle.pq_store.specs.Content.{Content}
use Rattle.pq_store.specs.Counts.{Counts}
use Rattle.pq_intent.specs.Changing.{content_after, StopsBefore}
use Rattle.pq_intent.proofs.Steps.{after_none, after-append}

-- nothing was made, and one call wasn't either
pub stops_first : (writes : List Change) (before after : Counts) (old new : Option Content) → after.ops ≡ before.ops + 1 → new ≡ old → StopsBefore writes before after old new
stops_first writes before after old new one same = record { made = 0; counted = omega (arith, one); is = same ∙ sym (after_none old) }

-- partway through the first of them
pub stops_front : (xs ys : List Change) (before after : Counts) (old new : Option Content) → after.ops ≤ before.ops + length xs → StopsBefore xs before after old new → StopsBefore (xs ++ ys) before after old new
stops_front xs ys before after old new few p =
    let within : p.made ≤ length xs = let counted = p.counted in omega (arith, few, counted) in
    record { made = p.made; counted = p.counted; is = p.is ∙ ap (λ (l : List Change). content_after l old) (sym (take-append-le p.made xs ys within)) }

-- at the last one
pub stops_last : (xs : List Change) (x : Change) (before mid after : Counts) (old between new : Option Content) → mid.ops ≡ before.ops + length xs → after.ops ≡ mid.ops + 1 → between ≡ content_after xs old → new ≡ between → StopsBefore (xs ++ x ∷ []) before after old new
stops_last xs x before mid after old between new all one made same = record {
  made = length xs;
  counted = omega (arith, all, one);
  is = same ∙ made ∙ ap (λ (l : List Change). content_after l old) (sym (take_at xs (x ∷ []) (length xs) refl));
}

-- behind the first one
pub stops_behind : (x : Change) (xs : List Change) (before mid after : Counts) (old between new : Option Content) → mid.ops ≡ before.ops + 1 → between ≡ content_after (x ∷ []) old → StopsBefore xs mid after between new → StopsBefore (x ∷ xs) before after old new
stops_behind x xs before mid after old between new one made p = record {
  made = suc p.made;
  counted = let counted = p.counted in omega (arith, one, counted);
  is = p.is ∙ ap (content_after (take p.made xs)) made ∙ sym (after-append (x ∷ []) (take p.made xs) old);
}
