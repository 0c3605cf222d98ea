-- What changes that are of different keys make of a content, and what more of them do.
use Rattle.std.proofs.Common.{◌≡◌, ℕ, Bool, true, false, cond, List, [], ◌∷◌, Option, Some, None, refl, sym, ap, ◌∙◌}
use Rattle.std.specs.Prelude.{IfSome, IfOk, Result, Ok, Err}
use Rattle.std.specs.Ordering.{eq_by_cmp}
use Rattle.std.specs.Cmp.{eq_by_cmp_equiv}
use Rattle.std.specs.Cmp.Lexicographic.{nat_list_cmp_total}
use Rattle.std.specs.FinMap.{get, get-insert, get-remove}
use Rattle.pq_content.specs.Pairs.{Change, changed_content}
use Rattle.pq_content.proofs.Changes.{same_content, after, get-changed}
use Rattle.pq_content.proofs.Keys.{same_key}
use Rattle.pq_store.specs.Content.{Content, key_cmp, written_content}
use Rattle.pq_store.specs.declared.damage.Broke.{Broke}
use Rattle.pq_pending.specs.Pending.{with_change, with_changes, changed_value, value_or, AreDistinct, seen_content}

pub turned : (a b : List ℕ) → eq_by_cmp key_cmp a b ≡ eq_by_cmp key_cmp b a
turned = (eq_by_cmp_equiv nat_list_cmp_total).symm

pub after_distinct : (changes : List Change) → AreDistinct changes → (key : List ℕ) (old : Option (List ℕ)) → after changes key old ≡ value_or (changed_value changes key) old
after_distinct [] apart key old = refl
after_distinct (change ∷ changes) apart key old = either (after_distinct changes apart.1 key) (eq_by_cmp key_cmp key change.0) refl
  where
    either : ((o : Option (List ℕ)) → after changes key o ≡ value_or (changed_value changes key) o) → (b : Bool) → eq_by_cmp key_cmp key change.0 ≡ b → after changes key (cond b change.1 old) ≡ value_or (cond (eq_by_cmp key_cmp change.0 key) (Some change.1) (changed_value changes key)) old
    either later true is =
        later change.1
        ∙ ap (λ k. value_or (changed_value changes k) change.1) (same_key key change.0 is)
        ∙ ap (λ found. value_or found change.1) apart.0
        ∙ ap (λ b. value_or (cond b (Some change.1) (changed_value changes key)) old) (sym is ∙ turned key change.0)
    either later false is =
        later old
        ∙ ap (λ b. value_or (cond b (Some change.1) (changed_value changes key)) old) (sym is ∙ turned key change.0)

-- what a get answers with the changes made
pub get_changed : (changes : List Change) → AreDistinct changes → (content : Content) (key : List ℕ) → get (changed_content changes content) key ≡ value_or (changed_value changes key) (get content key)
get_changed changes apart content key = get-changed changes content key ∙ after_distinct changes apart key (get content key)

-- where the store may tell its content
pub value_changed : (changes : List Change) → AreDistinct changes → (told : Option Content) (key : List ℕ) (new : Option (List ℕ)) → Some new ≡ changed_value changes key → IfSome (seen_content changes told) (λ content. new ≡ get content key)
value_changed changes apart None key new is = tt
value_changed changes apart (Some content) key new is = sym (get_changed changes apart content key ∙ ap (λ found. value_or found (get content key)) (sym is))

pub value_same : (changes : List Change) → AreDistinct changes → (told : Option Content) (key : List ℕ) (found : Option (List ℕ)) → None ≡ changed_value changes key → IfSome told (λ content. found ≡ get content key) → IfSome (seen_content changes told) (λ content. found ≡ get content key)
value_same changes apart None key found is stored = tt
value_same changes apart (Some content) key found is stored = stored ∙ sym (get_changed changes apart content key ∙ ap (λ o. value_or o (get content key)) (sym is))

pub value_stored : (changes : List Change) → AreDistinct changes → (told : Option Content) (key : List ℕ) → None ≡ changed_value changes key → (result : Result (Option (List ℕ)) Broke) → IfOk result (λ found. IfSome told (λ content. found ≡ get content key)) → IfOk result (λ found. IfSome (seen_content changes told) (λ content. found ≡ get content key))
value_stored changes apart told key is (Ok found) stored = value_same changes apart told key found is stored
value_stored changes apart told key is (Err error) stored = stored

-- ---- one change more

pub value_with : (changes : List Change) (change : Change) (key : List ℕ) → changed_value (with_change changes change) key ≡ cond (eq_by_cmp key_cmp change.0 key) (Some change.1) (changed_value changes key)
value_with [] change key = refl
value_with (first ∷ rest) change key = either (value_with rest change key) (eq_by_cmp key_cmp first.0 change.0) refl
  where
    pass : (b c : Bool) (x y z : Option (Option (List ℕ))) → (b ≡ true → c ≡ true → ⊥) → cond b x (cond c y z) ≡ cond c y (cond b x z)
    pass true true x y z h = absurd (h refl refl)
    pass true false x y z h = refl
    pass false c x y z h = refl

    hidden : (b c : Bool) (x y z : Option (Option (List ℕ))) → c ≡ b → cond b x z ≡ cond b x (cond c y z)
    hidden true c x y z e = refl
    hidden false c x y z e = ap (λ d. cond d y z) (sym e)

    either : changed_value (with_change rest change) key ≡ cond (eq_by_cmp key_cmp change.0 key) (Some change.1) (changed_value rest key) → (b : Bool) → eq_by_cmp key_cmp first.0 change.0 ≡ b → changed_value (cond b (change ∷ rest) (first ∷ with_change rest change)) key ≡ cond (eq_by_cmp key_cmp change.0 key) (Some change.1) (cond (eq_by_cmp key_cmp first.0 key) (Some first.1) (changed_value rest key))
    either later true is = hidden (eq_by_cmp key_cmp change.0 key) (eq_by_cmp key_cmp first.0 key) (Some change.1) (Some first.1) (changed_value rest key) (ap (λ k. eq_by_cmp key_cmp k key) (same_key first.0 change.0 is))
    either later false is =
        ap (cond (eq_by_cmp key_cmp first.0 key) (Some first.1)) later
        ∙ pass (eq_by_cmp key_cmp first.0 key) (eq_by_cmp key_cmp change.0 key) (Some first.1) (Some change.1) (changed_value rest key) (λ p q. cc (sym is ∙ ap (eq_by_cmp key_cmp first.0) (same_key change.0 key q) ∙ p))

one_distinct : (changes : List Change) (change : Change) → AreDistinct changes → AreDistinct (with_change changes change)
one_distinct [] change apart = (refl, tt)
one_distinct (first ∷ rest) change apart = either (one_distinct rest change apart.1) (eq_by_cmp key_cmp first.0 change.0) refl
  where
    either : AreDistinct (with_change rest change) → (b : Bool) → eq_by_cmp key_cmp first.0 change.0 ≡ b → AreDistinct (cond b (change ∷ rest) (first ∷ with_change rest change))
    either later true is = (ap (changed_value rest) (sym (same_key first.0 change.0 is)) ∙ apart.0, apart.1)
    either later false is = (
      value_with rest change first.0
          ∙ ap (λ b. cond b (Some change.1) (changed_value rest first.0)) (turned change.0 first.0 ∙ is)
          ∙ apart.0,
      later,
    )

get-written : (key : List ℕ) (value : Option (List ℕ)) (content : Content) (q : List ℕ) → get (written_content key value content) q ≡ cond (eq_by_cmp key_cmp q key) value (get content q)
get-written key (Some value) content q = get-insert nat_list_cmp_total content key value q
get-written key None content q = get-remove nat_list_cmp_total content key q

-- ---- more changes

pub with_distinct : (old more : List Change) → AreDistinct old → AreDistinct (with_changes old more)
with_distinct old [] apart = apart
with_distinct old (change ∷ more) apart = with_distinct (with_change old change) more (one_distinct old change apart)

one_content : (changes : List Change) (change : Change) → AreDistinct changes → (content : Content) → changed_content (with_change changes change) content ≡ written_content change.0 change.1 (changed_content changes content)
one_content changes change apart content = same_content _ _ (λ q.
    get_changed (with_change changes change) (one_distinct changes change apart) content q
    ∙ ap (λ found. value_or found (get content q)) (value_with changes change q)
    ∙ ap (λ b. value_or (cond b (Some change.1) (changed_value changes q)) (get content q)) (turned change.0 q)
    ∙ inside (eq_by_cmp key_cmp q change.0) (changed_value changes q) (get content q)
    ∙ ap (cond (eq_by_cmp key_cmp q change.0) change.1) (sym (get_changed changes apart content q))
    ∙ sym (get-written change.0 change.1 (changed_content changes content) q))
  where
    inside : (b : Bool) (found : Option (Option (List ℕ))) (old : Option (List ℕ)) → value_or (cond b (Some change.1) found) old ≡ cond b change.1 (value_or found old)
    inside true found old = refl
    inside false found old = refl

-- the changes and then more are the changes with more
pub with_content : (old more : List Change) → AreDistinct old → (content : Content) → changed_content (with_changes old more) content ≡ changed_content more (changed_content old content)
with_content old [] apart content = refl
with_content old (change ∷ more) apart content =
    with_content (with_change old change) more (one_distinct old change apart) content
    ∙ ap (changed_content more) (one_content old change apart content)

pub with_seen : (old more : List Change) → AreDistinct old → (told : Option Content) → seen_content (with_changes old more) told ≡ seen_content more (seen_content old told)
with_seen old more apart None = refl
with_seen old more apart (Some content) = ap Some (with_content old more apart content)
