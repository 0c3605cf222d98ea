-- What changes, one after the other, make of a content.
use Rattle.std.proofs.Common.{◌≡◌, ℕ, zero, suc, Bool, true, false, cond, ◌||◌, List, [], ◌∷◌, Option, Some, None, take, refl, sym, ap, ◌∙◌}
use Rattle.std.specs.Ordering.{eq_by_cmp}
use Rattle.std.specs.Cmp.Lexicographic.{nat_list_cmp_total}
use Rattle.std.specs.FinMap.{get, same_map, get-insert, get-remove, slice_cmp-IsAntisymmetric, nat_cmp-IsAntisymmetric, IsAntisymmetric}
use Rattle.pq_content.specs.Pairs.{Change, changed_content}
use Rattle.pq_store.specs.Content.{key_cmp, Content, written_content}

pub bytes_apart : IsAntisymmetric key_cmp
bytes_apart = slice_cmp-IsAntisymmetric nat_cmp-IsAntisymmetric

-- contents that answer alike are one
pub same_content : (c d : Content) → ((q : List ℕ) → get c q ≡ get d q) → c ≡ d
same_content = same_map nat_list_cmp_total bytes_apart

-- what the key has after the changes, where it had this before
abbrev pub after : List Change → List ℕ → Option (List ℕ) → Option (List ℕ)
after [] q old = old
after (e ∷ es) q old = after es q (cond (eq_by_cmp key_cmp q e.0) e.1 old)

get-written : (k : List ℕ) (w : Option (List ℕ)) (c : Content) (q : List ℕ) → get (written_content k w c) q ≡ cond (eq_by_cmp key_cmp q k) w (get c q)
get-written k (Some v) c q = get-insert nat_list_cmp_total c k v q
get-written k None c q = get-remove nat_list_cmp_total c k q

pub get-changed : (es : List Change) (c : Content) (q : List ℕ) → get (changed_content es c) q ≡ after es q (get c q)
get-changed [] c q = refl
get-changed (e ∷ es) c q = get-changed es (written_content e.0 e.1 c) q ∙ ap (after es q) (get-written e.0 e.1 c q)

-- whether a change is of this key
abbrev pub touches : List Change → List ℕ → Bool
touches [] q = false
touches (e ∷ es) q = eq_by_cmp key_cmp q e.0 || touches es q

pub after_untouched : (es : List Change) (q : List ℕ) (old : Option (List ℕ)) → touches es q ≡ false → after es q old ≡ old
after_untouched [] q old h = refl
after_untouched (e ∷ es) q old h =
    elim (eq_by_cmp key_cmp q e.0) as (λ b. (b || touches es q) ≡ false → after es q (cond b e.1 old) ≡ old) [
      | true ↦ λ h. cc
      | false ↦ λ h. after_untouched es q old h
    ] h

-- what was there before does not matter at a key that is touched
pub after_touched : (es : List Change) (q : List ℕ) (old other : Option (List ℕ)) → touches es q ≡ true → after es q old ≡ after es q other
after_touched [] q old other h = cc
after_touched (e ∷ es) q old other h =
    elim (eq_by_cmp key_cmp q e.0) as (λ b. (b || touches es q) ≡ true → after es q (cond b e.1 old) ≡ after es q (cond b e.1 other)) [
      | true ↦ λ h. refl
      | false ↦ λ h. after_touched es q old other h
    ] h

pub untouched_before : (n : ℕ) (es : List Change) (q : List ℕ) → touches es q ≡ false → touches (take n es) q ≡ false
untouched_before zero es q h = refl
untouched_before (suc n) [] q h = refl
untouched_before (suc n) (e ∷ es) q h =
    elim (eq_by_cmp key_cmp q e.0) as (λ b. (b || touches es q) ≡ false → (b || touches (take n es) q) ≡ false) [
      | true ↦ λ h. h
      | false ↦ λ h. untouched_before n es q h
    ] h

after_again : (n : ℕ) (es : List Change) (q : List ℕ) (old : Option (List ℕ)) (b : Bool) → touches es q ≡ b → after es q (after (take n es) q old) ≡ after es q old
after_again n es q old true h = after_touched es q _ _ h
after_again n es q old false h = ap (after es q) (after_untouched (take n es) q old (untouched_before n es q h))

-- some of the changes and then all of them are as all of them
pub changed_again : (n : ℕ) (es : List Change) (c : Content) → changed_content es (changed_content (take n es) c) ≡ changed_content es c
changed_again n es c = same_content _ _ (λ q. get-changed es (changed_content (take n es) c) q ∙ ap (after es q) (get-changed (take n es) c q) ∙ after_again n es q (get c q) (touches es q) refl ∙ sym (get-changed es c q))
