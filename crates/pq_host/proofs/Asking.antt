-- A round that is asked part by part.
use Rattle.std.proofs.Common.{◌≡◌, ◌≤◌, ◌<◌, ◌+◌, ◌-◌, ◌*◌, mul-le-mul_right, ℕ, zero, suc, List, [], ◌∷◌, ◌++◌, length, take, drop, get_or, sum_by, Result, Ok, Err, OnErr, refl, sym, ap, subst, ◌∙◌, arith}
use Rattle.std.specs.List.{AllZip}
use Rattle.std.proofs.lemmas.List.{append_assoc, length-append, length-take-le, length-drop}
use Rattle.std.proofs.lemmas.List.Sums.{sum_by-append, sum_by_push}
use Rattle.std.proofs.lemmas.Slice.Zip.{AllZip-long}
use Rattle.pq_store.specs.Counts.{Counts, raised_counts}
use Rattle.pq_store.proofs.Rounds.{raised_then, all_zip_more}
use Rattle.pq_host.specs.Ends.{LinkEnds, HasAskedAll, HasFailed, HasFailedAmong}
use Rattle.pq_host.specs.Ends.HasAskedAll.{Then}
use Rattle.pq_host.specs.Ends.HasFailed.{Unsent}

pub on_error : {A E : Type 0} (result : Result A E) {P : Type 0} → P → OnErr result P
on_error (Ok _) holds = tt
on_error (Err _) holds = holds

module _ {X : Type 0} where
  -- the items up to a place, and those from there up to a later one
  pub take_on : (xs : List X) (n m : ℕ) → n ≤ m → m ≤ length xs → take n xs ++ take (m - n) (drop n xs) ≡ take m xs
  take_on xs zero m low high = let same : m - 0 ≡ m = omega arith in ap (λ (n : ℕ). take n xs) same
  take_on [] (suc n) m low high = absurd (omega arith)
  take_on (x ∷ xs) (suc n) zero low high = absurd (omega arith)
  take_on (x ∷ xs) (suc n) (suc m) low high =
      let same : suc m - suc n ≡ m - n = omega arith in
      ap (λ (k : ℕ). (x ∷ take n xs) ++ take k (drop n xs)) same ∙ ap (λ l. x ∷ l) (take_on xs n m (omega arith) (omega arith))

  pub part_long : (xs : List X) (n m : ℕ) → n ≤ m → m ≤ length xs → length (take (m - n) (drop n xs)) ≡ m - n
  part_long xs n m low high = let long = length-drop n xs in length-take-le (m - n) (drop n xs) (omega (arith, long))

  pub sum_on : (f : X → ℕ) (xs : List X) (n m : ℕ) → n ≤ m → m ≤ length xs → sum_by f (take m xs) ≡ sum_by f (take n xs) + sum_by f (take (m - n) (drop n xs))
  sum_on f xs n m low high = ap (sum_by f) (sym (take_on xs n m low high)) ∙ sum_by-append f (take n xs) (take (m - n) (drop n xs))

  -- what is left behind a place
  pub rest_on : (xs : List X) (n : ℕ) → xs ≡ take n xs ++ drop n xs
  rest_on xs zero = refl
  rest_on [] (suc n) = refl
  rest_on (x ∷ xs) (suc n) = ap (λ l. x ∷ l) (rest_on xs n)

  -- a list in three parts
  pub parts_of : (xs : List X) (n m : ℕ) → n ≤ m → m ≤ length xs → xs ≡ take n xs ++ (take (m - n) (drop n xs) ++ drop m xs)
  parts_of xs n m low high =
      rest_on xs m ∙ ap (λ l. l ++ drop m xs) (sym (take_on xs n m low high)) ∙ append_assoc (take n xs) (take (m - n) (drop n xs)) (drop m xs)

module _ {A B : Type 0} (R : A → B → Type 0) where
  zip_append : (xs us : List A) (ys bs : List B) → AllZip R xs ys → AllZip R us bs → AllZip R (xs ++ us) (ys ++ bs)
  zip_append [] us [] bs h k = k
  zip_append [] us (y ∷ ys) bs h k = absurd h
  zip_append (x ∷ xs) us [] bs h k = absurd h
  zip_append (x ∷ xs) us (y ∷ ys) bs h k = (h.0, zip_append xs us ys bs h.1 k)

-- what was found up to a place, and the answers to a part behind it
module _ {A B : Type 0} (R : A → B → Type 0) (xs : List A) (found more : List B) (m : ℕ) (low : length found ≤ m) (high : m ≤ length xs)
    (answered : AllZip R (take (m - length found) (drop (length found) xs)) more) where
  pub longer : length (found ++ more) ≡ m
  longer =
      let long = part_long xs (length found) m low high in
      let same = AllZip-long R (take (m - length found) (drop (length found) xs)) more answered in
      let both = length-append found more in
      omega (arith, long, same, both)

  here : take (length found) xs ++ take (m - length found) (drop (length found) xs) ≡ take (length (found ++ more)) xs
  here = take_on xs (length found) m low high ∙ ap (λ (n : ℕ). take n xs) (sym longer)

  pub zip_on : AllZip R (take (length found) xs) found → AllZip R (take (length (found ++ more)) xs) (found ++ more)
  zip_on before =
      subst (λ (l : List A). AllZip R l (found ++ more)) here (zip_append R (take (length found) xs) (take (m - length found) (drop (length found) xs)) found more before answered)

  pub counted_on : (f : A → ℕ) (g : B → ℕ) (a b c : Counts) → b ≡ raised_counts a (sum_by f (take (length found) xs)) (sum_by g found)
      → c ≡ raised_counts b (sum_by f (take (m - length found) (drop (length found) xs))) (sum_by g more) → c ≡ raised_counts a (sum_by f (take (length (found ++ more)) xs)) (sum_by g (found ++ more))
  counted_on f g a b c before one =
      raised_then a b c (sum_by f (take (length found) xs)) (sum_by g found) (sum_by f (take (m - length found) (drop (length found) xs))) (sum_by g more) _ _ before one
      (ap (λ (n : ℕ). sum_by f (take n xs)) longer ∙ sum_on f xs (length found) m low high) (sum_by-append g found more)

  pub asked_on : (most : ℕ) (Part : LinkEnds → LinkEnds → List A → List B → Type 0) (before mid now : LinkEnds) → m - length found ≤ most → HasAskedAll most Part before mid (take (length found) xs) found
      → Part mid now (take (m - length found) (drop (length found) xs)) more → HasAskedAll most Part before now (take (length (found ++ more)) xs) (found ++ more)
  asked_on most Part before mid now few done one =
      let long = part_long xs (length found) m low high in
      subst (λ (l : List A). HasAskedAll most Part before now l (found ++ more)) here
      (Then mid now (take (length found) xs) (take (m - length found) (drop (length found) xs)) found more done (omega (arith, long, few)) one)

module _ {A B : Type 0} (most : ℕ) (Part : LinkEnds → LinkEnds → List A → List B → Type 0) (request : List A → List ℕ) (xs : List A) (before : LinkEnds) where
  -- the next part failed
  pub failed_on : (mid now : LinkEnds) (found : List B) (n m : ℕ) → n ≤ m → m ≤ length xs → HasAskedAll most Part before mid (take n xs) found
      → HasFailed mid now (request (take (m - n) (drop n xs))) → HasFailedAmong most Part request before now xs
  failed_on mid now found n m low high done fails = record {
    mid = mid;
    front = take n xs;
    part = take (m - n) (drop n xs);
    rest = drop m xs;
    found = found;
    whole = parts_of xs n m low high;
    done = done;
    failed = fails;
  }

  -- nothing was asked behind what was found
  pub stopped_on : (now : LinkEnds) (found : List B) → HasAskedAll most Part before now (take (length found) xs) found → HasFailedAmong most Part request before now xs
  stopped_on now found done = record {
    mid = now;
    front = take (length found) xs;
    part = [];
    rest = drop (length found) xs;
    found = found;
    whole = rest_on xs (length found);
    done = done;
    failed = Unsent refl;
  }

-- questions that have no answers of their own
pub asked_behind : {A B : Type 0} (most : ℕ) (Part : LinkEnds → LinkEnds → List A → List B → Type 0) (xs : List A) (before mid now : LinkEnds) (n m : ℕ) → n ≤ m → m ≤ length xs → m - n ≤ most
    → HasAskedAll most Part before mid (take n xs) [] → Part mid now (take (m - n) (drop n xs)) [] → HasAskedAll most Part before now (take m xs) []
asked_behind most Part xs before mid now n m low high few done one =
    let long = part_long xs n m low high in
    subst (λ l. HasAskedAll most Part before now l []) (take_on xs n m low high) (Then mid now (take n xs) (take (m - n) (drop n xs)) [] [] done (omega (arith, long, few)) one)

-- one question more that has the answer of nothing
pub nothing_more : {A B : Type 0} (R : A → B → Type 0) (f : B → ℕ) (nothing : B) → ((asked : A) → R asked nothing) → f nothing ≡ 0 → (asks : List A) (found now : List B) (i : ℕ) (asked : A) → i < length asks → asked ≡ get_or asks i asked
    → now ≡ found ++ nothing ∷ [] → AllZip R (take i asks) found × (sum_by f found ≡ 0) → AllZip R (take (i + 1) asks) now × (sum_by f now ≡ 0)
nothing_more R f nothing answers none asks found now i asked less is pushed h =
    let push = sum_by_push f found nothing in
    let none_found : sum_by f (found ++ nothing ∷ []) ≡ 0 = omega (arith, push, h.1, none) in (
      subst (λ l. AllZip R (take (i + 1) asks) l) (sym pushed) (all_zip_more R asks found i asked nothing less is h.0 (answers asked)),
      ap (sum_by f) pushed ∙ none_found,
    )

pub times_within : (a b c n : ℕ) → a + b ≤ c → a * n + b * n ≤ c * n
times_within a b c n less =
    let sum : (a + b) * n ≡ a * n + b * n = omega arith in
    let more = mul-le-mul_right n less in
    omega (arith, sum, more)
