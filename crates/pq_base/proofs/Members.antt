-- Members, and what holds of each.
use Rattle.std.proofs.Common.{◌≡◌, ℕ, zero, suc, ◌+◌, ◌<◌, ◌≤◌, Bool, true, false, cond, ◌&&◌, ◌⊎◌, inl, inr, List, [], ◌∷◌, ◌++◌, length, map, filter, flat_map, take, get_or, refl, sym, ap, ◌∙◌, subst, arith}
use Rattle.std.specs.Prelude.{All, slice_get, Contains, Option, Some, ◌||◌}
use Rattle.std.specs.List.{AllByRecursion, list_all, list_any, find, range_with_len}
use Rattle.std.proofs.lemmas.List.Elements.{All-head, All-tail}
use Rattle.std.proofs.lemmas.Bool.{and_parts, and_from, or_cases, false≢true}
use Rattle.std.proofs.lemmas.Bool.{cases_eq}
use Rattle.std.proofs.lemmas.Option.{none-some, same_Some}
use Rattle.pq_base.specs.Members.{In}

module _ {X : Type 0} where
  pub each_in : (P : X → Type 0) (xs : List X) → AllByRecursion P xs → (v : X) → In v xs → P v
  each_in P [] h v i = elim i [ ]
  each_in P (x ∷ xs) h v (inl e) = subst P e h.0
  each_in P (x ∷ xs) h v (inr r) = each_in P xs h.1 v r

  pub each_by_in : (P : X → Type 0) (xs : List X) → ((x : X) → In x xs → P x) → AllByRecursion P xs
  each_by_in P [] f = tt
  each_by_in P (x ∷ xs) f = (f x (inl refl), each_by_in P xs (λ y i. f y (inr i)))

  pub in_left : (v : X) (xs ys : List X) → In v xs → In v (xs ++ ys)
  in_left v [] ys i = absurd i
  in_left v (x ∷ xs) ys (inl e) = inl e
  in_left v (x ∷ xs) ys (inr i) = inr (in_left v xs ys i)

  pub in_right : (v : X) (xs ys : List X) → In v ys → In v (xs ++ ys)
  in_right v [] ys i = i
  in_right v (x ∷ xs) ys i = inr (in_right v xs ys i)

  pub in_either : (v : X) (xs ys : List X) → In v (xs ++ ys) → In v xs ⊎ In v ys
  in_either v [] ys i = inr i
  in_either v (x ∷ xs) ys (inl e) = inl (inl e)
  in_either v (x ∷ xs) ys (inr i) = elim (in_either v xs ys i) [ inl a ↦ inl (inr a) | inr b ↦ inr b ]

  pub in_filter : (p : X → Bool) (v : X) (xs : List X) → In v (filter p xs) → In v xs × (p v ≡ true)
  in_filter p v [] i = absurd i
  in_filter p v (x ∷ xs) i =
      elim (p x) as (λ b. p x ≡ b → In v (cond b (x ∷ filter p xs) (filter p xs)) → In v (x ∷ xs) × (p v ≡ true)) [
        | true ↦ λ is i. elim i [
          | inl e ↦ (inl e, ap p (sym e) ∙ is)
          | inr r ↦ let h = in_filter p v xs r in (inr h.0, h.1)
        ]
        | false ↦ λ _ i. let h = in_filter p v xs i in (inr h.0, h.1)
      ] refl i

  pub filter_in : (p : X → Bool) (v : X) (xs : List X) → In v xs → p v ≡ true → In v (filter p xs)
  filter_in p v [] i h = absurd i
  filter_in p v (x ∷ xs) (inl e) h = subst (λ b. In v (cond b (x ∷ filter p xs) (filter p xs))) (sym (ap p e ∙ h)) (inl e)
  filter_in p v (x ∷ xs) (inr i) h =
      elim (p x) as (λ b. In v (cond b (x ∷ filter p xs) (filter p xs))) [ true ↦ inr (filter_in p v xs i h) | false ↦ filter_in p v xs i h ]

  pub filter_all : (p : X → Bool) (xs : List X) → AllByRecursion (λ x. p x ≡ true) xs → filter p xs ≡ xs
  filter_all p [] h = refl
  filter_all p (x ∷ xs) h = ap (λ b. cond b (x ∷ filter p xs) (filter p xs)) h.0 ∙ ap (λ l. x ∷ l) (filter_all p xs h.1)

  pub filter_none : (p : X → Bool) (xs : List X) → AllByRecursion (λ x. p x ≡ false) xs → filter p xs ≡ []
  filter_none p [] h = refl
  filter_none p (x ∷ xs) h = ap (λ b. cond b (x ∷ filter p xs) (filter p xs)) h.0 ∙ filter_none p xs h.1

  pub filter_same : (p r : X → Bool) (xs : List X) → AllByRecursion (λ x. p x ≡ r x) xs → filter p xs ≡ filter r xs
  filter_same p r [] h = refl
  filter_same p r (x ∷ xs) h = ap (λ b. cond b (x ∷ filter p xs) (filter p xs)) h.0 ∙ ap (λ l. cond (r x) (x ∷ l) l) (filter_same p r xs h.1)

  pub filter_both : (p r : X → Bool) (xs : List X) → filter p (filter r xs) ≡ filter (λ x. r x && p x) xs
  filter_both p r [] = refl
  filter_both p r (x ∷ xs) =
      elim (r x) as (λ b. filter p (cond b (x ∷ filter r xs) (filter r xs)) ≡ cond (b && p x) (x ∷ filter (λ x. r x && p x) xs) (filter (λ x. r x && p x) xs)) [
        | true ↦ ap (λ l. cond (p x) (x ∷ l) l) (filter_both p r xs)
        | false ↦ filter_both p r xs
      ]

  pub filter-append : (p : X → Bool) (xs ys : List X) → filter p (xs ++ ys) ≡ filter p xs ++ filter p ys
  filter-append p [] ys = refl
  filter-append p (x ∷ xs) ys = ap (λ l. cond (p x) (x ∷ l) l) (filter-append p xs ys) ∙ elim (p x) as (λ b. cond b (x ∷ (filter p xs ++ filter p ys)) (filter p xs ++ filter p ys) ≡ cond b (x ∷ filter p xs) (filter p xs) ++ filter p ys) [ true ↦ refl | false ↦ refl ]

  pub in_take : (k : ℕ) (v : X) (xs : List X) → In v (take k xs) → In v xs
  in_take zero v xs i = absurd i
  in_take (suc k) v [] i = absurd i
  in_take (suc k) v (x ∷ xs) (inl e) = inl e
  in_take (suc k) v (x ∷ xs) (inr i) = inr (in_take k v xs i)

  pub take_twice : (k : ℕ) (xs : List X) → take k (take k xs) ≡ take k xs
  take_twice zero xs = refl
  take_twice (suc k) [] = refl
  take_twice (suc k) (x ∷ xs) = ap (λ l. x ∷ l) (take_twice k xs)

  -- one that does not pass the first test but the second
  pub fewer : (p r : X → Bool) (v : X) (xs : List X) → ((x : X) → p x ≡ true → r x ≡ true) → In v xs → p v ≡ false → r v ≡ true → length (filter p xs) < length (filter r xs)
  fewer p r v [] h i not_p has_r = absurd i
  fewer p r v (x ∷ xs) h (inl e) not_p has_r =
      let a : length (filter p (x ∷ xs)) ≡ length (filter p xs) = ap (λ b. length (cond b (x ∷ filter p xs) (filter p xs))) (ap p e ∙ not_p) in
      let b : length (filter r (x ∷ xs)) ≡ suc (length (filter r xs)) = ap (λ b. length (cond b (x ∷ filter r xs) (filter r xs))) (ap r e ∙ has_r) in
      let c : length (filter p xs) ≤ length (filter r xs) = most p r xs h in
      omega arith
    where
      most : (p r : X → Bool) (xs : List X) → ((x : X) → p x ≡ true → r x ≡ true) → length (filter p xs) ≤ length (filter r xs)
      most p r [] h = omega arith
      most p r (x ∷ xs) h =
          let rest = most p r xs h in
          elim (p x) as (λ b. p x ≡ b → length (cond b (x ∷ filter p xs) (filter p xs)) ≤ length (filter r (x ∷ xs))) [
            | true ↦ λ is. subst (λ b. length (x ∷ filter p xs) ≤ length (cond b (x ∷ filter r xs) (filter r xs))) (sym (h x is)) (omega arith)
            | false ↦ λ _. elim (r x) as (λ b. length (filter p xs) ≤ length (cond b (x ∷ filter r xs) (filter r xs))) [ true ↦ omega arith | false ↦ rest ]
          ] refl
  fewer p r v (x ∷ xs) h (inr i) not_p has_r =
      let rest = fewer p r v xs h i not_p has_r in
      elim (p x) as (λ b. p x ≡ b → length (cond b (x ∷ filter p xs) (filter p xs)) < length (filter r (x ∷ xs))) [
        | true ↦ λ is. subst (λ b. length (x ∷ filter p xs) < length (cond b (x ∷ filter r xs) (filter r xs))) (sym (h x is)) (omega arith)
        | false ↦ λ _. elim (r x) as (λ b. length (filter p xs) < length (cond b (x ∷ filter r xs) (filter r xs))) [ true ↦ omega arith | false ↦ rest ]
      ] refl

module _ {X Y : Type 0} where
  pub in_map : (f : X → Y) (v : Y) (xs : List X) → In v (map f xs) → (x : X) × In x xs × (f x ≡ v)
  in_map f v [] i = absurd i
  in_map f v (x ∷ xs) (inl e) = (x, inl refl, e)
  in_map f v (x ∷ xs) (inr i) = let h = in_map f v xs i in (h.0, inr h.1, h.2)

  pub map_in : (f : X → Y) (x : X) (xs : List X) → In x xs → In (f x) (map f xs)
  map_in f x [] i = absurd i
  map_in f x (y ∷ xs) (inl e) = inl (ap f e)
  map_in f x (y ∷ xs) (inr i) = inr (map_in f x xs i)

  pub in_flat_map : (g : X → List Y) (v : Y) (xs : List X) → In v (flat_map g xs) → (x : X) × In x xs × In v (g x)
  in_flat_map g v [] i = absurd i
  in_flat_map g v (x ∷ xs) i = elim (in_either v (g x) (flat_map g xs) i) [
    | inl a ↦ (x, inl refl, a)
    | inr b ↦ let h = in_flat_map g v xs b in (h.0, inr h.1, h.2)
  ]

  pub flat_map_in : (g : X → List Y) (v : Y) (x : X) (xs : List X) → In x xs → In v (g x) → In v (flat_map g xs)
  flat_map_in g v x [] i h = absurd i
  flat_map_in g v x (y ∷ xs) (inl e) h = in_left v (g y) (flat_map g xs) (subst (λ (z : X). In v (g z)) (sym e) h)
  flat_map_in g v x (y ∷ xs) (inr i) h = in_right v (g y) (flat_map g xs) (flat_map_in g v x xs i h)

  pub filter-map : (p : Y → Bool) (f : X → Y) (xs : List X) → filter p (map f xs) ≡ map f (filter (λ x. p (f x)) xs)
  filter-map p f [] = refl
  filter-map p f (x ∷ xs) = ap (λ l. cond (p (f x)) (f x ∷ l) l) (filter-map p f xs) ∙ elim (p (f x)) as (λ b. cond b (f x ∷ map f (filter (λ x. p (f x)) xs)) (map f (filter (λ x. p (f x)) xs)) ≡ map f (cond b (x ∷ filter (λ x. p (f x)) xs) (filter (λ x. p (f x)) xs))) [ true ↦ refl | false ↦ refl ]

  pub filter-flat_map : (p : Y → Bool) (g : X → List Y) (xs : List X) → filter p (flat_map g xs) ≡ flat_map (λ x. filter p (g x)) xs
  filter-flat_map p g [] = refl
  filter-flat_map p g (x ∷ xs) = filter-append p (g x) (flat_map g xs) ∙ ap (λ l. filter p (g x) ++ l) (filter-flat_map p g xs)

  pub flat_map_same : (g h : X → List Y) (xs : List X) → AllByRecursion (λ x. g x ≡ h x) xs → flat_map g xs ≡ flat_map h xs
  flat_map_same g h [] e = refl
  flat_map_same g h (x ∷ xs) e = λ i. e.0 i ++ flat_map_same g h xs e.1 i

  -- what an element gives nothing for may be dropped
  pub flat_map-filter : (p : X → Bool) (g h : X → List Y) (xs : List X) → AllByRecursion (λ x. cond (p x) (g x) [] ≡ h x) xs → flat_map g (filter p xs) ≡ flat_map h xs
  flat_map-filter p g h [] e = refl
  flat_map-filter p g h (x ∷ xs) e =
      elim (p x) as (λ b. flat_map g (cond b (x ∷ filter p xs) (filter p xs)) ≡ cond b (g x) [] ++ flat_map g (filter p xs)) [ true ↦ refl | false ↦ refl ]
      ∙ (λ i. e.0 i ++ flat_map-filter p g h xs e.1 i)

pub each_append : {X : Type 0} (P : X → Type 0) (xs ys : List X) → AllByRecursion P xs → AllByRecursion P ys → AllByRecursion P (xs ++ ys)
each_append P [] ys g h = h
each_append P (x ∷ xs) ys g h = (g.0, each_append P xs ys g.1 h)

pub each_flat_map : {X Y : Type 0} (P : Y → Type 0) (g : X → List Y) (xs : List X) → ((x : X) → In x xs → AllByRecursion P (g x)) → AllByRecursion P (flat_map g xs)
each_flat_map P g [] h = tt
each_flat_map P g (x ∷ xs) h = each_append P (g x) (flat_map g xs) (h x (inl refl)) (each_flat_map P g xs (λ y i. h y (inr i)))

-- ---- numbers from one on
pub in_range : (v a n : ℕ) → In v (range_with_len a n) → (a ≤ v) × (v < a + n)
in_range v a zero i = absurd i
in_range v a (suc n) (inl e) = (omega (arith, e), omega (arith, e))
in_range v a (suc n) (inr i) = let h = in_range v (a + 1) n i in (omega (arith, h.0), omega (arith, h.1))

pub range_in : (v a n : ℕ) → a ≤ v → v < a + n → In v (range_with_len a n)
range_in v a zero low high = absurd (omega arith)
range_in v a (suc n) low high = elim (cases_eq a v) [
  | inl same ↦ inl same
  | inr other ↦ inr (range_in v (a + 1) n (omega arith) (omega arith))
]

-- ---- tests of all and of some
pub all_at : {X : Type 0} (p : X → Bool) (xs : List X) → list_all p xs ≡ true → (x : X) → In x xs → p x ≡ true
all_at p [] h x i = absurd i
all_at p (y ∷ xs) h x (inl e) = ap p (sym e) ∙ (and_parts _ _ h).0
all_at p (y ∷ xs) h x (inr i) = all_at p xs (and_parts _ _ h).1 x i

pub all_from : {X : Type 0} (p : X → Bool) (xs : List X) → ((x : X) → In x xs → p x ≡ true) → list_all p xs ≡ true
all_from p [] f = refl
all_from p (x ∷ xs) f = and_from _ _ (f x (inl refl)) (all_from p xs (λ y i. f y (inr i)))

pub any_at : {X : Type 0} (p : X → Bool) (xs : List X) → list_any p xs ≡ true → (x : X) × In x xs × (p x ≡ true)
any_at p [] h = absurd (false≢true h)
any_at p (x ∷ xs) h = elim (or_cases _ _ h) [
  | inl e ↦ (x, inl refl, e)
  | inr r ↦ let a = any_at p xs r in (a.0, inr a.1, a.2)
]

pub any_from : {X : Type 0} (p : X → Bool) (xs : List X) (x : X) → In x xs → p x ≡ true → list_any p xs ≡ true
any_from p [] x i h = absurd i
any_from p (y ∷ xs) x (inl e) h = ap (λ b. b || list_any p xs) (ap p e ∙ h)
any_from p (y ∷ xs) x (inr i) h = ap (λ b. p y || b) (any_from p xs x i h) ∙ either (p y)
  where
    either : (b : Bool) → (b || true) ≡ true
    either true = refl
    either false = refl

pub found : {X : Type 0} (p : X → Bool) (xs : List X) (x : X) → In x xs → p x ≡ true → (y : X) × (find p xs ≡ Some y) × In y xs × (p y ≡ true)
found p [] x i h = absurd i
found p (y ∷ xs) x i h =
    elim (p y) as (λ b. p y ≡ b → (z : _) × (cond b (Some y) (find p xs) ≡ Some z) × In z (y ∷ xs) × (p z ≡ true)) [
      | true ↦ λ is. (y, refl, inl refl, is)
      | false ↦ λ is. elim i [
        | inl e ↦ absurd (false≢true (sym is ∙ ap p e ∙ h))
        | inr r ↦ let f = found p xs x r h in (f.0, f.1, inr f.2, f.3)
      ]
    ] refl

-- a member has a place
pub all_member : {X : Type 0} (P : X → Type 0) (xs : List X) → All P xs → (v : X) → In v xs → P v
all_member P [] h v i = absurd i
all_member P (x ∷ xs) h v (inl e) = subst P e (All-head P x xs h)
all_member P (x ∷ xs) h v (inr i) = all_member P xs (All-tail P x xs h) v i

pub at_in : {X : Type 0} (xs : List X) (k : ℕ) (d : X) → k < length xs → In (get_or xs k d) xs
at_in [] k d h = absurd (omega arith)
at_in (x ∷ xs) zero d h = inl refl
at_in (x ∷ xs) (suc k) d h = inr (at_in xs k d (omega arith))

pub get_at : {X : Type 0} (xs : List X) (k : ℕ) (d : X) → k < length xs → slice_get xs k ≡ Some (get_or xs k d)
get_at [] k d h = absurd (omega arith)
get_at (x ∷ xs) zero d h = refl
get_at (x ∷ xs) (suc k) d h = get_at xs k d (omega arith)

pub member_at : {X : Type 0} (v : X) (xs : List X) (d : X) → In v xs → (k : ℕ) × (k < length xs) × (get_or xs k d ≡ v)
member_at v [] d i = absurd i
member_at v (x ∷ xs) d (inl e) = (0, omega arith, e)
member_at v (x ∷ xs) d (inr i) = let h = member_at v xs d i in (suc h.0, omega (arith, h.1), h.2)

-- ---- what holds of each

pub each_weaker : {X : Type 0} (P Q : X → Type 0) → ((x : X) → P x → Q x) → (xs : List X) → AllByRecursion P xs → AllByRecursion Q xs
each_weaker P Q f [] h = tt
each_weaker P Q f (x ∷ xs) h = (f x h.0, each_weaker P Q f xs h.1)

pub each_both : {X : Type 0} (P Q R : X → Type 0) → ((x : X) → P x → Q x → R x) → (xs : List X) → AllByRecursion P xs → AllByRecursion Q xs → AllByRecursion R xs
each_both P Q R f [] g h = tt
each_both P Q R f (x ∷ xs) g h = (f x g.0 h.0, each_both P Q R f xs g.1 h.1)

-- ---- members by their places

pub in_from_contains : {X : Type 0} (xs : List X) (v : X) → Contains xs v → In v xs
in_from_contains [] v h = absurd (let low = h.1 in omega arith)
in_from_contains (x ∷ xs) v (zero, low, at) = inl at
in_from_contains (x ∷ xs) v (suc k, low, at) = inr (in_from_contains xs v (k, omega arith, at))

pub contained : {X : Type 0} (v : X) (xs : List X) → In v xs → Contains xs v
contained v [] i = absurd i
contained v (x ∷ xs) (inl e) = (0, omega arith, e)
contained v (x ∷ xs) (inr i) = let r = contained v xs i in (suc r.0, let less = r.1 in omega arith, r.2)

-- ---- what a filter keeps

module _ {X : Type 0} (p : X → Bool) where
  pub each_filter : (P : X → Type 0) (xs : List X) → AllByRecursion P xs → AllByRecursion P (filter p xs)
  each_filter P [] h = tt
  each_filter P (x ∷ xs) h = elim (p x) as (λ b. AllByRecursion P (cond b (x ∷ filter p xs) (filter p xs))) [ true ↦ (h.0, each_filter P xs h.1) | false ↦ each_filter P xs h.1 ]

  -- a second filter keeps no more of what a first one left
  pub fewer_kept : (q : X → Bool) (xs : List X) → length (filter q (filter p xs)) ≤ length (filter q xs)
  fewer_kept q [] = omega arith
  fewer_kept q (x ∷ xs) =
      let rest = fewer_kept q xs in
      elim (p x) as (λ b. length (filter q (cond b (x ∷ filter p xs) (filter p xs))) ≤ length (cond (q x) (x ∷ filter q xs) (filter q xs))) [
        | true ↦ elim (q x) as (λ b. length (cond b (x ∷ filter q (filter p xs)) (filter q (filter p xs))) ≤ length (cond b (x ∷ filter q xs) (filter q xs))) [ true ↦ omega arith | false ↦ rest ]
        | false ↦ elim (q x) as (λ b. length (filter q (filter p xs)) ≤ length (cond b (x ∷ filter q xs) (filter q xs))) [ true ↦ omega arith | false ↦ rest ]
      ]

  -- and fewer, where one that it would keep was left out
  pub one_less_kept : (q : X → Bool) (xs : List X) (v : X) → In v xs → q v ≡ true → p v ≡ false → length (filter q (filter p xs)) < length (filter q xs)
  one_less_kept q [] v i keeps drops = absurd i
  one_less_kept q (x ∷ xs) v (inl e) keeps drops =
      let dropped : p x ≡ false = ap p e ∙ drops in
      let kept : q x ≡ true = ap q e ∙ keeps in
      let rest = fewer_kept q xs in
      let left : length (filter q (filter p (x ∷ xs))) ≡ length (filter q (filter p xs)) = ap (λ b. length (filter q (cond b (x ∷ filter p xs) (filter p xs)))) dropped in
      let right : length (filter q (x ∷ xs)) ≡ suc (length (filter q xs)) = ap (λ b. length (cond b (x ∷ filter q xs) (filter q xs))) kept in
      omega arith
  one_less_kept q (x ∷ xs) v (inr r) keeps drops =
      let rest = one_less_kept q xs v r keeps drops in
      elim (p x) as (λ b. length (filter q (cond b (x ∷ filter p xs) (filter p xs))) < length (cond (q x) (x ∷ filter q xs) (filter q xs))) [
        | true ↦ elim (q x) as (λ b. length (cond b (x ∷ filter q (filter p xs)) (filter q (filter p xs))) < length (cond b (x ∷ filter q xs) (filter q xs))) [ true ↦ omega arith | false ↦ rest ]
        | false ↦ elim (q x) as (λ b. length (filter q (filter p xs)) < length (cond b (x ∷ filter q xs) (filter q xs))) [ true ↦ omega arith | false ↦ rest ]
      ]

  -- what is looked for is found as before, where a filter leaves all that it may be
  pub find-filter : (q : X → Bool) (xs : List X) → ((x : X) → q x ≡ true → p x ≡ true) → find q (filter p xs) ≡ find q xs
  find-filter q [] h = refl
  find-filter q (x ∷ xs) h =
      let rest = find-filter q xs h in
      elim (p x) as (λ b. p x ≡ b → find q (cond b (x ∷ filter p xs) (filter p xs)) ≡ cond (q x) (Some x) (find q xs)) [
        | true ↦ λ _. ap (λ (o : Option X). cond (q x) (Some x) o) rest
        | false ↦ λ drops. elim (q x) as (λ b. q x ≡ b → find q (filter p xs) ≡ cond b (Some x) (find q xs)) [
          | true ↦ λ keeps. absurd (false≢true (sym drops ∙ h x keeps))
          | false ↦ λ _. rest
        ] refl
      ] refl

-- a filter that all pass
pub keep_all : {X : Type 0} (xs : List X) → filter (λ (x : X). true) xs ≡ xs
keep_all [] = refl
keep_all (x ∷ xs) = ap (λ l. x ∷ l) (keep_all xs)

-- what is found is there
pub in_from_find : {X : Type 0} (q : X → Bool) (xs : List X) (v : X) → find q xs ≡ Some v → In v xs
in_from_find q [] v e = absurd (none-some v e)
in_from_find {X} q (x ∷ xs) v e =
    elim (q x) as (λ b. cond b (Some x) (find q xs) ≡ Some v → (x ≡ v) ⊎ In v xs) [
      | true ↦ λ e. inl (same_Some x v e)
      | false ↦ λ e. inr (in_from_find q xs v e)
    ] e
